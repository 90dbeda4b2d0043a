-- The names of the classes at the beginning and after a round. They stand in a list that may be longer than n.
-- Assumes nothing.
use Rattle.std.specs.Prelude.{ℕ, ◌≡◌, Bool, true, false, ◌&&◌, List, eqb, length, take}
use Rattle.meaning.specs.Search.{least, at}
use Rattle.meaning.specs.Classes.{split}
use Rattle.meaning.specs.Reduced.{Grouping}
use Rattle.partition.specs.declared.Partition.{Partition}

-- The smallest state below n that takes part and has the colour of s.
unfoldable pub twin : (ℕ → Bool) → List ℕ → ℕ → ℕ → ℕ
twin live hues n s = least (λ t. live t && eqb (at hues t) (at hues s)) n

-- The name of s at the beginning.
unfoldable pub beginning : (ℕ → Bool) → List ℕ → ℕ → ℕ → ℕ
beginning live hues n s = elim (live s) [ true ↦ twin live hues n s | false ↦ 65535 ]

-- The names after a round at class c.
unfoldable pub rounded : Grouping → ℕ → (ℕ → ℕ → Bool) → List ℕ → ℕ → List ℕ
rounded group n clash P c = split n P c (group (λ s. eqb (at P s) c) clash n)

-- The partition has these names for n states, and this many rounds are made.
pub record Holds (Q : Partition) (n : ℕ) (P : List ℕ) (k : ℕ) : Type 0 where
  pub long : length Q.names ≡ 256
  pub names : take n Q.names ≡ P
  pub rounds : Q.rounds ≡ k
