-- The walk as the code makes it: codes below 256 in a queue, each of which has a number once it is met.
-- Assumes nothing.
use Rattle.std.specs.Prelude.{ℕ, zero, suc, ◌≤◌, ◌<◌, ◌≡◌, Bool, not, List, [], ◌∷◌, ◌++◌, eqb, length, take, replicate}
use Rattle.std.proofs.Math.Option.{some}
use Rattle.meaning.specs.Pick.{pick}
use Rattle.meaning.specs.Search.{at}
use Rattle.meaning.specs.Reach.{among}
use Rattle.meaning.proofs.ReachLaws.{Codes}
use Rattle.table.specs.Table.{Table, look, Rows}

-- The first `met` entries of the queue are the codes met so far, and these have a number: 65,535 is none.
pub record Queue (codes numbers : List ℕ) (met : ℕ) : Type 0 where
  pub codes_long : length codes ≡ 256
  pub numbers_long : length numbers ≡ 256
  pub most : met ≤ 256
  pub once : Codes 256 (take met codes)
  pub numbered : (c : ℕ) → c < 256 → eqb (at numbers c) 65535 ≡ not (among (take met codes) c)

-- The codes met so far are `all`.
pub record Walked (codes numbers : List ℕ) (met : ℕ) (all : List ℕ) : Type 0 where
  pub queue : Queue codes numbers met
  pub says : take met codes ≡ all

-- What a walk is lent: the edges of n states, none of which leads elsewhere, one of the states, and a queue; no state has a number.
pub record Walkable (T : Table) (n start : ℕ) (codes numbers : List ℕ) : Type 0 where
  pub few : n ≤ 256
  pub rows : Rows T n
  pub inside : (s y t : ℕ) → look T s y ≡ some t → t < n
  pub begins : start < n
  pub codes_long : length codes ≡ 256
  pub fresh : numbers ≡ replicate 256 65535

-- The numbers below n that pass, ascending.
unfoldable pub those : (ℕ → Bool) → ℕ → List ℕ
those p zero = []
those p (suc n) = those p n ++ pick (p n) (n ∷ []) []

-- The first r entries of the list are the numbers below n that pass, ascending.
pub record Lists (p : ℕ → Bool) (n : ℕ) (list : List ℕ) (r : ℕ) : Type 0 where
  pub front : take r list ≡ those p n
  pub few : r ≤ n
  pub long : length list ≡ 256

-- The numbers of a list ascend, and are below n.
pub record Rises (n : ℕ) (xs : List ℕ) : Type 0 where
  pub below : (j : ℕ) → j < length xs → at xs j < n
  pub rising : (i j : ℕ) → i < j → j < length xs → at xs i < at xs j
