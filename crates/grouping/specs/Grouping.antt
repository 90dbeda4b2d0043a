-- The groups of a class as the code has them: the set of those that are taken, and groups in a list that may be longer than n.
-- Assumes nothing.
use Rattle.std.specs.Prelude.{ℕ, ◌≤◌, ◌<◌, ◌≡◌, Bool, false, ◌&&◌, List, eqb, length, take}
use Rattle.meaning.specs.Search.{any, at}
use Rattle.meaning.specs.Classes.{groups}
use Rattle.sets.specs.Sets.{contains}

-- Among the states before t, a member of class c that conflicts with s has group g.
unfoldable pub taken : (ℕ → ℕ → Bool) → List ℕ → List ℕ → ℕ → ℕ → ℕ → ℕ → Bool
taken clash P G c s g t = any (λ u. eqb (at P u) c && (clash u s && eqb (at G u) g)) t

-- What marking is lent: the groups of the states before s, which is a member of class c.
pub record Marking (P G : List ℕ) (n c s : ℕ) : Type 0 where
  pub inside : s < n
  pub member : at P s ≡ c
  pub groups_long : length G ≡ 256

-- No group from `top` on is marked.
abbrev pub Below : List ℕ → ℕ → Type 0
Below marks top = (g : ℕ) → top ≤ g → contains marks g ≡ false

-- A group is marked where a state before t takes it.
pub record Marks (clash : ℕ → ℕ → Bool) (P G : List ℕ) (c s : ℕ) (marks : List ℕ) (t : ℕ) : Type 0 where
  pub says : (g : ℕ) → g < 256 → contains marks g ≡ taken clash P G c s g t

-- The groups of the states before n stand in the list, and 0 from there on.
pub record Grouped (clash : ℕ → ℕ → Bool) (P : List ℕ) (c : ℕ) (G : List ℕ) (n : ℕ) : Type 0 where
  pub long : length G ≡ 256
  pub front : take n G ≡ groups (λ s. eqb (at P s) c) clash n
  pub low : (t : ℕ) → t < n → at G t < 256
  pub rest : (t : ℕ) → n ≤ t → at G t ≡ 0
