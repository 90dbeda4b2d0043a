-- Sets of numbers below 64 in one word, a bit each, and of numbers below 256 in four words.
-- Assumes nothing.
use Rattle.std.specs.Prelude.{ℕ, ◌/◌, ◌%◌, ◌^◌, ◌<◌, ◌≡◌, Bool, true, false, not, ◌&&◌, Option, Some, None, List, eqb, get_or}

-- k is in the set.
unfoldable pub holds : ℕ → ℕ → Bool
holds set k = eqb (set / 2 ^ k % 2) 1

-- k is the smallest number of the set.
pub record Lowest (set k : ℕ) : Type 0 where
  pub there : holds set k ≡ true
  pub below : (j : ℕ) → j < k → holds set j ≡ false

-- One step through a set's numbers: the smallest of `rest` is handed out, and `left` are the others; or there is none.
abbrev pub Taken : ℕ → Option ℕ → ℕ → Type 0
Taken rest None left = (rest ≡ 0) × (left ≡ 0)
Taken rest (Some k) left = (k < 64) × Lowest rest k × ((j : ℕ) → holds left j ≡ (holds rest j && not (eqb k j))) × (left < rest)

-- k is in the set that four words hold: number k % 64 of word k / 64.
unfoldable pub contains : List ℕ → ℕ → Bool
contains words k = holds (get_or words (k / 64) 0) (k % 64)

-- k is the smallest number that is not in the set.
pub record Missing (words : List ℕ) (k : ℕ) : Type 0 where
  pub gone : contains words k ≡ false
  pub below : (j : ℕ) → j < k → contains words j ≡ true
