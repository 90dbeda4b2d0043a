-- The class names that are numbered, and the new number of a state. Assumes nothing.
use Rattle.std.specs.Prelude.{ℕ, ◌≤◌, ◌<◌, ◌≡◌, List, eqb, length, take}
use Rattle.meaning.specs.Pick.{pick}
use Rattle.meaning.specs.Search.{at}
use Rattle.meaning.specs.Classes.{number}
use Rattle.meaning.specs.ClassesLaws.{Named}

-- The class names of n states in an array: right, and 65,535 for a state that is in no class.
pub record Names (n : ℕ) (names : List ℕ) : Type 0 where
  pub few : n ≤ 256
  pub long : length names ≡ 256
  pub right : Named n (take n names)
  pub seated : (s : ℕ) → s < n → (at (take n names) s ≡ 65535 → ⊥) → at (take n names) s < n

-- The new number of a state, by the classes' names: that of its class, and 65,535 for a state in none.
unfoldable pub new_number : List ℕ → ℕ → ℕ
new_number P s = pick (eqb (at P s) 65535) 65535 (number P s)
