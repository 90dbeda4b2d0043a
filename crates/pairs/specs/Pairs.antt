-- The conflicting pair that the search of a class finds.
-- Assumes nothing.
use Rattle.std.specs.Prelude.{ℕ, ◌<◌, ◌≡◌, Bool, ◌&&◌, Option, Some, None, List, eqb, ltb}
use Rattle.meaning.specs.Pick.{pick}
use Rattle.meaning.specs.Search.{any, least, at}
use Rattle.meaning.specs.Classes.{first}

-- b is a later member of class c that conflicts with a; a is a member that has such a later one.
unfoldable pub against : (ℕ → ℕ → Bool) → List ℕ → ℕ → ℕ → ℕ → Bool
against clash P c a b = ltb a b && (eqb (at P b) c && clash a b)

unfoldable pub opposed : ℕ → (ℕ → ℕ → Bool) → List ℕ → ℕ → ℕ → Bool
opposed n clash P c a = eqb (at P a) c && any (against clash P c a) n

-- The conflicting pair of class c with the smallest first member, and of those with the smallest second.
unfoldable pub found_of : ℕ → (ℕ → ℕ → Bool) → List ℕ → ℕ → Option (ℕ × ℕ)
found_of n clash P c = let a = least (opposed n clash P c) n in pick (ltb a n) (Some (a, least (against clash P c a) n)) None

-- The class that is found is the first one with a conflicting pair; there is none where that is n.
abbrev pub Parted : ℕ → (ℕ → ℕ → Bool) → List ℕ → Option ℕ → Type 0
Parted n clash P None = first n clash P ≡ n
Parted n clash P (Some c) = (first n clash P ≡ c) × (c < n)
