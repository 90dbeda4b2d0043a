-- What can be reached (document 02, "States nobody can reach"): a walk over any edges from a first code, breadth first, labels
-- ascending, which gives the codes in the order in which they are first met. A code is a number that stands for what an edge
-- leads to: here a state.
-- Assumes nothing.
use Rattle.std.specs.Prelude.{ℕ, zero, suc, Bool, false, ◌||◌, List, [], ◌∷◌, ◌++◌, eqb, ltb, length}
use Rattle.std.proofs.Math.Option.{Option, none, some}
use Rattle.meaning.specs.Pick.{pick}
use Rattle.meaning.specs.Search.{at}

-- c is one of the codes.
unfoldable pub among : List ℕ → ℕ → Bool
among [] c = false
among (x ∷ xs) c = eqb x c || among xs c

-- An edge is followed: the code that it leads to goes to the end of those met so far, unless it is one of them.
unfoldable pub meet : List ℕ → Option ℕ → List ℕ
meet met none = met
meet met (some c) = pick (among met c) met (met ++ (c ∷ []))

-- A code is visited: its edges at the labels below y are followed, labels ascending. `out` is its edge at a label.
unfoldable pub visited : (ℕ → Option ℕ) → ℕ → List ℕ → List ℕ
visited out zero met = met
visited out (suc y) met = meet (visited out y met) (out y)

-- The codes met once the first i of them are visited, in the order in which they are first met. Where there are no more than i,
-- all of them are. `next` is the edge of a code at a label, m the number of labels.
unfoldable pub walked : (ℕ → ℕ → Option ℕ) → ℕ → ℕ → ℕ → List ℕ
walked next m first zero = first ∷ []
walked next m first (suc i) =
    let met = walked next m first i in
    pick (ltb i (length met)) (visited (next (at met i)) m met) met

-- The walk over codes below n. `walk_closed` says that n visits are enough.
abbrev pub walk : (ℕ → ℕ → Option ℕ) → ℕ → ℕ → ℕ → List ℕ
walk next m n first = walked next m first n

-- A code is reached where the walk meets it. `reached-led` and `led-reached` say that this is so exactly where some sequence of
-- labels leads to it from the first code.
unfoldable pub reached : (ℕ → ℕ → Option ℕ) → ℕ → ℕ → ℕ → ℕ → Bool
reached next m n first c = among (walk next m n first) c

-- Where a sequence of labels leads from code s; none where an edge is missing.
unfoldable pub led : (ℕ → ℕ → Option ℕ) → ℕ → List ℕ → Option ℕ
led next s [] = some s
led next s (y ∷ ys) = elim (next s y) [ none ↦ none | some t ↦ led next t ys ]
