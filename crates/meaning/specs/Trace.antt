-- Tracing observations (document 01, "Tracing"): a ride over any way of stepping and of colouring, and the ride of a filter.
-- Assumes nothing.
use Rattle.std.specs.Prelude.{ℕ, suc, ◌&&◌, List, [], ◌∷◌, eqb, get_or}
use Rattle.std.proofs.Math.Option.{Option, none, some}
use Rattle.meaning.specs.Pick.{pick}
use Rattle.meaning.specs.Filter.{Edge, Filter}

-- The target of the first edge with this source and label, if there is one.
unfoldable pub target : List Edge → ℕ → ℕ → Option ℕ
target [] s y = none
target (e ∷ es) s y = pick (eqb e.source s && eqb e.label y) (some e.target) (target es s y)

-- The edge of a state at a label: its target, or none where the observation cannot occur.
unfoldable pub edge : Filter → ℕ → ℕ → Option ℕ
edge F s y = target F.edges s y

-- The colour of a state; 0 for what is no state, which no ride comes to.
unfoldable pub colour : Filter → ℕ → ℕ
colour F s = get_or F.colours s 0

-- The colours that a sequence shows from state s: that of s, and one after each observation up to the first without an edge.
-- `next` is the edge of a state at a label, `hue` the colour of a state.
unfoldable pub ridden : (ℕ → ℕ → Option ℕ) → (ℕ → ℕ) → ℕ → List ℕ → List ℕ
ridden next hue s [] = hue s ∷ []
ridden next hue s (y ∷ ys) = hue s ∷ elim (next s y) [ none ↦ [] | some t ↦ ridden next hue t ys ]

abbrev pub later : Option ℕ → Option ℕ
later none = none
later (some i) = some (suc i)

-- The first observation without an edge, if there is one.
unfoldable pub halted : (ℕ → ℕ → Option ℕ) → ℕ → List ℕ → Option ℕ
halted next s [] = none
halted next s (y ∷ ys) = elim (next s y) [ none ↦ some 0 | some t ↦ later (halted next t ys) ]

-- The colours that a filter shows from its start.
unfoldable pub shown : Filter → List ℕ → List ℕ
shown F ys = ridden (edge F) (colour F) F.start ys

-- Where a filter stops, from its start; none where it traces the whole sequence.
unfoldable pub stops : Filter → List ℕ → Option ℕ
stops F ys = halted (edge F) F.start ys
