-- What a filter is, and when its start and its edges are in order (document 01, "The work and its edges", "The filter file").
-- Assumes nothing.
use Rattle.std.specs.Prelude.{ℕ, Bool, true, ◌&&◌, ◌||◌, List, [], ◌∷◌, eqb, ltb, length}

-- An edge (source, label, target).
pub record Edge : Type 0 where
  pub source : ℕ
  pub label : ℕ
  pub target : ℕ

-- A colour for each state, the number of labels (m), the start state, the edges in file order.
pub record Filter : Type 0 where
  pub colours : List ℕ
  pub labels : ℕ
  pub start : ℕ
  pub edges : List Edge

-- n: the states are 0 to n - 1.
abbrev pub states : Filter → ℕ
states F = length F.colours

-- An edge's source and target are below n, and its label is below m.
unfoldable pub inside : ℕ → ℕ → Edge → Bool
inside n m e = ltb e.source n && (ltb e.label m && ltb e.target n)

-- e's (source, label) comes before f's: by source, then by label.
unfoldable pub comes_before : Edge → Edge → Bool
comes_before e f = ltb e.source f.source || (eqb e.source f.source && ltb e.label f.label)

-- e's (source, label) equals f's, whatever the targets.
unfoldable pub same_place : Edge → Edge → Bool
same_place e f = eqb e.source f.source && eqb e.label f.label

-- The test holds of each edge.
unfoldable pub each : (Edge → Bool) → List Edge → Bool
each p [] = true
each p (e ∷ es) = p e && each p es

-- e comes before the first of the edges that follow it.
unfoldable pub leads : Edge → List Edge → Bool
leads e [] = true
leads e (f ∷ fs) = comes_before e f

-- The edges ascend strictly by source, then by label.
unfoldable pub ascending : List Edge → Bool
ascending [] = true
ascending (e ∷ es) = leads e es && ascending es

-- The start is a state, every edge is inside, and the edges ascend strictly.
unfoldable pub in_order : Filter → Bool
in_order F = ltb F.start (states F) && (each (inside (states F) F.labels) F.edges && ascending F.edges)
