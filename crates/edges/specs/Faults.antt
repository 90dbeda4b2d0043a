-- Faults of edges, each with its place: 7, 8 and 9 of one edge behind the edge before it, and the first of some edges; 17 of some edges
-- (document 01, "Numbers of refusal"; document 02, "Say where in the bits", "A fault stays a fault").
-- Assumes nothing.
use Rattle.std.specs.Prelude.{ℕ, suc, List, [], ◌∷◌, leb}
use Rattle.std.proofs.Math.Option.{Option, none, some}
use Rattle.meaning.specs.Pick.{pick}
use Rattle.meaning.specs.Search.{at}
use Rattle.meaning.specs.Filter.{Edge, comes_before, same_place}
use Rattle.meaning.specs.Fault.{leaves}
use Rattle.refusals.specs.Refusals.{Outcome, refused}
use Rattle.layout.specs.declared.Field.{Field}
use Rattle.layout.specs.declared.edge.Placed.{Placed}
use Rattle.layout.specs.Contents.{values}

-- ---- the edges of a list, which have no bits

-- A field of an edge in a list: its place is the edge's index.
abbrev pub field_in_list : ℕ → ℕ → Field
field_in_list index value = record { value = value; place = index }

abbrev pub listed_at : ℕ → Edge → Placed
listed_at index e = record {
  source = field_in_list index e.source;
  label = field_in_list index e.label;
  target = field_in_list index e.target;
}

-- The edges of a list whose first has index i.
unfoldable pub listed_from : ℕ → List Edge → List Placed
listed_from i [] = []
listed_from i (e ∷ es) = listed_at i e ∷ listed_from (suc i) es

-- ---- faults

pub record Fault : Type 0 where
  pub number : ℕ
  pub place : ℕ

-- A faulty field: the place of the fault is the field's.
abbrev pub faulty : ℕ → Field → Option Fault
faulty number f = some (record { number = number; place = f.place })

-- 8 and 9 of an edge, behind the edge before it if there is one: at the edge's source field.
abbrev pub order_fault : Option Edge → Placed → Option Fault
order_fault none e = none
order_fault (some before) e =
    pick (comes_before (values e) before) (faulty 8 e.source)
    (pick (same_place (values e) before) (faulty 9 e.source) none)

-- The fault of an edge: within it 7, 8, 9; and 7 at its first faulty field in the order source, label, target.
unfoldable pub edge_fault : ℕ → ℕ → Option Edge → Placed → Option Fault
edge_fault n m before e =
    pick (leb n e.source.value) (faulty 7 e.source)
    (pick (leb m e.label.value) (faulty 7 e.label)
    (pick (leb n e.target.value) (faulty 7 e.target)
    (order_fault before e)))

-- A fault decides; without one, what follows.
abbrev pub or_else : Option Fault → Option Fault → Option Fault
or_else (some f) next = some f
or_else none next = next

-- The first faulty edge of some edges; `before` is the edge before them.
unfoldable pub first_fault : ℕ → ℕ → Option Edge → List Placed → Option Fault
first_fault n m before [] = none
first_fault n m before (e ∷ es) = or_else (edge_fault n m before e) (first_fault n m (some (values e)) es)

-- 17: the first of some edges that leaves the fault colour, if there is such a colour; at the edge's source field.
unfoldable pub first_leaving : Option ℕ → List ℕ → List Placed → Option Fault
first_leaving fault colours [] = none
first_leaving fault colours (e ∷ es) =
    pick (leaves fault (at colours) (values e)) (faulty 17 e.source) (first_leaving fault colours es)

-- A fault is refused at its place; without one, what follows.
abbrev pub edges_then : Option Fault → Outcome → Outcome
edges_then none next = next
edges_then (some f) next = refused f.number f.place
