-- What the code's answers stand for, and a walk over a file's edges. No public call's promise speaks of these.
-- Assumes nothing.
use Rattle.std.specs.Prelude.{Result, Ok, Err, ℕ, ◌+◌, ◌*◌, ◌-◌, ◌^◌, ◌<◌, ◌≤◌, ◌≡◌, List}
use Rattle.std.proofs.Math.Option.{Option, none, some}
use Rattle.meaning.specs.Filter.{Edge}
use Rattle.refusals.specs.Refusals.{number_of}
use Rattle.refusals.specs.declared.Refusal.{Refusal}
use Rattle.layout.specs.declared.profile.Profile.{Profile}
use Rattle.layout.specs.declared.edge.Placed.{Placed}
use Rattle.layout.specs.declared.edge.Edges.{Edges}
use Rattle.layout.specs.Along.{Along}
use Rattle.layout.specs.Layout.{edge_bits}
use Rattle.layout.specs.Contents.{values, placed_from}
use Rattle.layout.specs.Code.{Small, bare}
use Rattle.edges.specs.Faults.{Fault, edge_fault, first_fault}

-- Where an edge stands in the order of edges, counted from 1; 0 where there is none before.
abbrev pub rank_of : Option Edge → ℕ
rank_of none = 0
rank_of (some e) = e.source * 256 + e.label + 1

-- The edge before one, if there is one, has rank `last`, and its label is a byte.
pub record Ranked (last : ℕ) (before : Option Edge) : Type 0 where
  pub rank : last ≡ rank_of before
  pub label : (b : Edge) → before ≡ some b → b.label < 256

abbrev pub fault_is : Refusal → Option Fault
fault_is r = some (record { number = number_of r.kind; place = r.place })

-- What tests of edges answer: that there is none of the faults, or the first of them.
abbrev pub Verdict : Type 0
Verdict = Result Unit Refusal

abbrev pub fault_of : Verdict → Option Fault
fault_of (Ok passed) = none
fault_of (Err r) = fault_is r

-- The verdict on an edge is its fault behind whatever edge has rank `last`.
abbrev pub Tested : ℕ → ℕ → ℕ → Placed → Verdict → Type 0
Tested n m last edge v = (before : Option Edge) → Ranked last before → fault_of v ≡ edge_fault n m before edge

-- Where a walk over a file's edges stands: the rank of the edge before, the bit at which the next one begins, and its index.
pub record Cursor : Type 0 where
  pub rank : ℕ
  pub place : ℕ
  pub index : ℕ

-- A cursor one edge further: that edge is now the one before.
abbrev pub behind : Profile → Placed → Cursor → Cursor
behind P edge c = record { rank = rank_of (some (values edge)); place = c.place + edge_bits P; index = c.index + 1 }

-- A walk over e edges from bit `at` on has come to a cursor without a fault, and `before` is the edge before it: the first fault is
-- that of the edges left.
pub record Walked (P : Profile) (file : List ℕ) (at e n m : ℕ) (c : Cursor) : Type 0 where
  pub before : Option Edge
  pub inside : c.index ≤ e
  pub placed : c.place ≡ at + edge_bits P * c.index
  pub ranked : Ranked c.rank before
  pub left : first_fault n m none (placed_from P file at e) ≡ first_fault n m before (placed_from P file c.place (e - c.index))

-- The same of the code's walk, behind an edge of rank `last`.
pub record Walking (P : Profile) (file : List ℕ) (at e n m last : ℕ) (walk : Edges) : Type 0 where
  pub along : Along P file at e walk
  pub walked : Walked P file at e n m (record { rank = last; place = walk.place; index = walk.index })
