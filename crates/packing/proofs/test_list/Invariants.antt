-- `packing::test_list` meets its contract. The invariant: the first fault of all edges is that of those not yet tested,
-- behind the edge last read; and the first edge of all that leaves the fault colour is the one found, or else the first of those.
-- Assumes nothing.
use mathlib.Core.Path.{◌≡◌}
use mathlib.Core.List.{List}
use mathlib.Core.Option.{Option, none}
use Prim.Native.Nat.{ℕ, ◌*◌}
use lib.ListN.{length, drop}
use Rattle.std.specs.Prelude as rust
use Rattle.meaning.specs.Filter.{Edge}
use Rattle.layout.specs.Layout.{colour_of, threes}
use Rattle.edges.specs.Walk.{Verdict}
use Rattle.edges.specs.Faults.{listed_from, or_else, first_fault, first_leaving}
use Rattle.edges.specs.Walk.{fault_of, Ranked}
use Rattle.packing.proofs.test_list.Given as goal

pub record Left (fault : rust.Option ℕ) (colours edges : List ℕ) (m : ℕ) (found : Verdict) (last i : ℕ) : Type 0 where
  pub before : Option Edge
  pub ranked : Ranked last before
  pub left : first_fault (length colours) m none (listed_from 0 (threes edges)) ≡ first_fault (length colours) m before (listed_from i (threes (drop (3 * i) edges)))
  pub leaving : first_leaving (colour_of fault) colours (listed_from 0 (threes edges))
      ≡ or_else (fault_of found) (first_leaving (colour_of fault) colours (listed_from i (threes (drop (3 * i) edges))))

abbrev pub invariant-loop-i : goal.invariant-loop-i
invariant-loop-i l = Left l.fault l.colours l.edges l.m l.found l.last l.i
