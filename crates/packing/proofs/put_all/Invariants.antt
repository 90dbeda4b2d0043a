-- `packing::put_all` meets its contract. The invariant: the edges so far are drawn, one behind another. Assumes nothing.
use Prim.Native.Nat.{◌*◌}
use lib.ListN.{take}
use Rattle.pen.specs.Runs.{Drawn}
use Rattle.layout.specs.Layout.{edge_widths}
use Rattle.packing.proofs.put_all.Given as goal

abbrev pub invariant-loop-i : goal.invariant-loop-i
invariant-loop-i l = Drawn l.initial.part l.bit (edge_widths l.p l.i) (take (3 * l.i) l.edges) l.part l.pen
