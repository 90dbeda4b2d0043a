-- `inking::put_all` meets its contract. The invariant: the edges so far are drawn, one behind another, and the next edge's statement begins
-- at the place. Assumes nothing.
use lib.ListN.{take}
use Rattle.pen.specs.Runs.{Drawn}
use Rattle.layout.specs.Layout.{edge_widths, flat}
use Rattle.drawing.specs.Reader.{edges_of, read_of}
use Rattle.inking.proofs.Laws.{AtEdge}
use Rattle.inking.proofs.put_all.Given as goal

abbrev pub invariant-loop : goal.invariant-loop
invariant-loop l = record {
  drawn : Drawn l.initial.part l.bit (edge_widths l.p l.counter) (flat (take l.counter (edges_of (read_of l.text)))) l.part l.pen;
  here : AtEdge l.text l.counter l.at;
}
