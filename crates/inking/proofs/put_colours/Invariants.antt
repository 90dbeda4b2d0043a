-- `inking::put_colours` meets its contract. The invariant: the colours so far are drawn, one behind another, and the next state's statement
-- begins at the place. Assumes nothing.
use lib.ListN.{take, replicate}
use Rattle.pen.specs.Runs.{inked, place_of, Drawn}
use Rattle.drawing.specs.Reader.{colours_of, read_of}
use Rattle.inking.proofs.Laws.{AtState}
use Rattle.inking.proofs.put_colours.Given as goal

abbrev pub invariant-loop : goal.invariant-loop
invariant-loop l = record {
  drawn : Drawn (inked l.initial.room l.initial.pen) (place_of l.initial.pen) (replicate l.counter l.p.colour) (take l.counter (colours_of (read_of l.text))) l.room l.pen;
  here : AtState l.text l.counter l.at;
}
