-- `reach::visit` meets its contract. The invariant: the edges are followed up to a label, and the rest is left. Assumes nothing.
use lib.ListN.{take}
use Rattle.table.specs.Table.{row, look}
use Rattle.reach.proofs.Laws.{Visiting}
use Rattle.reach.proofs.visit.Given as goal

abbrev pub invariant-loop-y : goal.invariant-loop-y
invariant-loop-y l =
    Visiting (look l.rows l.s) (row l.rows l.s).labels (take l.met l.initial.codes) l.codes l.numbers l.count l.y-iterator.rest
