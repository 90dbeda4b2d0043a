-- `numbering::numbered` meets its contract. Assumes nothing.
use lib.ListN.{take}
use Rattle.numbering.proofs.Laws.{Numbering}
use Rattle.numbering.proofs.numbered.Given as goal

abbrev pub invariant-loop-s : goal.invariant-loop-s
invariant-loop-s l = Numbering l.n (take l.n l.names) l.initial.list l.initial.order l.list l.order l.k l.s
