-- `conflicts::conflict` meets its contract. The invariant: no label that is tried parts the two. Assumes nothing.
use Rattle.conflicts.proofs.Laws.{Calm}
use Rattle.conflicts.proofs.conflict.Given as goal

abbrev pub invariant-loop-y : goal.invariant-loop-y
invariant-loop-y l = Calm l.rows l.names l.a l.b l.y-iterator.rest
