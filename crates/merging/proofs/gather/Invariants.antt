-- `merging::gather` meets its contract. Assumes nothing.
use lib.ListN.{take}
use Rattle.merging.proofs.Gathering.{Gathering}
use Rattle.merging.proofs.gather.Given as goal

abbrev pub invariant-loop-t : goal.invariant-loop-t
invariant-loop-t l = Gathering l.initial.rows (take l.n l.names) l.rows l.t
