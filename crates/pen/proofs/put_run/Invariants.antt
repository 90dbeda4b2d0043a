use lib.ListN.{take, replicate}
use Rattle.pen.specs.Runs.{Drawn}
use Rattle.pen.proofs.put_run.Given as goal

abbrev pub invariant-loop-value : goal.invariant-loop-value
invariant-loop-value l = Drawn l.initial.s l.at (replicate l.value-index l.width) (take l.value-index l.values) l.s l.pen
