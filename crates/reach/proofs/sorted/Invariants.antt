-- `reach::sorted` meets its contract. The invariant: the states before s that have a number stand in the first k places, and from s
-- on the numbers are as they were. Assumes nothing.
use Rattle.reach.proofs.Laws.{Sorting}
use Rattle.reach.proofs.sorted.Given as goal

abbrev pub invariant-loop-s : goal.invariant-loop-s
invariant-loop-s l = Sorting l.initial.numbers l.n l.numbers l.k l.s
