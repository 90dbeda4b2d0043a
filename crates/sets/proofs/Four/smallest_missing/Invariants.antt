-- `sets::Four::smallest_missing` meets its contract. The invariant: the words before word w have all their numbers. Assumes nothing.
use Rattle.sets.proofs.FourLaws.{Full}
use Rattle.sets.proofs.Four.smallest_missing.Given as goal

abbrev pub invariant-loop-w : goal.invariant-loop-w
invariant-loop-w l = Full l.fn.self.words l.w
