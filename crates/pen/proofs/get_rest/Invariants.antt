use Rattle.pen.proofs.Reading.{Read}
use Rattle.pen.proofs.get_rest.Given as goal

abbrev pub invariant-loop-i : goal.invariant-loop-i
invariant-loop-i l = Read l.s l.at l.width l.n l.initial.out l.out l.i l.p
