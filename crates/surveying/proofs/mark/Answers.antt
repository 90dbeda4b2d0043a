-- `surveying::mark` meets its contract. Assumes nothing.
use Rattle.surveying.proofs.Marks.{mark_none, mark_other, mark_high, mark_more}
use Rattle.surveying.proofs.mark.Goals as goal

pub returns-in_default : goal.returns-in_default
returns-in_default c = rw c.in_default.is (mark_none _ _ _)

pub returns-then-colour-shut : goal.returns-then-colour-shut
returns-then-colour-shut c = rw c.in-Some.is (mark_other _ _ _ _ c.if-colour-shut.true)

pub returns-then-state-ge256 : goal.returns-then-state-ge256
returns-then-state-ge256 c = rw c.in-Some.is (mark_high _ _ _ _ c.if-state-ge256.true)

pub returns : goal.returns
returns c =
    rw c.in-Some.is (mark_more _ _ _ _ _ c.if-colour-shut.false c.if-state-ge256.false c.with.ensures)
