-- `lettering::digits` meets its contract. Assumes nothing.
use native.Mathlib.Omega.{arith}
use Rattle.lettering.proofs.Laws.{decimal_one, decimal_two, decimal_three}
use Rattle.lettering.proofs.digits.Goals as goal

pub returns-then-n-lt10 : goal.returns-then-n-lt10
returns-then-n-lt10 c = (rw (decimal_one _ c.if-n-lt10.true), omega arith)

pub returns-then-n-lt100 : goal.returns-then-n-lt100
returns-then-n-lt100 c = (rw (decimal_two _ c.if-n-lt10.false c.if-n-lt100.true), omega arith)

pub returns : goal.returns
returns c = (rw (decimal_three _ c.if-n-lt100.false c.requires), omega arith)
