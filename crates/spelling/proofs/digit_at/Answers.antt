-- `spelling::digit_at` meets its contract. Assumes nothing.
use native.Mathlib.Omega.{arith}
use Rattle.spelling.specs.Spelling.{digit_at}
use Rattle.spelling.proofs.Digits.{past_end}
use Rattle.spelling.proofs.digit_at.Goals as goal

pub returns-in_default : goal.returns-in_default
returns-in_default c = (past_end _ _ c.in_default.ensures.lookup.3, omega arith)

pub returns : goal.returns
unfolding digit_at
returns c = (rw (← c.in-Some.ensures.lookup.3.1 0) c.digit.ensures.0, c.digit.ensures.1)
