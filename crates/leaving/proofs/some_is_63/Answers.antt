-- `leaving::some_is_63` meets its contract. Assumes nothing.
use native.Mathlib.Omega.{arith}
use borrow.Author.Tests.{ltb-false}
use Rattle.leaving.proofs.Laws.{none_is_63}
use Rattle.leaving.proofs.some_is_63.Goals as goal

pub returns : goal.returns
returns c q = none_is_63 _ _ _ c.shared-tops.ensures c.less.ensures (omega (arith, ltb-false 0 c.less.result q))
