-- `telling::told_place` meets its contract. Assumes nothing.
use native.Mathlib.Omega.{arith}
use borrow.Author.Tests.{lt-ltb, le-ltb}
use Rattle.telling.proofs.told_place.Goals as goal

pub returns-then-place-lt72057594037927936 : goal.returns-then-place-lt72057594037927936
returns-then-place-lt72057594037927936 c = (rw (lt-ltb _ _ c.if-place-lt72057594037927936.true), omega arith)

pub returns : goal.returns
returns c = (rw (le-ltb _ _ c.if-place-lt72057594037927936.false), omega arith)
