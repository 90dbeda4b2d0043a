-- `sets::without_lowest` meets its contract. Assumes nothing.
use native.Mathlib.Omega.{arith}
use lib.Bits.{and_le_r}
use Prim.Native.Nat.{◌-◌}
use Rattle.sets.proofs.Laws.{without}
use Rattle.sets.proofs.without_lowest.Goals as goal

pub returns : goal.returns
returns c = let x = c.args.set in (omega (arith, and_le_r x (x - 1)), λ k j low. without k x j low)
