-- `layout::fill` meets its contract. Assumes nothing.
use native.Mathlib.Omega.{arith}
use lib.Pow.{pow_pos}
use Rattle.layout.proofs.Bounds.{fill_lt}
use Rattle.layout.proofs.fill.Goals as goal

pub put-requires : goal.put-requires
put-requires c =
    let a = c.args in
    (omega (arith, c.fill_bits.ensures, fill_lt a.p a.n a.e), pow_pos c.fill_bits.result)
