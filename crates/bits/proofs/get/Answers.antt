use Prim.Native.Nat.{◌-◌, ◌%◌}
use native.Mathlib.Nat.{mod-lt}
use mathlib.Core.Path.{sym}
use native.Mathlib.Omega.{arith}
use lib.Pow.{pow_pos}
use Rattle.bits.proofs.Reading.{one_shl, field_of_window}
use Rattle.bits.proofs.get.Goals as goal

pub nonzero_rem-result-2 : goal.nonzero_rem-result-2
nonzero_rem-result-2 c = rw (one_shl c.args.width (omega arith)) (pow_pos c.args.width)

pub returns : goal.returns
returns c =
    let a = c.args in
    let e = field_of_window a.s.now a.at a.width 32 (32 - a.at % 8 - a.width) (omega arith) in
    rw (one_shl a.width (omega arith), c.window-x.ensures.0) (sym e, mod-lt _ (pow_pos a.width))
