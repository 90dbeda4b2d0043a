-- `bits::get_long` meets its contract. Assumes nothing.
use Prim.Native.Nat.{◌-◌, ◌%◌}
use mathlib.Core.Path.{sym}
use native.Mathlib.Omega.{arith}
use Rattle.bits.proofs.Reading.{field_of_window}
use Rattle.bits.proofs.get_long.Goals as goal

pub returns : goal.returns
returns c =
    let a = c.args in
    let e = field_of_window a.s.now a.at 48 64 (16 - a.at % 8) (omega arith) in
    (rw c.long_window-x.ensures.0 (sym e), omega arith)
