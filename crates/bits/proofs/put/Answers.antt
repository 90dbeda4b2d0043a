use mathlib.Core.Path.{sym}
use Prim.Native.Nat.{◌-◌, ◌%◌}
use native.Mathlib.Omega.{arith}
use Rattle.bits.proofs.Writing.{put_of_window}
use Rattle.bits.proofs.put.Goals as goal

pub returns : goal.returns
returns c =
    let a = c.args in
    rw (c.set_window.ensures, c.spliced-y.ensures.0, c.window-x.ensures.0)
    (sym (put_of_window a.s.now a.at a.width (32 - a.at % 8 - a.width) a.value (omega (arith, c.requires.0))
    c.requires.1))
