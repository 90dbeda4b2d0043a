use mathlib.Core.Path.{◌≡◌}
use Prim.Native.Nat.{◌*◌, ◌-◌, ◌/◌, ◌%◌}
use native.Mathlib.Omega.{arith}
use Rattle.pen.specs.Runs.{total, put_fields, Fit, inked}
use Rattle.bits.proofs.Writing.{put_get}
use Rattle.pen.proofs.begin.Goals as goal

pub returns : goal.returns
unfolding total put_fields Fit inked
returns c =
    let a = c.args in
    let e : a.at / 8 * 8 ≡ a.at - a.at % 8 = omega arith in
    record {
      ink = rw (e, c.get.ensures.0) (put_get a.s.now (a.at - a.at % 8) (a.at % 8));
      place = omega arith;
      fit = tt;
      ready = record { few = omega arith; fit = c.get.ensures.1; near = omega arith };
    }
