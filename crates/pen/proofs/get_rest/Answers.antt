use Prim.Native.Nat.{◌^◌}
use native.Mathlib.Nat.{lt_of_lt_of_le}
use native.Mathlib.Omega.{arith}
use lib.Pow.{pow_mono}
use Rattle.pen.proofs.Reading.{read_none, read_one, read_near, read_all}
use Rattle.pen.proofs.get_rest.Goals as goal

pub loop-i-init : goal.loop-i-init
loop-i-init c = read_none _ _ _ _ _

pub overflow_cast-out : goal.overflow_cast-out
overflow_cast-out c = record { fits = lt_of_lt_of_le c.get.ensures.1 (pow_mono c.requires.narrow) }

pub overflow_add-p : goal.overflow_add-p
overflow_add-p c = record { fits = omega (arith, read_near 1 (2 ^ 64) c.loop-i.invariant (omega (arith, c.loop-i-test.true)) c.requires.near) }

pub loop-i-preserved : goal.loop-i-preserved
loop-i-preserved c = read_one c.get.result c.loop-i.invariant c.loop-i-test.true c.requires.room c.get.ensures.0

pub returns : goal.returns
returns c = read_all c.loop-i.invariant c.loop-i-test.false
