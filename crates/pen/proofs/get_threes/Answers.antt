use mathlib.Core.Path.{◌≡◌}
use Prim.Native.Nat.{ℕ, ◌+◌, ◌*◌, ◌/◌, ◌%◌, ◌^◌, ◌≤◌, ◌<◌}
use native.Mathlib.Nat.{lt_of_lt_of_le, mod-lt}
use native.Mathlib.Omega.{arith}
use lib.Pow.{pow_mono, pow_pos}
use mir.Syntax.{w8}
use mir.Val.{Fits}
use Rattle.bits.proofs.Reading.{field_lt, one_shl}
use Rattle.pen.proofs.Reading.{read_none, read_near, Three, three, read_three}
use Rattle.pen.proofs.get_threes.Goals as goal
use Rattle.pen.proofs.get_threes.Goals.{After-get-three}

pub loop-i-init : goal.loop-i-init
loop-i-init c = read_none _ _ _ _ _

abbrev width : After-get-three → ℕ
width c = c.args.width

low : (c : After-get-three) → 1 * 2 ^ width c % 2 ^ 64 ≡ 2 ^ width c
low c = one_shl (width c) (omega (arith, c.requires.narrow))

parts : (c : After-get-three) →
    Three c.args.s.now c.loop-i.p (width c) c.get-three.result
parts c = three c.args.s.now c.loop-i.p (width c) c.get-three.result c.get-three.ensures.0

-- what fits the width is a byte
byte : (c : After-get-three) (v : ℕ) → v < 2 ^ width c → Fits w8 v
byte c v h = record { fits = lt_of_lt_of_le h (pow_mono c.requires.narrow) }

pub overflow_cast-out : goal.overflow_cast-out
overflow_cast-out c = rw (parts c).first (byte c _ (field_lt _ _ _))

-- three more are asked for
room : (c : After-get-three) → 3 * c.loop-i.i + 3 ≤ c.args.n
room c = omega arith

pub overflow_add-p : goal.overflow_add-p
overflow_add-p c = record { fits = read_near 3 (2 ^ 64) c.loop-i.invariant (room c) c.requires.near }

pub loop-i-preserved : goal.loop-i-preserved
loop-i-preserved c =
    let next : 3 * (c.loop-i.i + 1) ≡ 3 * c.loop-i.i + 3 = omega arith in
    rw (low c, next) (read_three c.get-three.result c.loop-i.invariant (room c) c.requires.room (parts c))

pub returns : goal.returns
returns c =
    let all : c.loop-i.i ≡ c.args.n / 3 = omega arith in
    record { fields = rw all at c.loop-i.invariant.made; count = omega arith }

pub nonzero_rem-out : goal.nonzero_rem-out
nonzero_rem-out c = rw (low c) (pow_pos (width c))

pub overflow_cast-out-in-loop-i : goal.overflow_cast-out-in-loop-i
overflow_cast-out-in-loop-i c = rw (low c) (byte c _ (mod-lt _ (pow_pos (width c))))

pub nonzero_rem-out-in-loop-i : goal.nonzero_rem-out-in-loop-i
nonzero_rem-out-in-loop-i c = rw (low c) (pow_pos (width c))

pub overflow_cast-out-in-loop-i-2 : goal.overflow_cast-out-in-loop-i-2
overflow_cast-out-in-loop-i-2 c = rw (low c) (byte c _ (mod-lt _ (pow_pos (width c))))
