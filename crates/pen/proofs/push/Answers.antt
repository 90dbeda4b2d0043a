use mathlib.Core.Path.{◌≡◌, ap, ◌∙◌}
use Prim.Native.Nat.{ℕ, ◌+◌, ◌*◌, ◌-◌, ◌^◌}
use native.Mathlib.Nat.{mod-lt}
use native.Mathlib.Omega.{arith}
use lib.Pow.{pow_pos, shr_lt}
use Rattle.bits.specs.Bits.{put_field}
use Rattle.pen.specs.Runs.{total, put_fields, Fit, inked}
use Rattle.bits.proofs.Reading.{one_shl}
use Rattle.bits.proofs.Writing.{put_two}
use Rattle.pen.proofs.Pens.{Joined, joined, put_first}
use Rattle.pen.proofs.push.Goals as goal

pub overflow_add-held : goal.overflow_add-held
overflow_add-held c = let j = (let it : Joined c.args.pen.bits c.args.width c.args.pen.held c.args.value = joined _ _ _ _ c.requires.ready.few c.requires.narrow c.requires.ready.fit c.requires.small in it) in rw j.shifted (omega (arith, j.sum))

pub returns-then-bits-lt32 : goal.returns-then-bits-lt32
unfolding total put_fields Fit inked
returns-then-bits-lt32 c =
    let a = c.args in
    let j = (let it : Joined c.args.pen.bits c.args.width c.args.pen.held c.args.value = joined _ _ _ _ c.requires.ready.few c.requires.narrow c.requires.ready.fit c.requires.small in it) in
    rw j.shifted record {
      ink = put_two a.s.now (a.pen.at * 8) a.pen.bits a.width a.pen.held a.value c.requires.small;
      place = omega arith;
      fit = (c.requires.small, tt);
      ready = record { few = omega arith; fit = j.whole; near = omega (arith, c.requires.near) };
    }

pub nonzero_rem-kept : goal.nonzero_rem-kept
nonzero_rem-kept c =
    let a = c.args in
    let rest = a.pen.bits + a.width - 32 in
    rw (one_shl rest (omega arith)) (pow_pos rest)

pub set_window-requires : goal.set_window-requires
set_window-requires c =
    let a = c.args in
    let j = (let it : Joined c.args.pen.bits c.args.width c.args.pen.held c.args.value = joined _ _ _ _ c.requires.ready.few c.requires.narrow c.requires.ready.fit c.requires.small in it) in
    let rest = a.pen.bits + a.width - 32 in
    let all : a.pen.bits + a.width ≡ 32 + rest = omega arith in
    (omega (arith, c.requires.ready.near), rw j.shifted (shr_lt 32 rest (rw all at j.whole)))

pub returns : goal.returns
unfolding total put_fields Fit inked
returns c =
    let a = c.args in
    let j = (let it : Joined c.args.pen.bits c.args.width c.args.pen.held c.args.value = joined _ _ _ _ c.requires.ready.few c.requires.narrow c.requires.ready.fit c.requires.small in it) in
    let rest = a.pen.bits + a.width - 32 in
    let all : 32 + rest ≡ a.pen.bits + a.width = omega arith in
    let first = put_first a.s.now a.pen.at rest (a.pen.held * 2 ^ a.width + a.value) in
    let two = put_two a.s.now (a.pen.at * 8) a.pen.bits a.width a.pen.held a.value c.requires.small in
    rw (c.set_window.ensures, j.shifted, one_shl rest (omega arith)) record {
      ink = first ∙ ap (λ (n : ℕ). put_field a.s.now (a.pen.at * 8) n (a.pen.held * 2 ^ a.width + a.value)) all ∙ two;
      place = omega arith;
      fit = (c.requires.small, tt);
      ready = record { few = omega arith; fit = mod-lt _ (pow_pos rest); near = omega (arith, c.requires.near) };
    }
