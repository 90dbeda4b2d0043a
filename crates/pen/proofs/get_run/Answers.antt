use mathlib.Core.Path.{◌∙◌}
use Prim.Native.Nat.{ℕ, ◌+◌, ◌*◌, ◌-◌, ◌^◌, ◌≤◌, ◌<◌}
use native.Mathlib.Omega.{arith}
use lib.ListN.{length-drop}
use Rattle.bits.proofs.Parts.{lent_tail, back_tail}
use Rattle.pen.proofs.Runs.{room_more}
use Rattle.pen.proofs.Reading.{run_rest}
use Rattle.pen.proofs.get_run.Goals as goal

-- the rest begins at a bit that has a number
begins : (at width n done : ℕ) → done ≤ n → at + n * width < 2 ^ 64 → at + done * width < 2 ^ 64
begins at width n done few near = omega (arith, room_more at width done 0 n (2 ^ 64) (omega arith) near)

pub overflow_mul-done : goal.overflow_mul-done
overflow_mul-done c =
    let a = c.args in
    record { fits = omega (arith, begins a.at a.width a.n c.get_threes-done.result c.get_threes-done.ensures.count c.requires.near) }

pub overflow_add-at : goal.overflow_add-at
overflow_add-at c =
    let a = c.args in
    record { fits = begins a.at a.width a.n c.get_threes-done.result c.get_threes-done.ensures.count c.requires.near }

pub get_rest-requires : goal.get_rest-requires
get_rest-requires c =
    let a = c.args in
    let pre = c.requires in
    let threes = c.get_threes-done in
    let done = threes.result in
    let all : done + (a.n - done) ≤ a.n = omega (arith, threes.ensures.count) in
    record {
      narrow = pre.narrow;
      room = rw (lent_tail threes.new.out done)
          (simp length-drop (omega (arith, threes.auto.out, pre.room)));
      near = room_more a.at a.width done (a.n - done) a.n (2 ^ 64) all pre.near;
    }

pub returns : goal.returns
returns c =
    let rest = c.get_rest in
    let threes = c.get_threes-done in
    let a = c.args in
    let out = threes.new.out in
    let part = rest.new.out in
    back_tail out part threes.result
    ∙ run_rest a.s.now a.out.now out part a.at a.width threes.result a.n threes.ensures.count
    threes.ensures.fields
    (rw (lent_tail out threes.result) at rest.ensures)
