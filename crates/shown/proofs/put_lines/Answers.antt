use mathlib.Core.Path.{◌≡◌, refl, ap, ◌∙◌}
use Prim.Native.Nat.{ℕ, ◌-◌}
use native.Mathlib.Nat.{le_antisymm, zero-add}
use native.Mathlib.Omega.{arith}
use lib.ListN.{length, get_or, take}
use lib.Seq.{take-length}
use Rattle.text.proofs.Laws.{same, both}
use Rattle.lines.specs.Text.{ended}
use Rattle.shown.specs.Text.{number_lines}
use Rattle.shown.proofs.Laws.{lines_more}
use Rattle.shown.proofs.put_lines.Goals as goal

pub loop-number-init : goal.loop-number-init
unfolding number_lines
loop-number-init c = (omega arith, omega arith, refl, refl, omega arith)

pub loop-number-preserved : goal.loop-number-preserved
loop-number-preserved c =
    let loop = c.loop-number in
    let a = c.args in
    let ns = a.numbers.now in
    let more = lines_more ns loop.number-index c.loop-number-test.true in
    let line =
    both a.room.now 0 (number_lines (take loop.number-index ns)) (ended (get_or ns loop.number-index 0)) (omega arith) loop.invariant.3 loop.invariant.4 c.put_line-at.ensures.0 c.put_line-at.ensures.1 in
    let done = same a.room.now 0 more line.0 line.1 in
    (omega arith, omega (arith, c.put_line-at.ensures.2), c.put_line-at.auto.room ∙ loop.invariant.2, done.0, done.1)

pub returns : goal.returns
returns c =
    let loop = c.loop-number in
    let a = c.args in
    let ns = a.numbers.now in
    let all : loop.number-index ≡ length ns = le_antisymm loop.invariant.0 c.loop-number-test.false in
    let is = ap (λ (k : ℕ). number_lines (take k ns)) all ∙ ap number_lines (take-length ns) in
    let done = same a.room.now 0 is loop.invariant.3 loop.invariant.4 in
    (done.0, done.1 ∙ zero-add _, omega (arith, all, loop.invariant.1))
