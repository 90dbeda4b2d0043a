use mathlib.Core.Path.{◌≡◌, refl, ap, ◌∙◌}
use mathlib.Core.List.{[]}
use Prim.Native.Nat.{ℕ, ◌-◌}
use native.Mathlib.Nat.{le_antisymm}
use native.Mathlib.Omega.{arith}
use lib.ListN.{length, get_or, take}
use lib.Seq.{take-length, paste-zero}
use Rattle.text.proofs.Laws.{same, both}
use Rattle.lines.specs.Text.{number_line, number_lines}
use Rattle.lines.proofs.Laws.{states_more}
use Rattle.lines.proofs.put_states.Goals as goal

pub loop-i-init : goal.loop-i-init
unfolding number_lines
loop-i-init c = let a = c.args in (omega arith, omega arith, refl, paste-zero a.room.now a.at [], omega arith)

pub loop-i-preserved : goal.loop-i-preserved
loop-i-preserved c =
    let loop = c.loop-i in
    let a = c.args in
    let ks = a.numbers.now in
    let line =
    both a.room.now a.at (number_lines 0 (take loop.i ks)) (number_line loop.i (get_or ks loop.i 0)) (omega arith) loop.invariant.3 loop.invariant.4 c.put_state-end.ensures.0 c.put_state-end.ensures.1 in
    let done = same a.room.now a.at (states_more ks loop.i c.loop-i-test.true) line.0 line.1 in
    (omega arith, omega (arith, c.put_state-end.ensures.2), c.put_state-end.auto.room ∙ loop.invariant.2, done.0, done.1)

pub returns : goal.returns
returns c =
    let loop = c.loop-i in
    let a = c.args in
    let ks = a.numbers.now in
    let all : loop.i ≡ length ks = le_antisymm loop.invariant.0 c.loop-i-test.false in
    let is = ap (λ (k : ℕ). number_lines 0 (take k ks)) all ∙ ap (number_lines 0) (take-length ks) in
    let done = same a.room.now a.at is loop.invariant.3 loop.invariant.4 in
    (done.0, done.1, omega (arith, all, loop.invariant.1))
