use Rattle.std.proofs.Common.{ℕ, length, ap, ◌∙◌, arith}
use Rattle.drawing.specs.Profile.{state_line, state_lines}
use Rattle.plotting.proofs.Laws.{states_longer, colour_in_hand}
use Rattle.plotting.proofs.states_length.Goals as goal

pub loop-i-init : goal.loop-i-init
unfolding state_lines
loop-i-init c = (omega arith, omega arith)

pub loop-i-preserved : goal.loop-i-preserved
loop-i-preserved c =
    let loop = c.loop-i in
    let cs = c.args.colours.now in
    let one = c.state_length-length.ensures in
    let hand = colour_in_hand cs loop.i c.args.n c.from.result c.requires.0 c.loop-i-test.true c.from.ensures in
    let is = one.0 ∙ ap (λ (colour : ℕ). length (state_line loop.i colour)) hand.1 in
    (omega (arith, is, states_longer cs loop.i (omega arith)), omega (arith, loop.invariant.1, one.1))
