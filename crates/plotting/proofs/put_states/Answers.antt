use Rattle.std.proofs.Common.{◌≡◌, ◌<◌, ℕ, [], length, get_or, take, ap, arith}
use lib.Seq.{paste-zero}
use Rattle.text.proofs.Laws.{same, both}
use Rattle.drawing.specs.Profile.{state_line, state_lines}
use Rattle.plotting.proofs.Laws.{states_more, states_fit, colour_in_hand}
use Rattle.plotting.proofs.put_states.Goals as goal
use Rattle.plotting.proofs.put_states.Goals.{After-from}

pub loop-i-init : goal.loop-i-init
unfolding state_lines
loop-i-init c = record {
  room = paste-zero c.args.room.now c.args.begin [];
  at = omega arith;
}

-- the colour of this turn
hand : (c : After-from) → (c.loop-i.i < c.args.n) × (c.from.result ≡ get_or c.args.colours.now c.loop-i.i 0)
hand c = colour_in_hand c.args.colours.now c.loop-i.i c.args.n c.from.result c.requires.0 c.loop-i-test.true c.from.ensures

pub put_state-at-requires : goal.put_state-at-requires
put_state-at-requires c =
    let loop = c.loop-i in
    let this = hand c in
    let fit = states_fit c.args.colours.now loop.i c.args.n this.0 c.requires.0 in
    let is = ap (λ (colour : ℕ). length (state_line loop.i colour)) this.1 in
    (omega arith, omega arith, omega (arith, fit, is, loop.invariant.at, c.requires.2))

pub loop-i-preserved : goal.loop-i-preserved
loop-i-preserved c =
    let loop = c.loop-i in
    let a = c.args in
    let cs = a.colours.now in
    let this = hand (goal.at.loop-i-preserved c).After-from in
    let one = same loop.room loop.at (ap (state_line loop.i) this.1) c.put_state-at.ensures.0 c.put_state-at.ensures.1 in
    let more =
    both a.room.now a.begin (state_lines 0 (take loop.i cs)) (state_line loop.i (get_or cs loop.i 0)) (omega (arith, c.requires.2)) loop.invariant.room loop.invariant.at one.0 one.1 in
    let done = same a.room.now a.begin (states_more cs loop.i (omega (arith, this.0, c.requires.0))) more.0 more.1 in
    record { room = done.0; at = done.1 }
