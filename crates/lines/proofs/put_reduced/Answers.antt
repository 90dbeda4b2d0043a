-- `lines::put_reduced` meets its contract. Assumes nothing.
use native.Mathlib.Omega.{arith}
use Rattle.text.proofs.Laws.{both_front}
use Rattle.lines.specs.Text.{four_line, number_lines, reduced_text}
use Rattle.lines.proofs.put_reduced.Goals as goal

pub returns : goal.returns
unfolding reduced_text
returns c =
    let a = c.args in
    let done =
    both_front a.room.now (four_line a.n a.states a.colours a.rounds) (number_lines 0 a.classes.now) c.put_four-at.ensures.0 c.put_four-at.ensures.1 c.put_states.ensures.0
    c.put_states.ensures.1 in
    (done.0, done.1, omega (arith, c.put_four-at.ensures.2, c.put_states.ensures.2))
