-- `shown::put_trace` meets its contract. Assumes nothing.
use native.Mathlib.Omega.{arith}
use Rattle.text.proofs.Laws.{both_front}
use Rattle.shown.specs.Text.{number_lines, last_line}
use Rattle.shown.proofs.put_trace.Goals as goal

pub returns : goal.returns
returns c =
    let a = c.args in
    let done = both_front a.room.now (number_lines a.colours.now) (last_line a.answer) c.put_lines-at.ensures.0 c.put_lines-at.ensures.1 c.put_last.ensures.0 c.put_last.ensures.1 in
    (done.0, done.1, omega (arith, c.put_lines-at.ensures.2, c.put_last.ensures.2))
