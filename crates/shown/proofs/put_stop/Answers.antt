-- `shown::put_stop` meets its contract. Assumes nothing.
use native.Mathlib.Omega.{arith}
use Rattle.text.proofs.Laws.{both}
use Rattle.lines.specs.Text.{ended}
use Rattle.shown.specs.Text.{stopped_word}
use Rattle.shown.proofs.put_stop.Goals as goal

pub returns : goal.returns
returns c =
    let a = c.args in
    let done = both a.room.now a.at stopped_word (ended a.i) (omega arith) c.put-word.ensures.0 c.put-word.ensures.1 c.put_number.ensures.0 c.put_number.ensures.1 in
    (done.0, done.1, omega (arith, c.put-word.ensures.1, c.put_number.ensures.2))
