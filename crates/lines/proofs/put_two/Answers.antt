-- `lines::put_two` meets its contract. Assumes nothing.
use native.Mathlib.Omega.{arith}
use Rattle.text.proofs.Laws.{both}
use Rattle.lines.specs.Text.{spaced, ended, pair_line}
use Rattle.lines.proofs.put_two.Goals as goal

pub returns : goal.returns
unfolding pair_line
returns c =
    let a = c.args in
    let done =
    both a.room.now a.at (spaced a.a) (ended a.b) (omega arith) c.put_number-second.ensures.0 c.put_number-second.ensures.1 c.put_number.ensures.0 c.put_number.ensures.1 in
    (done.0, done.1, omega (arith, c.put_number-second.ensures.2, c.put_number.ensures.2))
