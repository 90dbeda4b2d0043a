-- `lines::put_four` meets its contract. Assumes nothing.
use mathlib.Core.Path.{◌∙◌}
use mathlib.Core.List.{◌++◌}
use native.Mathlib.Nat.{zero-add}
use native.Mathlib.Omega.{arith}
use Rattle.text.proofs.Laws.{both}
use Rattle.lines.specs.Text.{spaced, pair_line, four_line}
use Rattle.lines.proofs.put_four.Goals as goal

pub returns : goal.returns
unfolding pair_line four_line
returns c =
    let a = c.args in
    let rest = pair_line a.c a.d in
    let tail =
    both c.put_number-second.new.room c.put_number-second.result (spaced a.b) rest (omega (arith, c.put_number-second.ensures.2, c.put_number-second.auto.room)) c.put_number-third.ensures.0
    c.put_number-third.ensures.1 c.put_two.ensures.0 c.put_two.ensures.1 in
    let done = both a.room.now 0 (spaced a.a) (spaced a.b ++ rest) (omega arith) c.put_number-second.ensures.0 c.put_number-second.ensures.1 tail.0 tail.1 in
    (done.0, done.1 ∙ zero-add _, omega (arith, c.put_number-second.ensures.2, c.put_number-third.ensures.2, c.put_two.ensures.2))
