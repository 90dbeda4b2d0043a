-- `lines::put_state` meets its contract. Assumes nothing.
use mathlib.Core.Path.{ap, ◌∙◌}
use mathlib.Core.List.{◌++◌}
use native.Mathlib.Omega.{arith}
use Rattle.text.proofs.Laws.{same, both}
use Rattle.lines.specs.Text.{spaced, dash, newline, pair_line}
use Rattle.lines.proofs.Laws.{dropped_line, numbered_line}
use Rattle.lines.proofs.put_state.Goals as goal

pub returns-then-new-eq65535 : goal.returns-then-new-eq65535
returns-then-new-eq65535 c =
    let a = c.args in
    let line =
    both a.room.now a.at (spaced a.s) (dash ++ newline) (omega arith) c.put_number-behind.ensures.0 c.put_number-behind.ensures.1 c.put.ensures.0 c.put.ensures.1 in
    let done = same a.room.now a.at (dropped_line a.s a.new c.if-new-eq65535.true) line.0 line.1 in
    (done.0, done.1, omega (arith, c.put_number-behind.ensures.2, c.put.ensures.1))

pub returns : goal.returns
returns c =
    let a = c.args in
    let line = ap (pair_line a.s) c.from.ensures ∙ numbered_line a.s a.new c.if-new-eq65535.false in
    let done = same a.room.now a.at line c.put_two.ensures.0 c.put_two.ensures.1 in
    (done.0, done.1, c.put_two.ensures.2)
