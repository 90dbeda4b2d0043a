-- `shown::put_last` meets its contract. Assumes nothing.
use mathlib.Core.Path.{ap, sym, ◌∙◌}
use native.Mathlib.Omega.{arith}
use Rattle.std.specs.Prelude.{◌≡◌, Ok}
use Rattle.tracing.specs.declared.Traced.TheVariants as traced
use Rattle.text.proofs.Laws.{same}
use Rattle.shown.specs.Text.{last_line}
use Rattle.shown.proofs.put_last.Goals as goal

pub returns-in-Ok-All : goal.returns-in-Ok-All
unfolding last_line
returns-in-Ok-All c =
    let a = c.args in
    let ride : c.in-Ok-All.field-0 ≡ traced.All = rw c.in-Ok-All.is at c.in-Ok-All.field-0-is in
    let answer : a.answer ≡ Ok traced.All = c.in-Ok-All.is ∙ ap Ok ride in
    let is = same a.room.now a.at (sym (ap last_line answer)) c.put.ensures.0 c.put.ensures.1 in
    (is.0, is.1, omega (arith, c.put.ensures.1))

pub returns-in-Ok-Stopped : goal.returns-in-Ok-Stopped
unfolding last_line
returns-in-Ok-Stopped c =
    let a = c.args in
    let ride : c.in-Ok-Stopped.field-0 ≡ traced.Stopped c.in-Ok-Stopped.i = rw c.in-Ok-Stopped.is at c.in-Ok-Stopped.field-0-is in
    let answer : a.answer ≡ Ok (traced.Stopped c.in-Ok-Stopped.i) = c.in-Ok-Stopped.is ∙ ap Ok ride in
    let is = same a.room.now a.at (sym (ap last_line answer)) c.put_stop.ensures.0 c.put_stop.ensures.1 in
    (is.0, is.1, omega (arith, c.put_stop.ensures.2))

pub returns-in-Err : goal.returns-in-Err
unfolding last_line
returns-in-Err c =
    let a = c.args in
    let is = same a.room.now a.at (sym (ap last_line c.in-Err.is)) c.put_refusal.ensures.0 c.put_refusal.ensures.1 in
    (is.0, is.1, omega (arith, c.put_refusal.ensures.2))
