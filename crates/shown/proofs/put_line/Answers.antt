-- `shown::put_line` meets its contract. Assumes nothing.
use mathlib.Core.Path.{ap}
use Prim.Native.Nat.{◌≤◌}
use native.Mathlib.Omega.{arith}
use lib.ListN.{length, length-append}
use Rattle.text.specs.Decimal.{decimal}
use Rattle.text.proofs.Laws.{same, decimal_most}
use Rattle.lines.specs.Text.{newline, ended}
use Rattle.shown.proofs.put_line.Goals as goal

pub returns : goal.returns
returns c =
    let a = c.args in
    let short : length (decimal a.n) ≤ 3 = decimal_most 2 a.n (omega (arith, c.ranges.n)) in
    let done = same a.room.now a.at (ap ended c.from.ensures) c.put_number.ensures.0 c.put_number.ensures.1 in
    (done.0, done.1, omega (arith, done.1, length-append (decimal a.n) newline))
