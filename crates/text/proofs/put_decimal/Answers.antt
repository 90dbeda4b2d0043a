-- `text::put_decimal` meets its contract. Assumes nothing.
use mathlib.Core.Path.{◌≡◌, ◌∙◌}
use native.Mathlib.Omega.{arith}
use lib.ListN.{take}
use Rattle.text.specs.Decimal.{decimal}
use Rattle.text.proofs.Laws.{decimal_is, same}
use Rattle.text.proofs.put_decimal.Goals as goal

pub returns : goal.returns
returns c =
    let a = c.args in
    let made = c.decimal-k in
    let known = decimal_is a.n made.result c.ranges.n.fits made.ensures.len in
    let is : take made.result made.new.out ≡ decimal a.n = made.ensures.digits ∙ known.0 in
    let done = same a.room.now a.at is c.put.ensures.0 c.put.ensures.1 in
    (done.0, done.1, omega (arith, known.1, known.2))
