-- `statements::closing_at` meets its contract. Assumes nothing.
use mathlib.Core.Path.{◌≡◌}
use native.Mathlib.Omega.{arith}
use lib.ListN.{drop}
use Rattle.spelling.specs.Spelling.{matched}
use Rattle.spelling.specs.Words.{common_most, matched-inside}
use Rattle.spelling.proofs.Told.{missing, found}
use Rattle.drawing.specs.Profile.{closing}
use Rattle.drawing.specs.Reader.{closing_at}
use Rattle.statements.proofs.closing_at.Goals as goal

pub overflow_add-result : goal.overflow_add-result
overflow_add-result c =
    omega (arith, c.matched.ensures, matched-inside c.args.text.now c.args.at closing c.requires)

pub returns-then-not-stands : goal.returns-then-not-stands
unfolding closing_at
returns-then-not-stands c =
    rw (missing c.stands.ensures (common_most closing (drop c.args.at c.args.text.now)).0 c.if-not-stands.true, c.matched.ensures)

pub returns : goal.returns
unfolding closing_at
returns c =
    let a = c.args in
    let word : matched a.text.now a.at closing ≡ 2 = found c.stands.ensures c.if-not-stands.false in
    rw word
