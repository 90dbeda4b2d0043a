-- `drawing::target_at` meets its contract: the word and the number decide as in the definition. Assumes nothing.
use mathlib.Core.Path.{◌≡◌}
use native.Mathlib.Omega.{arith}
use borrow.Author.Tests.{eq-eqb, ne_eqb}
use lib.ListN.{drop}
use Rattle.spelling.specs.Spelling.{matched}
use Rattle.spelling.specs.Words.{common_most, matched-inside}
use Rattle.spelling.proofs.Told.{missing, found}
use Rattle.drawing.specs.Profile.{arrow}
use Rattle.drawing.specs.Reader.{target_at}
use Rattle.drawing.proofs.target_at.Goals as goal
use Rattle.drawing.proofs.target_at.Goals.{Else-not-stands}

-- the word stands there
word : (c : Else-not-stands) → matched c.args.text.now c.args.at arrow ≡ 4
word c = found c.stands.ensures c.if-not-stands.false

pub overflow_add-at : goal.overflow_add-at
overflow_add-at c =
    omega (arith, c.matched.ensures, matched-inside c.args.text.now c.args.at arrow c.requires)

pub returns-then-not-stands : goal.returns-then-not-stands
unfolding target_at
returns-then-not-stands c =
    let a = c.args in
    rw (
      c.if-state.false,
      missing c.stands.ensures (common_most arrow (drop a.at a.text.now)).0 c.if-not-stands.true,
      c.left_at.ensures,
      c.matched.ensures,
    )

pub returns-then-target-at : goal.returns-then-target-at
unfolding target_at
returns-then-target-at c =
    rw (
      c.if-state.false,
      word (goal.at.returns-then-target-at c).Else-not-stands,
      ← c.number_at-target.ensures.0,
      eq-eqb _ _ c.if-target-at.true,
      c.left_at-then-target-at.ensures,
    )

pub returns : goal.returns
unfolding target_at
returns c =
    rw (c.if-state.false, word (goal.at.returns c).Else-not-stands, ← c.number_at-target.ensures.0, ne_eqb _ _ c.if-target-at.false)
