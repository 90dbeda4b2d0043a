-- `drawing::label_at` meets its contract: each word and the number decide as in the definition. Assumes nothing.
use mathlib.Core.Path.{◌≡◌}
use Prim.Native.Nat.{◌+◌, ◌≤◌}
use native.Mathlib.Omega.{arith}
use borrow.Author.Tests.{eq-eqb, ne_eqb}
use lib.ListN.{length, drop}
use Rattle.spelling.specs.Spelling.{matched}
use Rattle.spelling.specs.Words.{common_most, matched-inside}
use Rattle.spelling.specs.Numbers.{number-inside}
use Rattle.spelling.proofs.Told.{missing, found}
use Rattle.drawing.specs.Profile.{label_word, line_end}
use Rattle.drawing.specs.Reader.{labelled_at}
use Rattle.drawing.proofs.label_at.Goals as goal
use Rattle.drawing.proofs.label_at.Goals.{Else-not-stands}

-- the word stands there, and the text goes on behind it
word : (c : Else-not-stands) → matched c.args.text.now c.args.at label_word ≡ 8
word c = found c.stands.ensures c.if-not-stands.false

there : (c : Else-not-stands) → c.args.at + 8 ≤ length c.args.text.now
there c =
    omega (arith, word c, matched-inside c.args.text.now c.args.at label_word c.requires)

pub overflow_add-at : goal.overflow_add-at
overflow_add-at c =
    omega (arith, c.matched.ensures, matched-inside c.args.text.now c.args.at label_word c.requires)

pub returns-then-not-stands : goal.returns-then-not-stands
unfolding labelled_at
returns-then-not-stands c =
    rw (missing c.stands.ensures (common_most label_word (drop c.args.at c.args.text.now)).0 c.if-not-stands.true, c.left_at.ensures, c.matched.ensures)

pub returns-then-label-at : goal.returns-then-label-at
unfolding labelled_at
returns-then-label-at c =
    rw (
      word (goal.at.returns-then-label-at c).Else-not-stands,
      ← c.number_at-label.ensures.0,
      eq-eqb _ _ c.if-label-at.true,
      c.left_at-then-label-at.ensures,
    )

pub stands-requires-2 : goal.stands-requires-2
stands-requires-2 c = rw c.number_at-label.ensures.0 (number-inside _ _ (there (goal.at.stands-requires-2 c).Else-not-stands))

pub matched-requires-then-not-stands-2 : goal.matched-requires-then-not-stands-2
matched-requires-then-not-stands-2 c =
    rw c.number_at-label.ensures.0 (number-inside _ _ (there (goal.at.matched-requires-then-not-stands-2 c).Else-not-stands))

pub overflow_add-label : goal.overflow_add-label
overflow_add-label c =
    omega (arith, c.matched-then-not-stands-2.ensures, matched-inside c.args.text.now c.number_at-label.result.end line_end (rw c.number_at-label.ensures.0 (number-inside _ _ (there (goal.at.overflow_add-label c).Else-not-stands))))

pub returns-then-not-stands-2 : goal.returns-then-not-stands-2
unfolding labelled_at
returns-then-not-stands-2 c =
    rw (
      word (goal.at.returns-then-not-stands-2 c).Else-not-stands,
      ← c.number_at-label.ensures.0,
      ne_eqb _ _ c.if-label-at.false,
      missing c.stands-2.ensures (common_most line_end (drop c.number_at-label.result.end c.args.text.now)).0 c.if-not-stands-2.true,
      c.left_at-then-not-stands-2.ensures,
      c.matched-then-not-stands-2.ensures,
    )

pub returns : goal.returns
unfolding labelled_at
returns c =
    let close : matched c.args.text.now c.number_at-label.result.end line_end ≡ 3 = found c.stands-2.ensures c.if-not-stands-2.false in
    rw (word (goal.at.returns c).Else-not-stands, ← c.number_at-label.ensures.0, ne_eqb _ _ c.if-label-at.false, close)
