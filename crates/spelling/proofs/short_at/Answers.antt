-- `spelling::short_at` meets its contract: the three digits are those of the definition. Assumes nothing.
use Rattle.spelling.specs.Spelling.{digit_at, number_at}
use Rattle.spelling.proofs.short_at.Goals as goal

pub returns : goal.returns
unfolding number_at digit_at
returns c = (
  rw (c.digit.ensures.0, c.digit-2.ensures.0, c.digit-3.ensures.0) c.numeral.ensures.0,
  c.numeral.ensures.1,
  c.numeral.ensures.2,
)
