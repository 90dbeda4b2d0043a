-- `spelling::number_at` meets its contract: the three digits are those of the definition. Assumes nothing.
use Rattle.spelling.specs.Spelling.{number_at}
use Rattle.spelling.proofs.number_at.Goals as goal

pub returns : goal.returns
unfolding number_at
returns c = (
  rw (c.digit_at.ensures.0, c.digit_at-2.ensures.0, c.digit_at-3.ensures.0) c.numeral.ensures.0,
  c.numeral.ensures.1,
  c.numeral.ensures.2,
)
