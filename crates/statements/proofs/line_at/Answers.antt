-- `statements::line_at` meets its contract. Assumes nothing.
use Rattle.drawing.specs.Reader.{line_at}
use Rattle.statements.proofs.line_at.Goals as goal

pub returns-then-text-at : goal.returns-then-text-at
unfolding line_at
returns-then-text-at c =
    rw (c.line.ensures, ← c.number_at-source.ensures.0, ← c.number_at-target.ensures.0, ← c.number_at.ensures.0)

pub returns : goal.returns
unfolding line_at
returns c =
    rw (c.line-2.ensures, ← c.short_at-source.ensures.0, ← c.short_at-target.ensures.0, ← c.short_at.ensures.0)
