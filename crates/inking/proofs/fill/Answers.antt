-- `inking::fill` meets its contract. Assumes nothing.
use mathlib.Core.Path.{◌∙◌}
use Rattle.pen.specs.Runs.{put_fields}
use Rattle.inking.proofs.fill.Goals as goal

pub returns : goal.returns
unfolding put_fields
returns c =
    c.finish.ensures ∙ c.push-filled.ensures.ink
