-- `pierhollow::pierhollow_reduce` meets its contract. Assumes nothing.
use Rattle.telling.proofs.Telling.{told_as}
use Rattle.telling.proofs.Outcomes.{as_reduced}
use Rattle.pierhollow.proofs.pierhollow_reduce.Goals as goal

pub returns : goal.returns
returns c = told_as (as_reduced c.reduce.result) c.reduce.ensures c.told.ensures
