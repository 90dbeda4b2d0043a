-- `pierhollow_convert::pierhollow_to_large` meets its contract. Assumes nothing.
use Rattle.telling.proofs.Telling.{told_as}
use Rattle.telling.proofs.Outcomes.{as_packed}
use Rattle.pierhollow_convert.proofs.pierhollow_to_large.Goals as goal

pub returns : goal.returns
returns c = told_as (as_packed c.to.result) c.to.ensures c.told.ensures
