-- `pierhollow::pierhollow_to_dot` meets its contract. Assumes nothing.
use Rattle.telling.proofs.Telling.{told_as}
use Rattle.telling.proofs.Outcomes.{as_made}
use Rattle.pierhollow.proofs.pierhollow_to_dot.Goals as goal

pub returns : goal.returns
returns c = told_as (as_made c.to_dot.result) c.to_dot.ensures c.told.ensures
