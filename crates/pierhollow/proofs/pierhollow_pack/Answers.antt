-- `pierhollow::pierhollow_pack` meets its contract. Assumes nothing.
use Rattle.telling.proofs.Telling.{told_as}
use Rattle.telling.proofs.Outcomes.{as_packed}
use Rattle.pierhollow.proofs.pierhollow_pack.Goals as goal

pub returns : goal.returns
returns c = told_as (as_packed c.pack.result) c.pack.ensures c.told.ensures
