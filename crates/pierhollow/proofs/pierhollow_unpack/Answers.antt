-- `pierhollow::pierhollow_unpack` meets its contract. Assumes nothing.
use Rattle.telling.proofs.Telling.{told_as}
use Rattle.telling.proofs.Outcomes.{as_unpacked}
use Rattle.pierhollow.proofs.pierhollow_unpack.Goals as goal

pub returns : goal.returns
returns c = told_as (as_unpacked c.unpack.result) c.unpack.ensures c.told.ensures
