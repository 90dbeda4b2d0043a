-- `pierhollow::pierhollow_check` meets its contract. Assumes nothing.
use Rattle.telling.proofs.Telling.{told_alone}
use Rattle.telling.proofs.Outcomes.{as_checked}
use Rattle.pierhollow.proofs.pierhollow_check.Goals as goal

pub returns : goal.returns
returns c = told_alone (as_checked c.check.result) c.check.ensures c.told.ensures
