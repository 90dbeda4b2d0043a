-- `pierhollow_pocket::pierhollow_pocket_check` meets its contract. Assumes nothing.
use Rattle.telling.proofs.Telling.{told_alone}
use Rattle.telling.proofs.Outcomes.{as_checked}
use Rattle.pierhollow_pocket.proofs.pierhollow_pocket_check.Goals as goal

pub returns : goal.returns
returns c = told_alone (as_checked c.check.result) c.check.ensures c.told.ensures
