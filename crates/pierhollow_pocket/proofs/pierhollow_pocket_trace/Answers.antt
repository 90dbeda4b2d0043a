-- `pierhollow_pocket::pierhollow_pocket_trace` meets its contract. Assumes nothing.
use Rattle.telling.proofs.Telling.{told_as}
use Rattle.telling.proofs.Outcomes.{as_traced}
use Rattle.pierhollow_pocket.proofs.pierhollow_pocket_trace.Goals as goal

pub returns : goal.returns
returns c = told_as (as_traced c.trace.result) c.trace.ensures c.told.ensures
