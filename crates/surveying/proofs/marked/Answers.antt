-- `surveying::marked` meets its contract. Assumes nothing.
use Rattle.sets.specs.Sets.{contains}
use Rattle.surveying.proofs.marked.Goals as goal

pub returns : goal.returns
unfolding contains
returns c = c.holds.ensures
