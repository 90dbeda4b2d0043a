-- `grouping::unmarked` meets its contract. Assumes nothing.
use mathlib.Core.Path.{ap}
use mathlib.Core.Bool.{not}
use Rattle.sets.specs.Sets.{contains}
use Rattle.grouping.proofs.unmarked.Goals as goal

pub returns : goal.returns
unfolding contains
returns c = ap not c.holds.ensures
