-- `sets::lowest` meets its contract. Assumes nothing.
use Rattle.sets.proofs.Laws.{lowest_is}
use Rattle.sets.proofs.lowest.Goals as goal

pub returns : goal.returns
returns c = lowest_is 64 c.args.set c.requires c.ranges.set.fits
