-- `sets::others` meets its contract. Assumes nothing.
use Rattle.sets.proofs.Laws.{holds_others}
use Rattle.sets.proofs.others.Goals as goal

pub returns : goal.returns
returns c j l = holds_others 64 c.args.set j c.ranges.set.fits l
