use Rattle.pen.specs.Runs.{inked}
use Rattle.pen.proofs.finish.Goals as goal

pub returns : goal.returns
unfolding inked
returns c = c.put.ensures
