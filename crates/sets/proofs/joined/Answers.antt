-- `sets::joined` meets its contract. Assumes nothing.
use Rattle.sets.proofs.Laws.{holds_or}
use Rattle.sets.proofs.joined.Goals as goal

pub returns : goal.returns
returns c = holds_or c.args.a c.args.b
