-- `sets::shared` meets its contract. Assumes nothing.
use Rattle.sets.proofs.Laws.{holds_and}
use Rattle.sets.proofs.shared.Goals as goal

pub returns : goal.returns
returns c = holds_and c.args.a c.args.b
