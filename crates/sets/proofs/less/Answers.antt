-- `sets::less` meets its contract. Assumes nothing.
use Rattle.sets.proofs.Laws.{holds_less}
use Rattle.sets.proofs.less.Goals as goal

pub returns : goal.returns
returns c = holds_less c.args.a c.args.b
