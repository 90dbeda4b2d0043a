-- `reach::meet` meets its contract. Assumes nothing.
use Rattle.reach.proofs.Laws.{met_old, met_room, met_new}
use Rattle.reach.proofs.meet.Goals as goal

pub bounds-codes-met : goal.bounds-codes-met
bounds-codes-met c = met_room _ _ _ _ c.requires.0 c.requires.1 c.if-numbers-code.true

pub returns-then-numbers-code : goal.returns-then-numbers-code
returns-then-numbers-code c = met_new _ _ _ _ c.requires.0 c.requires.1 c.if-numbers-code.true

pub returns : goal.returns
returns c = met_old _ _ _ _ c.requires.0 c.requires.1 c.if-numbers-code.false
