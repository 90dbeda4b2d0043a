-- `pairs::first_parted` meets its contract. The invariant: none of the states of the list so far names a class that is parted.
-- Assumes nothing.
use Rattle.conflicts.specs.Conflicts.{clash}
use Rattle.pairs.proofs.Laws.{Tried}
use Rattle.pairs.proofs.first_parted.Given as goal

abbrev pub invariant-loop-state : goal.invariant-loop-state
invariant-loop-state l = Tried l.classes.n (clash l.classes.rows.now l.classes.names.now) l.classes.names.now l.live l.state-index
