-- `leaving::edges_of` meets its contract. The invariant: no edge of the state that was passed leaves the fault colour.
-- Assumes nothing.
use Rattle.leaving.proofs.Laws.{Going}
use Rattle.leaving.proofs.edges_of.Given as goal

abbrev pub invariant-loop-i : goal.invariant-loop-i
invariant-loop-i l = Going l.p l.file l.n l.e l.colour l.state l.i
