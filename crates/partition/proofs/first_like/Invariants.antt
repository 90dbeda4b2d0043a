-- `partition::first_like` meets its contract. The invariant: none of the states of the list so far has the colour. Assumes nothing.
use Rattle.meaning.specs.Search.{at}
use Rattle.partition.proofs.Laws.{Unlike}
use Rattle.partition.proofs.first_like.Given as goal

abbrev pub invariant-loop-state : goal.invariant-loop-state
invariant-loop-state l = Unlike l.colours l.live (at l.colours (at l.live l.j)) l.state-index
