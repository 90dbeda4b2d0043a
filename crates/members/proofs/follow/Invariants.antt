-- `members::follow` meets its contract. The invariant: the states that the list has behind those that are left are linked. Assumes
-- nothing.
use Rattle.std.proofs.Common.{ℕ, List, ◌≡◌, ◌++◌, length}
use Rattle.members.proofs.Laws.{Linking}
use Rattle.members.proofs.follow.Given as goal

abbrev pub invariant-loop-state : goal.invariant-loop-state
invariant-loop-state l =
    let rest = l.state-iterator.iter.rest.now in
    (behind : List ℕ) × (l.live ≡ rest ++ behind) × Linking l.names l.live l.n l.next l.nearest (length rest)
