-- `rounds::settle` meets its contract. The invariant: the run goes on from p as it went from the beginning, and the members of
-- its classes are linked. Assumes nothing.
use Prim.Native.Nat.{◌-◌}
use Rattle.members.specs.Members.{Linked}
use Rattle.rounds.proofs.Run.{Running}
use Rattle.rounds.proofs.settle.Given as goal

abbrev pub invariant-loop-c : goal.invariant-loop-c
invariant-loop-c l = Running l.live l.rows l.colours l.n l.p × Linked l.p.names l.n l.next

abbrev pub decreases-loop-c : goal.decreases-loop-c
decreases-loop-c l = l.n - l.p.rounds
