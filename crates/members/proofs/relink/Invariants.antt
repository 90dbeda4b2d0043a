-- `members::relink` meets its contract. The invariant: the members before s are linked by their new names, and the last with each
-- name is known. Assumes nothing.
use Prim.Native.Nat.{◌-◌}
use Rattle.members.specs.Members.{Relinkable}
use Rattle.members.proofs.Laws.{Standing}
use Rattle.members.proofs.Relinking.{Relinked}
use Rattle.members.proofs.relink.Given as goal

abbrev pub invariant-loop-s : goal.invariant-loop-s
invariant-loop-s l =
    (lent : Relinkable l.names l.initial.next l.n l.c) × Standing lent.old l.n l.c l.s × Relinked lent.old l.names l.n l.c l.initial.next l.next l.latest l.s

abbrev pub decreases-loop-s : goal.decreases-loop-s
decreases-loop-s l = l.n - l.s
