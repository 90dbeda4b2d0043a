-- `grouping::mark` meets its contract. The invariant: the groups of conflicting members before t are marked, all below top.
-- Assumes nothing.
use Prim.Native.Nat.{◌≤◌, ◌-◌}
use Rattle.conflicts.specs.Conflicts.{clash}
use Rattle.members.proofs.Laws.{Standing}
use Rattle.grouping.proofs.Laws.{Marked}
use Rattle.grouping.proofs.mark.Given as goal

abbrev pub invariant-loop-t : goal.invariant-loop-t
invariant-loop-t l =
    (l.t ≤ l.s) × Standing l.classes.names.now l.classes.n l.c l.t × Marked (clash l.classes.rows.now l.classes.names.now) l.classes.names.now l.groups l.c l.s l.words l.top l.t

abbrev pub decreases-loop-t : goal.decreases-loop-t
decreases-loop-t l = l.s - l.t
