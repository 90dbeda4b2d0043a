-- `grouping::group` meets its contract. The invariant: the members before s have their groups. Assumes nothing.
use Prim.Native.Nat.{◌-◌}
use Rattle.conflicts.specs.Conflicts.{clash}
use Rattle.members.proofs.Laws.{Standing}
use Rattle.grouping.specs.Grouping.{Grouped}
use Rattle.grouping.proofs.group.Given as goal

abbrev pub invariant-loop-s : goal.invariant-loop-s
invariant-loop-s l =
    Standing l.classes.names.now l.classes.n l.c l.s × Grouped (clash l.classes.rows.now l.classes.names.now) l.classes.names.now l.c l.into l.s

abbrev pub decreases-loop-s : goal.decreases-loop-s
decreases-loop-s l = l.classes.n - l.s
