-- `partition::Partition::split` meets its contract. The invariant: the members before s have their new names, and the first of
-- each group is known. Assumes nothing.
use Prim.Native.Nat.{◌-◌}
use Rattle.members.proofs.Laws.{Standing}
use Rattle.partition.proofs.Laws.{Renamed}
use Rattle.partition.proofs.Partition.split.Given as goal

abbrev pub invariant-loop-s : goal.invariant-loop-s
invariant-loop-s l =
    Standing l.initial.names l.n l.c l.s × Renamed l.n l.initial.names l.c l.groups l.names l.firsts l.s

abbrev pub decreases-loop-s : goal.decreases-loop-s
decreases-loop-s l = l.n - l.s
