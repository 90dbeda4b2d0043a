-- `partition::initial` meets its contract. The invariant: the first j states of the list have their names. Assumes nothing.
use Prim.Native.Nat.{ℕ}
use Rattle.reach.specs.Walking.{Rises}
use Rattle.partition.proofs.Laws.{Begun}
use Rattle.partition.proofs.initial.Given as goal

abbrev pub invariant-loop-j : goal.invariant-loop-j
invariant-loop-j l = (n : ℕ) → Rises n l.live → Begun l.live l.colours n l.names l.j
