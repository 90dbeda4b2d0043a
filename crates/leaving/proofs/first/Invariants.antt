-- `leaving::first` meets its contract. The invariant: no edge out of a state that was passed leaves the fault colour.
-- Assumes nothing.
use Prim.Native.Nat.{◌-◌}
use Rattle.leaving.specs.Leaving.{NoneBefore}
use Rattle.leaving.proofs.first.Given as goal

abbrev pub invariant-loop-s : goal.invariant-loop-s
invariant-loop-s l = NoneBefore l.p l.file l.n l.e l.colour l.s

abbrev pub decreases-loop-s : goal.decreases-loop-s
decreases-loop-s l = l.n - l.s
