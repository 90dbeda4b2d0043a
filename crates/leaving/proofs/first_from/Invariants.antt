-- `leaving::first_from` meets its contract. The invariant: edges before `low` have a source before the state, and those from `high` on
-- have not. Assumes nothing.
use Prim.Native.Nat.{◌-◌}
use Rattle.leaving.specs.Leaving.{Halved}
use Rattle.leaving.proofs.first_from.Given as goal

abbrev pub invariant-loop-low : goal.invariant-loop-low
invariant-loop-low l = Halved l.p l.file l.n l.e l.state l.low l.high

abbrev pub decreases-loop-low : goal.decreases-loop-low
decreases-loop-low l = l.high - l.low
