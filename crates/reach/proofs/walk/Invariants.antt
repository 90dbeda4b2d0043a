-- `reach::walk` meets its contract. The invariant: the first i states of the queue are visited. Assumes nothing.
use Prim.Native.Nat.{◌-◌}
use Rattle.meaning.specs.Reach.{walked}
use Rattle.table.specs.Table.{look}
use Rattle.reach.specs.Walking.{Walked}
use Rattle.reach.proofs.walk.Given as goal

abbrev pub invariant-loop-i : goal.invariant-loop-i
invariant-loop-i l =
    Walked l.codes l.numbers l.met (walked (look l.rows) 64 l.start l.i)

abbrev pub decreases-loop-i : goal.decreases-loop-i
decreases-loop-i l = 256 - l.i
