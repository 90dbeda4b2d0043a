-- `pairs::pair_in` meets its contract. The invariants: no member before a conflicts with a later one, nor a with one before b,
-- and no label that is tried parts a and b. Assumes nothing.
use Prim.Native.Nat.{◌-◌}
use Rattle.std.proofs.Common.{◌≡◌, None}
use Rattle.conflicts.specs.Conflicts.{clash}
use Rattle.conflicts.proofs.Laws.{Calm}
use Rattle.pairs.proofs.Laws.{Outer, Inner}
use Rattle.pairs.proofs.pair_in.Given as goal

abbrev pub invariant-loop-y : goal.invariant-loop-y
invariant-loop-y l = (l.found ≡ None) × Calm l.rows l.names l.a l.b l.y-iterator.rest

abbrev pub invariant-loop-b : goal.invariant-loop-b
invariant-loop-b l = Inner (clash l.rows l.names) l.names l.c l.n l.a l.found l.b

abbrev pub decreases-loop-b : goal.decreases-loop-b
decreases-loop-b l = l.n - l.b

abbrev pub invariant-search : goal.invariant-search
invariant-search l = Outer (clash l.rows l.names) l.names l.c l.n l.found l.a

abbrev pub decreases-search : goal.decreases-search
decreases-search l = l.n - l.a
