-- `members::count` meets its contract. Assumes nothing.
use mathlib.Core.Path.{◌≡◌}
use Prim.Native.Nat.{◌≤◌}
use Rattle.meaning.specs.Search.{count}
use Rattle.meaning.specs.Classes.{named}
use Rattle.members.proofs.count.Given as goal

abbrev pub invariant-loop-s : goal.invariant-loop-s
invariant-loop-s l = (l.k ≡ count (named l.names) l.s) × (l.k ≤ l.s)
