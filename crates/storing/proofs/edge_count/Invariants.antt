-- `storing::edge_count` meets its contract. Assumes nothing.
use mathlib.Core.Path.{◌≡◌}
use Prim.Native.Nat.{◌*◌, ◌≤◌}
use Rattle.meaning.specs.Search.{at}
use Rattle.meaning.specs.Listing as Listing
use Rattle.sets.specs.Sets.{holds}
use Rattle.table.specs.Table.{row}
use Rattle.storing.proofs.edge_count.Given as goal

abbrev pub invariant-loop-state : goal.invariant-loop-state
invariant-loop-state l = (l.e ≤ 64 * l.state-index) × (l.e ≡ Listing.cells (λ i y. holds (row l.rows (at l.order i)).labels y) l.state-index 64)
