-- `storing::put_row` meets its contract. The invariant: the row is written or held up to a label, and the rest is left.
-- Assumes nothing.
use Rattle.meaning.specs.Search.{at}
use Rattle.pen.specs.Runs.{inked, place_of}
use Rattle.table.specs.Table.{row}
use Rattle.storing.specs.Stored.{row_edge}
use Rattle.storing.proofs.Laws.{RowUpTo}
use Rattle.storing.proofs.put_row.Given as goal

abbrev pub invariant-loop-y : goal.invariant-loop-y
invariant-loop-y l =
    RowUpTo l.p (row_edge l.rows l.order l.list l.k) l.k (row l.rows (at l.order l.k)).labels (inked l.initial.part l.initial.pen) (place_of l.initial.pen) l.part l.pen l.y-iterator.rest
