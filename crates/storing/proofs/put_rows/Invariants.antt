-- `storing::put_rows` meets its contract. The invariant: the rows so far are written or held. Assumes nothing.
use Rattle.meaning.specs.Reduced.{listed}
use Rattle.storing.specs.Stored.{row_edge, EdgesDrawn}
use Rattle.storing.proofs.put_rows.Given as goal

abbrev pub invariant-loop-k : goal.invariant-loop-k
invariant-loop-k l = EdgesDrawn l.p l.initial.part l.bit (listed (row_edge l.rows l.order l.list) l.k 64) l.part l.pen
