use Rattle.table.proofs.Laws.{marked_more}
use Rattle.table.proofs.mark_missing.Goals as goal

pub loop-row-preserved : goal.loop-row-preserved
loop-row-preserved c = rw c.loop-row.invariant (marked_more _ c.args.rows.now c.loop-row.row-index c.loop-row-test.true)
