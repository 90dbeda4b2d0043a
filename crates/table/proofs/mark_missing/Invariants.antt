use Rattle.std.proofs.Common.{◌≡◌, map, ◌++◌, take, drop}
use Rattle.table.specs.Table.{marked}
use Rattle.table.proofs.mark_missing.Given as goal

-- the rows gone over are marked, the others as they were
abbrev pub invariant-loop-row : goal.invariant-loop-row
invariant-loop-row l = l.rows ≡ map marked (take l.row-index l.fn.rows) ++ drop l.row-index l.fn.rows
