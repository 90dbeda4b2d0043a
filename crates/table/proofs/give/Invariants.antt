-- `table::give` meets its contract. The invariant: the labels that are left are still to be given. Assumes nothing.
use Rattle.std.proofs.Common.{◌≡◌}
use Rattle.table.proofs.Laws.{Giving}
use Rattle.table.proofs.give.Given as goal

abbrev pub invariant-loop-y : goal.invariant-loop-y
invariant-loop-y l = record {
  giving : Giving l.initial.own l.other l.own.targets l.y-iterator.rest;
  labels : l.own.labels ≡ l.initial.own.labels;
}
