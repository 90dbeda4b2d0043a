-- `loading::load` meets its contract: a refusal before the edges is the answer, and otherwise the first fault of the edges
-- decides, or else 17. The invariant: no edge before those that are left has a fault, and the table has these edges. Assumes nothing.
use Rattle.layout.specs.Layout.{edges_begin}
use Rattle.loading.proofs.Laws.{Filling}
use Rattle.loading.proofs.load.Given as goal

abbrev pub invariant-loop-placed : goal.invariant-loop-placed
invariant-loop-placed l =
    Filling l.p l.file (edges_begin l.p l.n) l.e l.n l.m l.initial.rows l.rows l.last l.placed-iterator
