-- `checking::check_as` meets its contract: a refusal before the edges is the answer, and otherwise the first fault of the edges
-- decides, or else 17. The invariant: no edge before those that are left has a fault. Assumes nothing.
use Rattle.layout.specs.Layout.{edges_begin}
use Rattle.edges.specs.Walk.{Walking}
use Rattle.checking.proofs.check_as.Given as goal

abbrev pub invariant-loop-edge : goal.invariant-loop-edge
invariant-loop-edge l = Walking l.p l.file (edges_begin l.p l.n) l.e l.n l.m l.last l.edge-iterator
