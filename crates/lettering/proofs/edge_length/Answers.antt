-- `lettering::edge_length` meets its contract. Assumes nothing.
use native.Mathlib.Omega.{arith}
use Rattle.layout.specs.Code.{edge_of}
use Rattle.lettering.proofs.Laws.{edge-length_is}
use Rattle.lettering.proofs.edge_length.Goals as goal

pub returns : goal.returns
returns c =
    let a = c.args in
    let source = c.digits.ensures in
    let target = c.digits-2.ensures in
    let label = c.digits-3.ensures in
    (omega (arith, edge-length_is (edge_of a.edge), source.0, target.0, label.0), omega (arith, source.1, target.1, label.1))
