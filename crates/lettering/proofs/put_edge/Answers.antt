-- `lettering::put_edge` meets its contract. Assumes nothing.
use native.Mathlib.Omega.{arith}
use mathlib.Core.List.{◌++◌}
use lib.ListN.{length}
use Rattle.text.specs.Decimal.{decimal}
use Rattle.text.proofs.Laws.{both, same}
use Rattle.layout.specs.Code.{edge_of}
use Rattle.drawing.specs.Profile.{arrow, label_word, line_end}
use Rattle.lettering.proofs.Laws.{edge_pieces, edge-rooms}
use Rattle.lettering.proofs.put_edge.Goals as goal

pub put_with-source-requires : goal.put_with-source-requires
put_with-source-requires c =
    let a = c.args in
    (omega (arith, c.requires.0.source), omega arith, (edge-rooms a.at (edge_of a.edge) (length a.room.now) c.requires.1).0)

pub put_with-target-requires : goal.put_with-target-requires
put_with-target-requires c =
    let a = c.args in
    let rooms = edge-rooms a.at (edge_of a.edge) (length a.room.now) c.requires.1 in
    (omega (arith, c.requires.0.target), omega arith, omega (arith, c.put_with-source.auto.room, c.put_with-source.ensures.1, rooms.1))

pub put_with-requires : goal.put_with-requires
put_with-requires c =
    let a = c.args in
    let rooms = edge-rooms a.at (edge_of a.edge) (length a.room.now) c.requires.1 in (
      omega (arith, c.requires.0.label),
      omega arith,
      omega (arith, c.put_with-target.auto.room, c.put_with-source.auto.room, c.put_with-target.ensures.1, c.put_with-source.ensures.1, rooms.2),
    )

pub returns : goal.returns
returns c =
    let a = c.args in
    let room = a.room.now in
    let e = edge_of a.edge in
    let two = both room a.at (decimal e.source ++ arrow) (decimal e.target ++ label_word) (omega arith)
    c.put_with-source.ensures.0 c.put_with-source.ensures.1 c.put_with-target.ensures.0 c.put_with-target.ensures.1 in
    let three = both room a.at ((decimal e.source ++ arrow) ++ (decimal e.target ++ label_word)) (decimal e.label ++ line_end) (omega arith)
    two.0 two.1 c.put_with.ensures.0 c.put_with.ensures.1 in
    same room a.at (edge_pieces e) three.0 three.1
