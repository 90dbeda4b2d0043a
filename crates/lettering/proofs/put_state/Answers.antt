-- `lettering::put_state` meets its contract. Assumes nothing.
use native.Mathlib.Omega.{arith}
use mathlib.Core.List.{◌++◌}
use lib.ListN.{length}
use Rattle.text.specs.Decimal.{decimal}
use Rattle.text.proofs.Laws.{both, same}
use Rattle.drawing.specs.Profile.{label_word, line_end}
use Rattle.lettering.proofs.Laws.{state_pieces, state_rooms}
use Rattle.lettering.proofs.put_state.Goals as goal

pub put_with-behind-requires : goal.put_with-behind-requires
put_with-behind-requires c =
    let a = c.args in
    (c.requires.0, omega arith, (state_rooms a.at a.s a.colour (length a.room.now) c.requires.2).0)

pub put_with-requires : goal.put_with-requires
put_with-requires c =
    let a = c.args in
    let rooms = state_rooms a.at a.s a.colour (length a.room.now) c.requires.2 in
    (c.requires.1, omega arith, omega (arith, c.put_with-behind.auto.room, c.put_with-behind.ensures.1, rooms.1))

pub returns : goal.returns
returns c =
    let a = c.args in
    let room = a.room.now in
    let done = both room a.at (decimal a.s ++ label_word) (decimal a.colour ++ line_end) (omega arith)
    c.put_with-behind.ensures.0 c.put_with-behind.ensures.1 c.put_with.ensures.0 c.put_with.ensures.1 in
    same room a.at (state_pieces a.s a.colour) done.0 done.1
