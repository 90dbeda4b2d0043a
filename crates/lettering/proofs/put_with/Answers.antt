-- `lettering::put_with` meets its contract. Assumes nothing.
use native.Mathlib.Omega.{arith}
use lib.ListN.{length}
use Rattle.text.specs.Decimal.{decimal}
use Rattle.text.proofs.Laws.{both}
use Rattle.lettering.proofs.Laws.{room_for}
use Rattle.lettering.proofs.put_with.Goals as goal

pub put_short-end-requires : goal.put_short-end-requires
put_short-end-requires c =
    let a = c.args in
    (c.requires.0, (room_for a.at a.n (length a.room.now) a.word.now c.requires.1 c.requires.2).0)

pub put-requires : goal.put-requires
put-requires c =
    let a = c.args in
    omega (arith, c.put_short-end.auto.room, c.put_short-end.ensures.1, (room_for a.at a.n (length a.room.now) a.word.now c.requires.1 c.requires.2).1)

pub returns : goal.returns
returns c =
    let a = c.args in
    both a.room.now a.at (decimal a.n) a.word.now (omega arith) c.put_short-end.ensures.0 c.put_short-end.ensures.1 c.put.ensures.0 c.put.ensures.1
