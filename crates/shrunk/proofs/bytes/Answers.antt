-- `shrunk::bytes` meets its contract: the rooms refuse no file, so that what the call writes is what is written. Assumes nothing.
use mathlib.Core.Path.{sym, subst}
use mathlib.Core.List.{List}
use Prim.Native.Nat.{ℕ, ◌≤◌}
use native.Mathlib.Omega.{arith}
use lib.ListN.{length}
use lib.Seq.{length-take-le}
use Rattle.folding.specs.Folding.{rooms}
use Rattle.text.specs.Printed.{Printed}
use Rattle.shrunk.proofs.Laws.{short, bytes_are, nothing_written}
use Rattle.shrunk.proofs.bytes.Goals as goal

pub returns-in_default : goal.returns-in_default
returns-in_default c =
    let made = c.reduce in
    nothing_written c.args.file.now (rooms c.file_room-answer.result c.class_room-classes.result) (rooms made.new.answer made.new.classes) made.result made.ensures (omega arith) (omega arith) c.in_default.field-0 c.in_default.is
    c.args.room.now

pub slice_bounds-answer-end : goal.slice_bounds-answer-end
slice_bounds-answer-end c =
    let made = c.reduce in
    omega (
      arith,
      short c.args.file.now (rooms c.file_room-answer.result c.class_room-classes.result) (rooms made.new.answer made.new.classes) made.result made.ensures (omega arith) (omega arith) c.in-Ok.counts
          c.in-Ok.is,
    )

pub slice_bounds-print-end : goal.slice_bounds-print-end
slice_bounds-print-end c =
    let made = c.reduce in
    let fits : c.in-Ok.counts.length ≤ length made.new.answer =
    omega (
      arith,
      short c.args.file.now (rooms c.file_room-answer.result c.class_room-classes.result) (rooms made.new.answer made.new.classes) made.result made.ensures (omega arith) (omega arith) c.in-Ok.counts
          c.in-Ok.is,
    ) in
    sym (length-take-le c.in-Ok.counts.length _ fits)

pub returns : goal.returns
returns c =
    let made = c.reduce in
    let is =
    bytes_are c.args.file.now (rooms c.file_room-answer.result c.class_room-classes.result) (rooms made.new.answer made.new.classes) made.result made.ensures (omega arith) (omega arith) c.in-Ok.counts
    c.in-Ok.is in
    subst (λ (text : List ℕ). Printed text c.args.room.now c.print.result c.print.new.room) is c.print.ensures
