-- `report::put_text` meets its contract: the rooms refuse no file, so that what the call gives is what is printed. Assumes nothing.
use mathlib.Core.Path.{◌≡◌, sym, ap, ◌∙◌}
use native.Mathlib.Nat.{zero-add}
use native.Mathlib.Omega.{arith}
use lib.ListN.{length, take}
use lib.Seq.{length-take-le}
use Rattle.layout.specs.Contents.{states_in}
use Rattle.layout.specs.Layout.{large}
use Rattle.folding.specs.Folding.{rooms}
use Rattle.text.specs.Decimal.{wrote}
use Rattle.report.proofs.Laws.{text_counts, text_refusal}
use Rattle.report.proofs.put_text.Goals as goal

pub slice_bounds-put_reduced-end : goal.slice_bounds-put_reduced-end
slice_bounds-put_reduced-end c = sym (length-take-le c.states-n.result c.reduce.new.classes (omega (arith, c.states-n.ensures.1)))

pub put_reduced-requires : goal.put_reduced-requires
put_reduced-requires c = omega (arith, length-take-le c.states-n.result c.reduce.new.classes (omega (arith, c.states-n.ensures.1)), c.states-n.ensures.1)

pub returns-in-Ok : goal.returns-in-Ok
returns-in-Ok c =
    let a = c.args in
    -- the states that the file states, by the large widths
    let n : c.states-n.result ≡ states_in large a.file.now = rw c.profile.ensures at c.states-n.ensures.0 in
    let text =
    text_counts a.file.now (rooms c.file_room-answer.result c.class_room-classes.result) (rooms c.reduce.new.answer c.reduce.new.classes) c.reduce.result c.reduce.ensures (omega arith) (omega arith)
    c.in-Ok.counts c.states-n.result c.in-Ok.is n in
    let made = c.put_reduced.ensures in (
      made.0 ∙ ap (wrote a.room.now 0) text,
      made.1 ∙ ap length text,
      omega (arith, made.2, length-take-le c.states-n.result c.reduce.new.classes (omega (arith, c.states-n.ensures.1)), c.states-n.ensures.1),
    )

pub returns-in-Err : goal.returns-in-Err
returns-in-Err c =
    let a = c.args in
    let text =
    text_refusal a.file.now (rooms c.file_room-answer.result c.class_room-classes.result) (rooms c.reduce.new.answer c.reduce.new.classes) c.reduce.result c.reduce.ensures (omega arith) (omega arith)
    c.in-Err.why c.in-Err.is in
    let made = c.put_refusal.ensures in
    (made.0 ∙ ap (wrote a.room.now 0) text, made.1 ∙ zero-add _ ∙ ap length text, omega (arith, made.2))
