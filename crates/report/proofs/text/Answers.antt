-- `report::text` meets its contract. Assumes nothing.
use mathlib.Core.Path.{sym, ap, ◌∙◌, subst}
use mathlib.Core.List.{List}
use Prim.Native.Nat.{ℕ}
use native.Mathlib.Omega.{arith}
use lib.ListN.{take}
use lib.Seq.{length-take-le}
use Rattle.text.specs.Printed.{Printed}
use Rattle.text.proofs.Laws.{wrote_front}
use Rattle.report.proofs.text.Goals as goal

pub slice_bounds-print-end : goal.slice_bounds-print-end
slice_bounds-print-end c = let made = c.put_text-k in sym (length-take-le made.result made.new.room (omega (arith, made.ensures.2)))

pub returns : goal.returns
returns c =
    let made = c.put_text-k in
    let is = ap (take made.result) made.ensures.0 ∙ wrote_front _ _ made.result made.ensures.1 in
    subst (λ (text : List ℕ). Printed text c.args.room.now c.print.result c.print.new.room) is c.print.ensures
