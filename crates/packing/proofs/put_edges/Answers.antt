-- `packing::put_edges` meets its contract: what is written into the part that is lent on is written into the room. Assumes nothing.
use mathlib.Core.Path.{◌≡◌, sym, ap, ◌∙◌}
use Prim.Native.Nat.{ℕ, ◌+◌, ◌*◌, ◌/◌, ◌%◌}
use native.Mathlib.Omega.{arith}
use Rattle.pen.specs.Runs.{put_fields}
use Rattle.pen.proofs.Parts.{puts_drop}
use Rattle.bits.proofs.Parts.{lent_tail, back_tail}
use Rattle.layout.specs.Layout.{edge_widths}
use Rattle.packing.proofs.put_edges.Goals as goal

pub returns : goal.returns
returns c =
    let a = c.args in
    let room = a.room.now in
    let from = a.at / 8 in
    let at : from * 8 + a.at % 8 ≡ a.at = omega arith in
    back_tail room c.put_all.new.part from
    ∙ rw (c.put_all.ensures, lent_tail room from)
    (sym (puts_drop room from (a.at % 8) (edge_widths a.p a.e) a.edges.now c.requires.reaches)
    ∙ ap (λ (k : ℕ). put_fields room k (edge_widths a.p a.e) a.edges.now) at)
