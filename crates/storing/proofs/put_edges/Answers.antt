-- `storing::put_edges` meets its contract: what is written into the part that is lent on is written into the room. Assumes nothing.
use mathlib.Core.Path.{◌≡◌, sym, ap, ◌∙◌}
use mathlib.Core.List.{List}
use Prim.Native.Nat.{ℕ, ◌+◌, ◌*◌, ◌/◌, ◌%◌}
use native.Mathlib.Omega.{arith}
use lib.ListN.{length}
use Rattle.pen.proofs.Parts.{puts_drop}
use Rattle.bits.proofs.Parts.{lent_tail, back_tail}
use Rattle.meaning.specs.Filter.{Edge}
use Rattle.layout.specs.Layout.{edge_widths, flat, put_edges}
use Rattle.storing.specs.Stored.{edges_of}
use Rattle.storing.proofs.put_edges.Goals as goal

pub returns : goal.returns
returns c =
    let a = c.args in
    let room = a.room.now in
    let from = a.bit / 8 in
    let es : List Edge = edges_of a.rows.now a.order.now a.list.now 64 in
    let at : from * 8 + a.bit % 8 ≡ a.bit = omega arith in
    back_tail room c.put_rows.new.part from
    ∙ rw (c.put_rows.ensures, lent_tail room from)
    (sym (puts_drop room from (a.bit % 8) (edge_widths a.p (length es)) (flat es) c.requires.bit_in_bounds) ∙ ap (λ (k : ℕ). put_edges a.p room k es) at)
