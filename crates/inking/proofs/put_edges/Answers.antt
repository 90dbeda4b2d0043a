-- `inking::put_edges` meets its contract: what is written into the part that is lent on is written into the room. Assumes nothing.
use mathlib.Core.Path.{◌≡◌, sym, ap, ◌∙◌}
use mathlib.Core.List.{[], ◌∷◌, ◌++◌}
use Prim.Native.Nat.{ℕ, ◌+◌, ◌*◌, ◌/◌, ◌%◌}
use native.Mathlib.Omega.{arith}
use Rattle.pen.specs.Runs.{put_fields}
use Rattle.pen.proofs.Parts.{puts_drop}
use Rattle.bits.proofs.Parts.{lent_tail, back_tail}
use Rattle.layout.specs.Layout.{edge_widths, fill_bits, flat}
use Rattle.drawing.specs.Reader.{edges_of, read_of}
use Rattle.inking.proofs.put_edges.Goals as goal

pub returns : goal.returns
returns c =
    let a = c.args in
    let room = a.room.now in
    let from = a.bit / 8 in
    let ws = edge_widths a.p a.s.edges ++ (fill_bits a.p a.s.states a.s.edges ∷ []) in
    let vs = flat (edges_of (read_of a.text.now)) ++ (0 ∷ []) in
    let at : from * 8 + a.bit % 8 ≡ a.bit = omega arith in
    back_tail room c.put_all.new.part from
    ∙ rw (c.put_all.ensures, lent_tail room from)
    (sym (puts_drop room from (a.bit % 8) ws vs c.requires.reaches) ∙ ap (λ (k : ℕ). put_fields room k ws vs) at)
