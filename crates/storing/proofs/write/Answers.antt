-- `storing::write` meets its contract: header, colours, edges and filling are the fields of the file, one after another.
-- Assumes nothing.
use mathlib.Core.Path.{◌≡◌, sym, ap, ap₂, ◌∙◌}
use mathlib.Core.Bool.{true}
use mathlib.Core.List.{List, ◌∷◌, []}
use Prim.Native.Nat.{ℕ, ◌≤◌}
use native.Mathlib.Nat.{mul_comm}
use native.Mathlib.Omega.{arith}
use borrow.Author.Rules.{rules}
use lib.ListN.{length, replicate}
use Rattle.bits.specs.Bits.{Bytes, put_field}
use Rattle.pen.specs.Runs.{put_fields}
use Rattle.meaning.specs.Search.{at}
use Rattle.meaning.proofs.Traced.{opt}
use Rattle.meaning.specs.Listing.{cells}
use Rattle.sets.specs.Sets.{holds}
use Rattle.layout.specs.declared.profile.Profile.{Profile}
use Rattle.layout.specs.Layout.{header_widths, header_values, header_bits, edges_begin, file_bits, bytes_for, file_length, fill_bits, length_of, put_edges}
use Rattle.layout.proofs.Bounds.{colours_high}
use Rattle.files.specs.Tests.{Written, write_written}
use Rattle.files.specs.Written.{header_fit, colours_fit, states≤256, written-laid}
use Rattle.table.specs.Table.{Table, row, look}
use Rattle.storing.specs.Stored.{led, edges_of, stored, Fileable}
use Rattle.storing.proofs.Laws.{led_none, listed-counted, listed-short}
use Rattle.storing.proofs.write.Goals as goal

module _ {p : Profile} {T : Table} {order list colours : List ℕ} {m start room : ℕ} (h : Fileable p T order list colours m start room) where
  passed : Written p (stored T order list colours m start) true room (length_of p (stored T order list colours m start) ∷ [])
  passed = write_written p (stored T order list colours m start) true room _ h.packable

  -- the states are as many as the colours
  count : length colours ≡ length order
  count = sym h.coloured

  count≤256 : length order ≤ 256
  count≤256 = rw (← count) (states≤256 p p.usable (stored T order list colours m start) passed.writable)

  -- the edges at all labels are those at the labels below m
  short : edges_of T order list 64 ≡ edges_of T order list m
  short = listed-short _ (length order) m h.labels λ k y i l.
      opt (look T (at order k) y)
      (λ e. ap (led list) e ∙ led_none list)
      (λ t e. absurd (omega (arith, h.rows.label k y t i e)))

  -- the edges are as many as were counted
  counted : (e : ℕ) → e ≡ cells (λ k y. holds (row T (at order k)).labels y) (length order) 64 → e ≡ length (edges_of T order list m)
  counted e is = is ∙ listed-counted T order list _ ∙ ap length short

-- header, colours, edges and filling of n states with e edges
abbrev all : Profile → Table → List ℕ → List ℕ → List ℕ → ℕ → ℕ → List ℕ → ℕ → ℕ → List ℕ
all p T order list colours m start room n e =
    let header = put_fields room 0 (header_widths p) (header_values n m start e) in
    let coloured = put_fields header (header_bits p) (replicate n p.colour) colours in
    put_field (put_edges p coloured (edges_begin p n) (edges_of T order list m)) (file_bits p n e) (fill_bits p n e) 0

pub put-requires : goal.put-requires
put-requires c =
    let a = c.args in
    let w = (passed c.requires).writable in
    let ok = a.p.usable in
    let F = stored a.rows.now a.order.now a.list.now a.colours.now a.m a.start in
    record {
      fit = rw (count c.requires, ← counted c.requires _ c.edge_count-e.ensures.1) at (header_fit a.p ok F w);
      states = rw (count c.requires) at w.states_low;
      labels = w.labels_low;
    }

pub put_run-requires : goal.put_run-requires
put_run-requires c =
    let a = c.args in
    let p = a.p in
    let ok = p.usable in
    let n = length a.colours.now in
    let high = colours_high p ok n (omega (arith, count c.requires, count≤256 c.requires)) in
    record {
      narrow = ok.colour≤;
      near = omega (arith, c.header_bits.ensures.1, mul_comm n p.colour, high);
      small = colours_fit p ok (stored a.rows.now a.order.now a.list.now a.colours.now a.m a.start) (passed c.requires).writable;
    }

pub put_edges-requires : goal.put_edges-requires
unfolding length_of file_length bytes_for file_bits
put_edges-requires c =
    let can = c.requires.rows in
    let same : length c.put_run.new.s ≡ length c.args.room.now = c.put_run.auto.s ∙ c.put.auto.room in
    record {
      storable = record {
        states = can.states;
        rows = can.rows;
        label = λ k y t h e. omega (arith, can.label k y t h e, (passed c.requires).writable.labels_high);
        in_list = can.in_list;
        target = can.target;
      };
      bit_in_bounds = omega (arith, same, c.edges_begin.ensures.0, rw (count c.requires) at (passed c.requires).roomy);
    }

pub returns : goal.returns
unfolding length_of file_length
returns c =
    let a = c.args in
    let p = a.p in
    let room = a.room.now in
    let T = a.rows.now in
    let F = stored T a.order.now a.list.now a.colours.now a.m a.start in
    let n = length a.order.now in
    let e = c.edge_count-e.result in
    let is = counted c.requires e c.edge_count-e.ensures.1 in
    let bytes : Bytes room = search rules in
    let written : c.fill.new.room ≡ all p T a.order.now a.list.now a.colours.now a.m a.start room n e =
    c.fill.ensures
    ∙ ap (λ (s : List ℕ). put_field s (file_bits p n e) (fill_bits p n e) 0)
    (c.put_edges.ensures
    ∙ rw (
      short c.requires,
      c.edges_begin.ensures.0,
      c.put_run.ensures,
      c.put.ensures,
      c.header_bits.ensures.0,
      count c.requires,
    )) in
    record {
      bytes = written
          ∙ ap₂ (all p T a.order.now a.list.now a.colours.now a.m a.start room) (sym (count c.requires)) is
          ∙ written-laid p p.usable F (passed c.requires).writable room bytes (passed c.requires).roomy;
      length = c.bytes_for.ensures ∙ ap bytes_for (c.file_bits.ensures.0 ∙ ap₂ (file_bits p) (sym (count c.requires)) is);
    }
