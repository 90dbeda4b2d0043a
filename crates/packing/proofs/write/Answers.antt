-- `packing::write` meets its contract: header, colours, edges and filling are the fields of the file, one after another. Assumes nothing.
use mathlib.Core.Path.{◌≡◌, ap, ap₂, ◌∙◌}
use mathlib.Core.List.{List}
use Prim.Native.Nat.{ℕ, ◌/◌}
use native.Mathlib.Nat.{mul_comm}
use native.Mathlib.Omega.{arith}
use borrow.Author.Rules.{rules}
use lib.ListN.{length, replicate}
use Rattle.bits.specs.Bits.{Bytes, put_field}
use Rattle.pen.specs.Runs.{put_fields}
use Rattle.layout.specs.Layout.{file_bits, bytes_for, file_length, fill_bits, edge_widths, length_of, from_lists}
use Rattle.layout.proofs.Bounds.{colours_high}
use Rattle.files.specs.Written.{header_fit, colours_fit, edges_fit, states≤256, count≤65536, written-laid}
use Rattle.packing.proofs.Calls.{pack_passed, count-listed, flat-listed}
use Rattle.packing.proofs.write.Goals as goal

pub put-requires : goal.put-requires
put-requires c =
    let w = (pack_passed c.args.p c.args.p.usable c.args.colours.now c.args.edges.now c.args.m c.args.start (length c.args.room.now) _ c.requires).writable in
    record { fit = rw (count-listed c.args.p c.args.p.usable c.args.colours.now c.args.edges.now c.args.m c.args.start (length c.args.room.now) _ c.requires) at (header_fit c.args.p c.args.p.usable (from_lists c.args.colours.now c.args.edges.now c.args.m c.args.start) w); states = w.states_low; labels = w.labels_low }

pub put_run-requires : goal.put_run-requires
put_run-requires c =
    let p = c.args.p in
    let ok = c.args.p.usable in
    let w = (pack_passed c.args.p c.args.p.usable c.args.colours.now c.args.edges.now c.args.m c.args.start (length c.args.room.now) _ c.requires).writable in
    let n = length c.args.colours.now in
    record {
      narrow = ok.colour≤;
      near = omega (arith, c.header_bits.ensures.1, mul_comm n p.colour, colours_high p ok n (states≤256 p ok (from_lists c.args.colours.now c.args.edges.now c.args.m c.args.start) w));
      small = colours_fit p ok (from_lists c.args.colours.now c.args.edges.now c.args.m c.args.start) w;
    }

pub edges_begin-requires : goal.edges_begin-requires
edges_begin-requires c =
    states≤256 c.args.p c.args.p.usable (from_lists c.args.colours.now c.args.edges.now c.args.m c.args.start) (pack_passed c.args.p c.args.p.usable c.args.colours.now c.args.edges.now c.args.m c.args.start (length c.args.room.now) _ c.requires).writable

pub put_edges-requires : goal.put_edges-requires
unfolding length_of file_length bytes_for file_bits
put_edges-requires c =
    let p = c.args.p in
    let w = (pack_passed c.args.p c.args.p.usable c.args.colours.now c.args.edges.now c.args.m c.args.start (length c.args.room.now) _ c.requires).writable in
    let same : length c.put_run.new.s ≡ length c.args.room.now = c.put_run.auto.s ∙ c.put.auto.room in
    record {
      begin = c.edges_begin.ensures.1;
      few = rw (← count-listed c.args.p c.args.p.usable c.args.colours.now c.args.edges.now c.args.m c.args.start (length c.args.room.now) _ c.requires) (count≤65536 p c.args.p.usable (from_lists c.args.colours.now c.args.edges.now c.args.m c.args.start) w);
      fit = rw (count-listed c.args.p c.args.p.usable c.args.colours.now c.args.edges.now c.args.m c.args.start (length c.args.room.now) _ c.requires, flat-listed c.args.p c.args.p.usable c.args.colours.now c.args.edges.now c.args.m c.args.start (length c.args.room.now) _ c.requires) at (edges_fit p c.args.p.usable (from_lists c.args.colours.now c.args.edges.now c.args.m c.args.start) w);
      reaches = omega (arith, same, c.edges_begin.ensures.0, (pack_passed c.args.p c.args.p.usable c.args.colours.now c.args.edges.now c.args.m c.args.start (length c.args.room.now) _ c.requires).roomy);
    }

pub fill-requires : goal.fill-requires
fill-requires c =
    let w = (pack_passed c.args.p c.args.p.usable c.args.colours.now c.args.edges.now c.args.m c.args.start (length c.args.room.now) _ c.requires).writable in
    (states≤256 c.args.p c.args.p.usable (from_lists c.args.colours.now c.args.edges.now c.args.m c.args.start) w, rw (← count-listed c.args.p c.args.p.usable c.args.colours.now c.args.edges.now c.args.m c.args.start (length c.args.room.now) _ c.requires) (count≤65536 c.args.p c.args.p.usable (from_lists c.args.colours.now c.args.edges.now c.args.m c.args.start) w))

pub returns : goal.returns
returns c =
    let p = c.args.p in
    let colours = c.args.colours.now in
    let edges = c.args.edges.now in
    let room = c.args.room.now in
    let n = length colours in
    let e = length edges / 3 in
    let bytes : Bytes room = search rules in
    c.fill.ensures
    ∙ ap (λ (s : List ℕ). put_field s (file_bits p n e) (fill_bits p n e) 0)
    (c.put_edges.ensures
    ∙ ap₂ (λ (s : List ℕ) (at : ℕ). put_fields s at (edge_widths p e) edges)
    (c.put_run.ensures ∙ ap₂ (λ (s : List ℕ) (at : ℕ). put_fields s at (replicate n p.colour) colours) c.put.ensures c.header_bits.ensures.0)
    c.edges_begin.ensures.0)
    ∙ (rw (count-listed c.args.p c.args.p.usable c.args.colours.now c.args.edges.now c.args.m c.args.start (length c.args.room.now) _ c.requires, flat-listed c.args.p c.args.p.usable c.args.colours.now c.args.edges.now c.args.m c.args.start (length c.args.room.now) _ c.requires) at (written-laid p c.args.p.usable (from_lists c.args.colours.now c.args.edges.now c.args.m c.args.start) (pack_passed c.args.p c.args.p.usable c.args.colours.now c.args.edges.now c.args.m c.args.start (length c.args.room.now) _ c.requires).writable room bytes (pack_passed c.args.p c.args.p.usable c.args.colours.now c.args.edges.now c.args.m c.args.start (length c.args.room.now) _ c.requires).roomy))
