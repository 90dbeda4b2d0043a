-- `inking::write` meets its contract: header, colours, edges and filling are the fields of the file, one after another. Assumes nothing.
use mathlib.Core.Path.{◌≡◌, ap₂, ◌∙◌}
use mathlib.Core.List.{List, [], ◌∷◌, ◌++◌}
use Prim.Native.Nat.{ℕ, ◌+◌}
use native.Mathlib.Omega.{arith}
use borrow.Author.Rules.{rules}
use lib.ListN.{length, replicate}
use Rattle.bits.specs.Bits.{Bytes}
use Rattle.pen.specs.Runs.{total, put_fields}
use Rattle.layout.proofs.Bounds.{header_high}
use Rattle.layout.specs.declared.profile.Profile.{Profile}
use Rattle.layout.specs.Layout.{header_widths, header_bits, edges_begin, file_bits, bytes_for, file_length, fill_bits, edge_widths, length_of, flat}
use Rattle.files.specs.Written.{header_fit, written-laid}
use Rattle.drawing.specs.Reader.{read_of}
use Rattle.inking.specs.Inking.{filter_read}
use Rattle.inking.proofs.Laws as laws
use Rattle.inking.proofs.write.Goals as goal

pub begin-pen-requires : goal.begin-pen-requires
begin-pen-requires c =
    let w = c.requires.writable in
    record {
      fit = rw (laws.states_are c.args.text.now c.args.s c.requires.known, laws.edges_are c.args.text.now c.args.s c.requires.known, laws.labels_are c.args.text.now c.args.s c.requires.known) (header_fit c.args.p c.args.p.usable (filter_read (read_of c.args.text.now)) w);
      states = rw (laws.states_are c.args.text.now c.args.s c.requires.known) w.states_low;
      labels = rw (laws.labels_are c.args.text.now c.args.s c.requires.known) w.labels_low;
    }

-- where the colours begin
place_is : (p : Profile) (place : ℕ) → place ≡ 0 + total (header_widths p) → place ≡ header_bits p
unfolding total header_bits
place_is p place h = omega (arith, h)

pub put_colours-requires : goal.put_colours-requires
put_colours-requires c =
    record {
      known = c.requires.known;
      writable = c.requires.writable;
      ready = c.begin-pen.ensures.ready;
      begin = omega (arith, place_is c.args.p _ c.begin-pen.ensures.place, header_high c.args.p c.args.p.usable);
    }

pub put_edges-requires : goal.put_edges-requires
unfolding length_of file_length bytes_for file_bits
put_edges-requires c =
    let same : length c.put_colours.new.room ≡ length c.args.room.now = c.put_colours.auto.room ∙ c.begin-pen.auto.room in
    let begins : c.edges_begin.result ≡ edges_begin c.args.p (length (filter_read (read_of c.args.text.now)).colours) = rw (← (laws.states_are c.args.text.now c.args.s c.requires.known)) c.edges_begin.ensures.0 in
    record {
      known = c.requires.known;
      writable = c.requires.writable;
      begin = c.edges_begin.ensures.1;
      reaches = omega (arith, same, begins, c.requires.roomy);
    }

pub returns : goal.returns
returns c =
    let p = c.args.p in
    let s = c.args.s in
    let room = c.args.room.now in
    let bytes : Bytes room = λ i. search rules in
    c.put_edges.ensures
    ∙ ap₂ (λ (r : List ℕ) (k : ℕ). put_fields r k (edge_widths p s.edges ++ (fill_bits p s.states s.edges ∷ [])) (flat (filter_read (read_of c.args.text.now)).edges ++ (0 ∷ [])))
    (c.put_colours.ensures
    ∙ ap₂ (λ (r : List ℕ) (k : ℕ). put_fields r k (replicate s.states p.colour) (filter_read (read_of c.args.text.now)).colours) c.begin-pen.ensures.ink (place_is p _ c.begin-pen.ensures.place))
    c.edges_begin.ensures.0
    ∙ rw (laws.states_are c.args.text.now c.args.s c.requires.known, laws.edges_are c.args.text.now c.args.s c.requires.known, laws.labels_are c.args.text.now c.args.s c.requires.known)
    (laws.edges_filled p _ (length (filter_read (read_of c.args.text.now)).colours) (filter_read (read_of c.args.text.now)).edges ∙ written-laid p p.usable (filter_read (read_of c.args.text.now)) c.requires.writable room bytes c.requires.roomy)
