-- Drawing and reading undo each other (document 02, wish 1): a file that to_dot accepts is read back from its drawing to the same
-- bytes, and a text that from_dot accepts is drawn again as the same text.
-- Assumes nothing.
use Prim.Native.Nat.{ℕ, zero, suc, ◌+◌, ◌*◌, ◌^◌, ◌≤◌, ◌<◌}
use Rattle.std.specs.Prelude.{◌≡◌, true, List, [], ◌∷◌, get_or}
use Rattle.std.proofs.Math.Path.{refl, sym, ap}
use Rattle.std.proofs.Common.{◌∙◌, arith, pow_mono}
use Rattle.std.proofs.Math.ListN.{length}
use borrow.Author.Tests.{lt-ltb, le-ltb, eq-eqb, not-false}
use Rattle.bits.specs.Bits.{field, Bytes}
use Rattle.bits.proofs.Reading.{field_lt}
use Rattle.pen.proofs.Runs.{run_at}
use Rattle.meaning.specs.Cases.{impossible, same²}
use Rattle.meaning.specs.Filter.{Edge, Filter, each}
use Rattle.refusals.specs.Refusals.{accepted, first_of}
use Rattle.refusals.proofs.Laws.{first_accepted, onward_accepted}
use Rattle.layout.specs.declared.profile.Profile.{Profile}
use Rattle.layout.specs.Code.{Usable}
use Rattle.layout.specs.Layout.{header_bits, edge_bits, edges_begin, length_of, written}
use Rattle.layout.specs.Contents.{states_in, labels_in, start_in, count_in, colours_in, placed_at, placed_from, placed_in, edges_from, edges_in, filter_in}
use Rattle.layout.proofs.Bounds.{states_high}
use Rattle.files.specs.Files.{check_of, numbers_in, all_below}
use Rattle.files.specs.Tests.{Sound, check_sound, sound_check, write_written, writable_write}
use Rattle.files.specs.Written.{at_below, Holds, length-written, written-holds, written_sound, length_colours, read_writable, read_back}
use Rattle.drawing.specs.Profile.{drawn, short_edge, InProfile, labels_of, filter_of}
use Rattle.drawing.specs.Reader.{Read, drawing, outside, read_of}
use Rattle.drawing.specs.Exact.{read_sound, read_drawn}
use Rattle.plotting.specs.Plot.{text_of}
use Rattle.dot.specs.Promise.{file_outcome, from_dot_of, file_of, drawable, draw_tests, to_dot_of}

-- ---- a drawing is a text of the profile

byte_short : (s : List ℕ) (at w : ℕ) → w ≤ 8 → field s at w < 1000
byte_short s at w h = let p : 2 ^ w ≤ 256 = pow_mono {j = 8} h in omega (arith, field_lt s at w)

module _ (P : Profile) (usable : Usable P) where
  edges_short : (s : List ℕ) (at e : ℕ) → each short_edge (edges_from P s at e) ≡ true
  unfolding each edges_from placed_from placed_at
  edges_short s at zero = refl
  edges_short s at (suc e) =
      rw (
        lt-ltb _ _ (byte_short s at P.states usable.states≤),
        lt-ltb _ _ (byte_short s (at + P.states) P.labels usable.labels≤),
        lt-ltb _ _ (byte_short s (at + P.states + P.labels) P.states usable.states≤),
      )
      (edges_short s (at + edge_bits P) e)

  file_edges_short : (file : List ℕ) → each short_edge (edges_in P file) ≡ true
  unfolding edges_in placed_in edges_from
  file_edges_short file = edges_short file (edges_begin P (states_in P file)) (count_in P file)

  colour-short : (file : List ℕ) (i : ℕ) → i < length (colours_in P file) → get_or (colours_in P file) i 0 < 1000
  unfolding colours_in
  colour-short file i l =
      rw (run_at file (header_bits P) P.colour (states_in P file) i (omega (arith, length_colours P file)))
      (byte_short file (header_bits P + i * P.colour) P.colour usable.colour≤)

  colours_short : (file : List ℕ) → all_below 1000 (colours_in P file) ≡ true
  colours_short file = at_below 1000 (colours_in P file) (colour-short file)

  states_few : (file : List ℕ) → length (colours_in P file) ≤ 1000
  states_few file = omega (arith, length_colours P file, states_high P usable file)

  -- whatever the bytes of a file are, its drawing is a text of the profile
  pub in_profile : (file : List ℕ) → InProfile (text_of P file)
  unfolding text_of
  in_profile file = record {
    colours = colours_in P file;
    edges = edges_in P file;
    few = states_few file;
    short_colours = colours_short file;
    short_edges = file_edges_short file;
    is_drawn = refl;
  }

  -- and reading it gives the colours and the edges that are in the file
  pub drawing_read : (file : List ℕ) → read_of (text_of P file) ≡ drawing (colours_in P file) (edges_in P file)
  unfolding text_of
  drawing_read file = read_drawn (colours_in P file) (edges_in P file) (states_few file) (colours_short file) (file_edges_short file)

-- ---- a filter that can be drawn

-- The file is sound, its filter is the one that its colours and edges alone tell, and the answer is the drawing's length.
record Drawn (P : Profile) (file : List ℕ) (vs : List ℕ) : Type 0 where
  sound : Sound P file
  filter_is : filter_of (colours_in P file) (edges_in P file) ≡ filter_in P file
  are : vs ≡ length (text_of P file) ∷ []

drawable_is : (P : Profile) (file : List ℕ) → drawable (filter_in P file) ≡ true → filter_of (colours_in P file) (edges_in P file) ≡ filter_in P file
unfolding drawable filter_in
drawable_is P file h = let q = same² (start_in P file) 0 (labels_in P file) (labels_of (edges_in P file)) h in rw (q.0, q.1)

to_dot_drawn : (P : Profile) (file : List ℕ) (room : ℕ) (vs : List ℕ) → to_dot_of P file room ≡ accepted vs → Drawn P file vs
unfolding to_dot_of
to_dot_drawn P file room vs h =
    let o = onward_accepted (check_of P file) (first_of (draw_tests P file room) (accepted (length (text_of P file) ∷ []))) vs h in
    let p = first_accepted (draw_tests P file room) (accepted (length (text_of P file) ∷ [])) vs o.2 in
    record {
      sound = (check_sound P file o.0 o.1).0;
      filter_is = drawable_is P file (not-false (drawable (filter_in P file)) p.0.0);
      are = sym (cc p.1);
    }

drawn_to_dot : (P : Profile) (file : List ℕ) (room : ℕ) → Sound P file → drawable (filter_in P file) ≡ true → length (text_of P file) ≤ room →
    to_dot_of P file room ≡ accepted (length (text_of P file) ∷ [])
unfolding to_dot_of
drawn_to_dot P file room s d l = rw (sound_check P file s, d, le-ltb _ _ l)

-- ---- from a file to a text and back

module _ (P : Profile) (usable : Usable P) (file : List ℕ) (bytes : Bytes file) (room : ℕ) (vs : List ℕ) (accepts : to_dot_of P file room ≡ accepted vs) where
  -- where to_dot accepts a file, it answers its drawing's length; the drawing is read back to the same bytes; and from_dot
  -- accepts it wherever its room holds the file
  pub redrawn_file :
      (vs ≡ length (text_of P file) ∷ [])
      × (file_of P (read_of (text_of P file)) ≡ file)
      × ((room' : ℕ) → length file ≤ room' → from_dot_of P (text_of P file) room' ≡ accepted (length file ∷ []))
  unfolding from_dot_of
  redrawn_file =
      let d = to_dot_drawn P file room vs accepts in
      let read = drawing_read P usable file in
      let w = read_writable P usable file d.sound in
      let back : written P (filter_in P file) ≡ file = read_back P usable file d.sound bytes in
      let long : length_of P (filter_in P file) ≡ length file = sym (length-written P usable (filter_in P file) w) ∙ ap length back in (
        d.are,
        ap (file_of P) read ∙ ap (written P) d.filter_is ∙ back,
        λ room' l. rw (read, d.filter_is, writable_write P (filter_in P file) room' w (omega arith), long),
      )

  -- so the filter that is read back is the one that was drawn: its states, colours, edges, start and m
  pub drawn-filter : filter_in P (file_of P (read_of (text_of P file))) ≡ filter_in P file
  drawn-filter = ap (filter_in P) redrawn_file.1

-- ---- from a text to a file and back

-- What is said of a text that from_dot accepts, and of the file that it writes.
abbrev pub RedrawnText : Profile → List ℕ → List ℕ → List ℕ → Type 0
RedrawnText P text file vs =
    (vs ≡ length file ∷ [])
    × (text_of P file ≡ text)
    × (check_of P file ≡ accepted (numbers_in P file))
    × ((room' : ℕ) → length text ≤ room' → to_dot_of P file room' ≡ accepted (length text ∷ []))

module _ (P : Profile) (usable : Usable P) (text : List ℕ) (room : ℕ) (vs : List ℕ) where
  text_of_lem : (colours : List ℕ) (edges : List Edge) → Holds P (written P (filter_of colours edges)) (filter_of colours edges) →
      text ≡ drawn colours edges → text_of P (written P (filter_of colours edges)) ≡ text
  unfolding text_of
  text_of_lem colours edges k is = rw (k.colours_are, k.edges_are) (sym is)

  drawable_of : (F : Filter) → F.start ≡ 0 → F.labels ≡ labels_of F.edges → Holds P (written P F) F → drawable (filter_in P (written P F)) ≡ true
  unfolding drawable filter_in
  drawable_of F s m k = rw (k.start_is, k.labels_are, k.edges_are, eq-eqb F.start 0 s) (eq-eqb F.labels (labels_of F.edges) m)

  read_again : (r : Read) → read_of text ≡ r → file_outcome P r room ≡ accepted vs → RedrawnText P text (file_of P r) vs
  read_again (outside place) e h = impossible cc
  read_again (drawing colours edges) e h =
      let F = filter_of colours edges in
      let w = write_written P F true room vs h in
      let k = written-holds P usable F w.writable in
      let sound = written_sound P usable F w.writable in
      let is = text_of_lem colours edges k (read_sound text colours edges e).3 in (
        sym w.are ∙ ap (λ (n : ℕ). n ∷ []) (sym (length-written P usable F w.writable)),
        is,
        sound_check P (written P F) sound,
        λ room' l. drawn_to_dot P (written P F) room' sound (drawable_of F refl refl k) (rw is l) ∙ rw is,
      )

  -- where from_dot accepts a text, it answers its file's length; the file is drawn as the same text; check accepts it; and to_dot
  -- accepts it wherever its room holds the text
  pub redrawn_text : from_dot_of P text room ≡ accepted vs → RedrawnText P text (file_of P (read_of text)) vs
  unfolding from_dot_of
  redrawn_text h = read_again (read_of text) refl h
