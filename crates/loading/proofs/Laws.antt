-- Laws of loading: a table that has the edges passed so far, the table of a file, and colours with zeros behind them.
-- Assumes nothing.
use mathlib.Core.Path.{◌≡◌, refl, sym, ap, ◌∙◌, fun_ext}
use mathlib.Core.Bool.{true}
use mathlib.Core.List.{List, [], ◌∷◌, ◌++◌, map}
use mathlib.Core.Option.{Option, none, some}
use Prim.Native.Nat.{ℕ, ◌+◌, ◌*◌, ◌-◌, ◌≤◌, ◌<◌}
use native.Mathlib.Decide.{dec_lt}
use native.Mathlib.Nat.{lt_of_lt_of_le}
use native.Mathlib.Omega.{arith}
use lib.Dec.{lit≤}
use lib.ListN.{length, get_or, take, drop, replicate, get_or-append, get_or-eq_default}
use lib.Pow.{pow_mono}
use lib.Seq.{length-take-le, get_or-take, get_or-drop, get_or-append-add, ext_get_or}
use Rattle.bits.proofs.Reading.{field_lt}
use Rattle.pen.specs.Runs.{fields}
use Rattle.meaning.specs.Cases.{impossible, cases_of, same²}
use Rattle.meaning.proofs.Demand.{fits}
use Rattle.meaning.specs.Filter.{Edge, ascending, states}
use Rattle.meaning.specs.Search.{at}
use Rattle.meaning.specs.Trace.{target, edge, colour}
use Rattle.meaning.specs.TraceLaws.{stands, target-snoc, target-before, target_fresh}
use Rattle.refusals.specs.declared.Refusal.{Refusal}
use Rattle.refusals.specs.Refusals.{accepted, refusal_outcome}
use Rattle.layout.specs.declared.profile.Profile.{Profile}
use Rattle.layout.specs.declared.Reading.{Reading}
use Rattle.layout.specs.Layout.{pocket, header_bits, edge_bits, edges_begin}
use Rattle.layout.specs.declared.edge.Edge as layout
use Rattle.layout.specs.declared.edge.Placed.{Placed}
use Rattle.layout.specs.Contents.{states_in, labels_in, colours_in, placed_at, placed_from, edge_at, edges_from, filter_in}
use Rattle.layout.specs.Code.{edge_of, bare, Usable}
use Rattle.layout.proofs.Bounds.{states_high, states_fit, pocket_usable}
use Rattle.layout.proofs.EdgeLists.{edges_around, edges_more, bare_read}
use Rattle.std.specs.Prelude.{Some}
use Rattle.layout.specs.declared.edge.Edges.{Edges}
use Rattle.layout.specs.Steps.{Advanced}
use Rattle.edges.specs.Faults.{Fault, first_fault, edges_then}
use Rattle.edges.specs.Walk.{Verdict, fault_of, rank_of, Tested, Walking}
use Rattle.edges.proofs.Tests.{clear_ends, fault_free}
use Rattle.edges.proofs.Walks.{walking-begun, walking_clear, walking_next}
use Rattle.layout.proofs.Walks.{along_more, along_read, along_done}
use Rattle.leaving.specs.Leaving.{leaving_in}
use Rattle.files.specs.Files.{reading_outcome, check_of}
use Rattle.files.specs.Tests.{HeadIs, edges_read, check_faultless}
use Rattle.files.specs.Written.{length_colours, length-filter}
use Rattle.files.proofs.Accepted.{checked_in_order}
use Rattle.checking.specs.Promise.{Checked, checked_outcome}
use Rattle.sets.proofs.FourLaws.{blank}
use Rattle.table.specs.declared.Row.{Row}
use Rattle.table.specs.Table.{Table, look, Rows, with_edge, Put}
use Rattle.table.specs.Table as table
use Rattle.table.proofs.Laws.{look_unlabelled, row_empty, marked_look, length_marked}
use Rattle.loading.specs.Loading.{Loadable, Loaded, Tabled, Coloured}

-- ---- one edge more

-- an edge put into a table, behind those that are there
look_more : (T T' : Table) (es : List Edge) (e : Edge) (rest : List Edge) → Put T T' e.source e.label e.target →
    look T ≡ target es → ascending (es ++ (e ∷ rest)) ≡ true → look T' ≡ target (es ++ (e ∷ []))
unfolding with_edge
look_more T T' es e rest put is order = put.edges ∙ fun_ext λ s. fun_ext λ y. cases_of (stands e s y)
    (λ q. let here = same² e.source s e.label y q in
    rw q (sym (target-snoc es e s y (rw (← here.0, ← here.1) (target_fresh es e rest order)) ∙ rw q)))
    (λ q. rw q (ap (λ (f : ℕ → ℕ → Option ℕ). f s y) is ∙ sym (target-before es e s y q)))

-- a label of at most six bits
label_low : (P : Profile) (s : List ℕ) (at : ℕ) → P.labels ≤ 6 → (edge_at P s at).label < 64
unfolding edge_at placed_at
label_low P s at h = lt_of_lt_of_le (field_lt s (at + P.states) P.labels) (pow_mono {j = 6} h)

-- ---- the edges passed so far

module _ (P : Profile) (file : List ℕ) (at e n m : ℕ) (T₀ : Table) where
  abbrev all : List Placed
  all = placed_from P file at e

  -- A walk has come to an edge, and if no edge has a fault the table has those before it.
  pub record Filling (T : Table) (last : ℕ) (walk : Edges) : Type 0 where
    pub walking : Walking P file at e n m last walk
    pub filled : first_fault n m none all ≡ none → look T ≡ target (edges_from P file at walk.index)
    pub rows : length T ≡ length T₀

  pub filling_begun : ((s y : ℕ) → look T₀ s y ≡ none) → (walk : Edges) →
      (walk.p ≡ P) × (walk.file.now ≡ file) × (walk.place ≡ at) × (walk.index ≡ 0) × (walk.end ≡ e) → Filling T₀ 0 walk
  unfolding edges_from placed_from target
  filling_begun empty walk begin = record {
    walking = walking-begun P file at e n m walk begin;
    filled = λ clear. rw begin.3 (fun_ext λ s. fun_ext λ y. empty s y);
    rows = refl;
  }

  all_ascend : first_fault n m none all ≡ none → ascending (edges_from P file at e) ≡ true
  unfolding edges_from
  all_ascend clear = (fault_free n m none all clear).ascend

  module _ (T : Table) (last : ℕ) (walk : Edges) (f : Filling T last walk) where
    -- an edge was read and tested, and has no fault
    module _ (edge : Placed) (walk' : Edges) (step : Advanced walk.p walk.file.now walk.place walk.index walk.end (Some edge) walk'.p walk'.file.now walk'.place walk'.index walk'.end)
        (v : Verdict) (tested : Tested n m last edge v) (clear : fault_of v ≡ none) (plain : layout.Edge) (is : plain ≡ bare edge) where
      read : edge ≡ placed_at P file walk.place
      read = along_read P file at e walk f.walking.along edge walk' step

      more : walk.index < e
      more = along_more P file at e walk f.walking.along edge walk' step

      here : edge_of plain ≡ edge_at P file walk.place
      here = bare_read P file walk.place edge plain read is

      -- it can be put into the table
      pub filling_room : P.labels ≤ 6 → Rows T₀ n → (plain.label < 64) × Rows T (plain.source + 1)
      filling_room narrow room =
          let w = f.walking.walked in
          let low = (clear_ends n m w.before edge (walking_clear P file at e n m last walk f.walking edge walk' step v tested clear)).0 in
          let source : plain.source ≡ edge.source.value = ap (λ (d : layout.Edge). d.source) is in (
            rw (ap (λ (d : Edge). d.label) here) (label_low P file walk.place narrow),
            record { long = omega (arith, low, source, room.long, f.rows) },
          )

      pub filling_next : (last' : ℕ) → last' ≡ rank_of (some (edge_of plain)) → (T' : Table) → Put T T' plain.source plain.label plain.target → Filling T' last' walk'
      filling_next last' ranked T' put =
          let w = f.walking.walked in
          let es = edges_from P file at walk.index in
          let rest = edges_from P file (at + edge_bits P * walk.index + edge_bits P) (e - (walk.index + 1)) in
          let now-is : edge_at P file (at + edge_bits P * walk.index) ≡ edge_of plain = ap (edge_at P file) (sym w.placed) ∙ sym here in
          let parts : edges_from P file at e ≡ es ++ (edge_of plain ∷ rest) = edges_around P file at e walk.index more ∙ ap (λ (x : Edge). es ++ (x ∷ rest)) now-is in
          record {
            walking = walking_next P file at e n m last walk f.walking edge walk' step v tested clear last' (ranked ∙ ap (λ (d : layout.Edge). rank_of (some (edge_of d))) is);
            filled = λ none-faulty.
                rw step.6
                (look_more T T' es (edge_of plain) rest put (f.filled none-faulty) (ap ascending (sym parts) ∙ all_ascend none-faulty)
                ∙ ap target (sym (edges_more P file at walk.index ∙ ap (λ (x : Edge). es ++ (x ∷ [])) now-is)));
            rows = put.rows ∙ f.rows;
          }

    -- all edges are passed
    pub filling_done : walk.end ≤ walk.index → first_fault n m none all ≡ none → look T ≡ target (edges_from P file at e)
    filling_done done clear =
        f.filled clear ∙ ap (λ (k : ℕ). target (edges_from P file at k)) (along_done P file at e walk f.walking.along done)

-- ---- the table of a file

-- a refused file leaves the table as it may be
pub loaded_refused : (P : Profile) (file : List ℕ) (r : Checked) (why : Refusal) (T T' : Table) → checked_outcome r ≡ refusal_outcome why →
    check_of P file ≡ refusal_outcome why → length T' ≡ length T → Loaded P file r T T'
loaded_refused P file r why T T' is h rows = record {
  answer = is ∙ sym h;
  edges = λ numbers k. let z : refusal_outcome why ≡ accepted numbers = sym h ∙ k in impossible cc;
  rows = rows;
}

-- without a fault of its own in any edge 17 decides, and the table has the edges as they were read
pub loaded_told : (P : Profile) (file : List ℕ) (r : Reading) (a : Checked) (leaving : Option Fault) (T T' : Table) → HeadIs P file r →
    checked_outcome a ≡ edges_then leaving (reading_outcome r) → leaving ≡ leaving_in P file r.states r.edges →
    let at = edges_begin P r.states in
    first_fault r.states r.labels none (placed_from P file at r.edges) ≡ none → look T' ≡ target (edges_from P file at r.edges) → length T' ≡ length T →
    Loaded P file a T T'
unfolding edge filter_in
loaded_told P file r a leaving T T' is told found clear has rows = record {
  answer = told ∙ sym (check_faultless P file r is _ refl clear leaving (sym found));
  edges = λ numbers k. has ∙ ap target (edges_read P file r is _ refl);
  rows = rows;
}

-- a table of k rows without labels serves a file whose states need no more, whatever the targets are
pub serves_unlabelled : (P : Profile) (file : List ℕ) (T : Table) (k : ℕ) → P.labels ≤ 6 → ((s : ℕ) → (table.row T s).labels ≡ 0) → length T ≡ k → states_in P file ≤ k →
    Loadable P file T
unfolding target
serves_unlabelled P file T k narrow bare-rows long h = record {
  labels≤6 = narrow;
  empty = λ s y. ap (λ (f : ℕ → ℕ → Option ℕ). f s y) (look_unlabelled T bare-rows);
  rows = record { long = omega (arith, long, h) };
}

-- a fresh table of k rows does
pub serves : (P : Profile) (file : List ℕ) (T : Table) (k : ℕ) → P.labels ≤ 6 → (T ≡ replicate k table.blank) × (length T ≡ k) → states_in P file ≤ k →
    Loadable P file T
serves P file T k narrow fresh h =
    serves_unlabelled P file T k narrow (λ s. ap (λ (T : Table). (table.row T s).labels) fresh.0 ∙ ap (λ (r : Row). r.labels) (row_empty k s)) fresh.1 h

-- the small table serves every pocket file
pub pocket_serves : (file : List ℕ) (T : Table) → ((s : ℕ) → (table.row T s).labels ≡ 0) → length T ≡ 16 → Loadable pocket file T
pocket_serves file T bare-rows long = serves_unlabelled pocket file T 16 (lit≤ tt) bare-rows long (states_fit pocket pocket_usable file)

-- a table whose targets are marked as missing serves as it did
pub marked_serves : (P : Profile) (file : List ℕ) (T : Table) → Loadable P file T → Loadable P file (map table.marked T)
marked_serves P file T before = record {
  labels≤6 = before.labels≤6;
  empty = marked_look T before.empty;
  rows = record { long = omega (arith, before.rows.long, length_marked T) };
}

-- what is loaded can be looked up
pub tabled : (P : Profile) (file : List ℕ) (r : Checked) (T T' : Table) → Loadable P file T → Loaded P file r T T' → Tabled P file r T'
tabled P file r T T' before after = record {
  labels≤6 = before.labels≤6;
  answer = after.answer;
  edges = after.edges;
  rows = record { long = omega (arith, before.rows.long, after.rows) };
}

-- what the table of an accepted file gives is an edge between states of the file, at a label of the file
pub look-within : (P : Profile) → Usable P → (file vs : List ℕ) (T : Table) → check_of P file ≡ accepted vs → look T ≡ edge (filter_in P file) →
    (a y t : ℕ) → look T a y ≡ some t → (a < states_in P file) × (y < labels_in P file) × (t < states_in P file)
unfolding filter_in
look-within P ok file vs T h is a y t e =
    let F = filter_in P file in
    let few : states F ≤ 256 = rw (length-filter P file) (states_high P ok file) in
    let v = (fits F few (checked_in_order P ok file vs h)).within a y t (sym (ap (λ (f : ℕ → ℕ → Option ℕ). f a y) is) ∙ e) in
    (omega (arith, v.0, length-filter P file), v.1, omega (arith, v.2, length-filter P file))

-- ---- colours

-- zeros behind a list are what reading past its end gives
pub padded : (xs : List ℕ) (n k : ℕ) → at (xs ++ drop n (replicate k 0)) ≡ at xs
padded xs n k = fun_ext λ s. go s (dec_lt s (length xs))
  where
    zeros : (k n s : ℕ) → ◌≡◌ {A = ℕ} (get_or (drop n (replicate k 0)) s 0) 0
    zeros k n s = get_or-drop n (replicate k 0) s 0 ∙ blank k (n + s)

    go : (s : ℕ) → Dec (s < length xs) → get_or (xs ++ drop n (replicate k 0)) s 0 ≡ get_or xs s 0
    go s (yes l) = get_or-append xs (drop n (replicate k 0)) 0 s l
    go s (no l) =
        let e : length xs + (s - length xs) ≡ s = omega arith in
        ap (λ (j : ℕ). get_or (xs ++ drop n (replicate k 0)) j 0) (sym e) ∙ get_or-append-add xs (drop n (replicate k 0)) (s - length xs) 0 ∙ zeros k n (s - length xs)
        ∙ sym (get_or-eq_default xs 0 {n = s} (omega arith))

-- colours that are read into zeros
pub colours_read : (P : Profile) (file zeros hues : List ℕ) (from n k : ℕ) → from ≡ header_bits P → n ≡ states_in P file → zeros ≡ replicate k 0 →
    hues ≡ fields file from (replicate n P.colour) ++ drop n zeros → at hues ≡ colour (filter_in P file)
unfolding colour filter_in colours_in
colours_read P file zeros hues from n k e f g h = rw (h, e, f, g) (padded (colours_in P file) (states_in P file) k)

-- the first of the bytes that hold the colours
pub colours_taken : (P : Profile) (file : List ℕ) → Usable P → (hues : List ℕ) (n : ℕ) → n ≡ states_in P file → Coloured P file hues → take n hues ≡ colours_in P file
unfolding filter_in colour
colours_taken P file ok hues n is c =
    let long : length (take n hues) ≡ n = length-take-le n hues (omega (arith, c.long, is, states_high P ok file)) in
    ext_get_or 0 (take n hues) (colours_in P file) (long ∙ is ∙ sym (length_colours P file))
    (λ i l. get_or-take n hues i 0 (omega (arith, long)) ∙ ap (λ (f : ℕ → ℕ). f i) c.colours)
