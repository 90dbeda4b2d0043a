-- What from_dot and to_dot answer in each of their cases.
-- Assumes nothing.
use mathlib.Core.Path.{◌≡◌, sym, ap, ◌∙◌}
use mathlib.Core.Bool.{true, false}
use mathlib.Core.List.{List, [], ◌∷◌, ◌++◌}
use mathlib.Core.Option.{none}
use Prim.Native.Nat.{ℕ, ◌*◌, ◌≤◌, ◌<◌}
use native.Mathlib.Nat.{zero-add}
use lib.ListN.{length, drop}
use borrow.Author.Tests.{eq-eqb, ne_eqb, lt-ltb, le-ltb, lt-leb}
use Rattle.refusals.specs.declared.Kind.TheVariants.{Drawing, AnswerRoom}
use Rattle.refusals.specs.declared.Refusal.{Refusal}
use Rattle.refusals.specs.Refusals.{accepted, refused, refusal_outcome, first_of, room_test, laid}
use Rattle.refusals.proofs.Laws.{promise_refused, promise_accepted}
use Rattle.layout.specs.declared.profile.Profile.{Profile}
use Rattle.layout.specs.declared.Reading.{Reading}
use Rattle.layout.specs.Layout.{fault_colour, file_length, length_of}
use Rattle.layout.specs.Contents.{start_in, labels_in, edges_in, filter_in}
use Rattle.edges.specs.Faults.{listed_from, or_else, first_fault, first_leaving, edges_then}
use Rattle.edges.proofs.Leaving.{then_then}
use Rattle.files.specs.Files.{holdable, write_tests, write_of}
use Rattle.files.specs.Tests.{ReadIs, held, Written, write_written}
use Rattle.checking.specs.Promise.{Checked}
use Rattle.std.specs.Prelude.{Ok, Err}
use Rattle.checking.specs.Promise.{CheckPromise}
use Rattle.text.specs.Decimal.{wrote}
use Rattle.drawing.specs.Profile.{labels_of}
use Rattle.drawing.specs.Reader.{outside, colours_of, edges_of, read_of}
use Rattle.surveying.specs.declared.Survey.{Survey}
use Rattle.surveying.specs.Surveys.{Known}
use Rattle.plotting.specs.Plot.{text_of}
use Rattle.inking.specs.Inking.{filter_read}
use Rattle.dot.proofs.Texts.{states_are, labels_are, edges_are}
use Rattle.dot.specs.Promise.{Made}
use Rattle.dot.specs.Promise.{from_dot_of, FromDotPromise, drawable, to_dot_of, ToDotPromise}

-- ---- from_dot

module _ (P : Profile) (text : List ℕ) (s : Survey) (k : Known text s) where
  -- a text of the profile is answered as its filter is
  pub inside_is : (room : ℕ) → from_dot_of P text room ≡ write_of P (filter_read (read_of text)) true room
  unfolding from_dot_of
  inside_is room = rw k.read

  pub passed : (room : ℕ) (vs : List ℕ) → from_dot_of P text room ≡ accepted vs → Written P (filter_read (read_of text)) true room vs
  passed room vs h = write_written P (filter_read (read_of text)) true room vs (sym (inside_is room) ∙ h)

  -- what is decided test by test
  pub not_held : (room : ℕ) → holdable P (colours_of (read_of text)) s.labels ≡ false → from_dot_of P text room ≡ refused 14 0
  unfolding write_of write_tests
  not_held room h = inside_is room ∙ rw (← labels_are text s k, h)

  pub too_many : (room : ℕ) → holdable P (colours_of (read_of text)) s.labels ≡ true → s.states * s.labels < s.edges → from_dot_of P text room ≡ refused 3 0
  unfolding write_of write_tests
  too_many room h l =
      let low = (held P (colours_of (read_of text)) s.labels h).states_low in
      inside_is room
      ∙ rw (
        ← labels_are text s k,
        h,
        lt-leb (length (colours_of (read_of text))) 0 low,
        ← states_are text s k,
        ← edges_are text s k,
        lt-ltb (s.states * s.labels) s.edges l,
      )

  pub onto_edges : (room : ℕ) → holdable P (colours_of (read_of text)) s.labels ≡ true → s.edges ≤ s.states * s.labels →
      let edges = listed_from 0 (edges_of (read_of text)) in
      from_dot_of P text room
      ≡ edges_then (or_else (first_fault s.states s.labels none edges) (first_leaving (fault_colour P) (colours_of (read_of text)) edges))
      (first_of (room_test (file_length P s.states s.edges) room) (accepted (file_length P s.states s.edges ∷ [])))
  unfolding write_of write_tests length_of
  onto_edges room h l =
      let low = (held P (colours_of (read_of text)) s.labels h).states_low in
      let edges = listed_from 0 (edges_of (read_of text)) in
      inside_is room
      ∙ rw (
        ← labels_are text s k,
        h,
        lt-leb (length (colours_of (read_of text))) 0 low,
        ← states_are text s k,
        ← edges_are text s k,
        le-ltb (s.states * s.labels) s.edges l,
      ) (then_then (first_fault s.states s.labels none edges) (first_leaving (fault_colour P) (colours_of (read_of text)) edges) _)

-- text outside the profile
pub outside_refused : (P : Profile) (text room : List ℕ) (place : ℕ) (why : Refusal) → refusal_outcome why ≡ refused 15 place → read_of text ≡ outside place →
    FromDotPromise P text room (Err why) room
unfolding from_dot_of
outside_refused P text room place why h e = promise_refused (from_dot_of P text (length room)) why _ (rw e (sym h))

-- ---- to_dot

-- a file that is refused ends the call with that same refusal
pub draw_refused : (P : Profile) (file room : List ℕ) (answer : Checked) (why : Refusal) → CheckPromise P file answer → answer ≡ Err why →
    ToDotPromise P file room (Err why) room
unfolding to_dot_of
draw_refused P file room answer why h e = promise_refused (to_dot_of P file (length room)) why _ (rw (← h, e))

module _ (P : Profile) (file : List ℕ) (r : Reading) (a : ReadIs P file r) (room : List ℕ) where
  -- a filter that can't be written
  start_other : (r.start ≡ 0 → ⊥) → drawable (filter_in P file) ≡ false
  unfolding drawable filter_in
  start_other d = rw (ne_eqb (start_in P file) 0 (λ q. d (a.start_is ∙ q)))

  labels_other : r.start ≡ 0 → (r.labels ≡ labels_of (edges_in P file) → ⊥) → drawable (filter_in P file) ≡ false
  unfolding drawable filter_in
  labels_other z d = rw (eq-eqb (start_in P file) 0 (sym a.start_is ∙ z), ne_eqb (labels_in P file) (labels_of (edges_in P file)) (λ q. d (a.labels_are ∙ q)))

  pub can_draw : r.start ≡ 0 → r.labels ≡ labels_of (edges_in P file) → drawable (filter_in P file) ≡ true
  unfolding drawable filter_in
  can_draw z e =
      rw (eq-eqb (start_in P file) 0 (sym a.start_is ∙ z), eq-eqb (labels_in P file) (labels_of (edges_in P file)) (sym a.labels_are ∙ e))

  undrawable : (answer : Made) → answer ≡ Err (record { kind = Drawing; place = 0 }) → drawable (filter_in P file) ≡ false → ToDotPromise P file room answer room
  unfolding to_dot_of
  undrawable answer e d = rw e (promise_refused (to_dot_of P file (length room)) (record { kind = Drawing; place = 0 }) _ (rw (a.answer, d)))

  pub other_start : (answer : Made) → answer ≡ Err (record { kind = Drawing; place = 0 }) → (r.start ≡ 0 → ⊥) → ToDotPromise P file room answer room
  other_start answer e d = undrawable answer e (start_other d)

  pub other_labels : (answer : Made) → answer ≡ Err (record { kind = Drawing; place = 0 }) → r.start ≡ 0 → (r.labels ≡ labels_of (edges_in P file) → ⊥) →
      ToDotPromise P file room answer room
  other_labels answer e z d = undrawable answer e (labels_other z d)

  pub short_room : (answer : Made) → answer ≡ Err (record { kind = AnswerRoom; place = 0 }) → drawable (filter_in P file) ≡ true →
      length room < length (text_of P file) → ToDotPromise P file room answer room
  unfolding to_dot_of
  short_room answer e d l =
      rw e (promise_refused (to_dot_of P file (length room)) (record { kind = AnswerRoom; place = 0 }) _ (rw (a.answer, d, lt-ltb (length room) (length (text_of P file)) l)))

  -- else the text is written
  pub drawn-laid : (n : ℕ) (left : List ℕ) → n ≡ length (text_of P file) → left ≡ wrote room 0 (text_of P file) → drawable (filter_in P file) ≡ true →
      length (text_of P file) ≤ length room → ToDotPromise P file room (Ok n) left
  unfolding to_dot_of
  drawn-laid n left e w d l =
      let is : left ≡ laid (text_of P file) room = w ∙ ap (λ (k : ℕ). text_of P file ++ drop k room) (zero-add (length (text_of P file))) in
      rw (e, is) (promise_accepted (to_dot_of P file (length room)) (length (text_of P file) ∷ []) _ (rw (a.answer, d, le-ltb (length room) (length (text_of P file)) l)))
