-- What a conversion answers in each of its cases, from what check answered, and that the other file can be written.
-- Assumes nothing.
use mathlib.Core.Path.{◌≡◌, sym, ap, ◌∙◌}
use mathlib.Core.Bool.{true, false}
use mathlib.Core.List.{List, [], ◌∷◌, ◌++◌}
use Prim.Native.Nat.{ℕ, ◌*◌, ◌≤◌, ◌<◌}
use native.Mathlib.Omega.{arith}
use lib.ListN.{length, take, drop}
use borrow.Author.Tests.{lt-ltb, le-ltb}
use Rattle.meaning.specs.Filter.{Filter, states}
use Rattle.refusals.specs.declared.Kind.TheVariants.{AnswerRoom, Pocket}
use Rattle.refusals.specs.declared.Refusal.{Refusal}
use Rattle.refusals.specs.Refusals.{accepted, refusal_outcome, first_of, room_test, laid}
use Rattle.refusals.proofs.Laws.{promise_refused, promise_accepted, laid_front}
use Rattle.layout.specs.declared.profile.Profile.{Profile}
use Rattle.layout.specs.declared.Reading.{Reading}
use Rattle.layout.specs.Layout.{edges_begin, file_bits, bytes_for, file_length, flat, from_lists, length_of}
use Rattle.layout.specs.Contents.{colours_in, edges_from, edges_in, filter_in}
use Rattle.files.specs.Files.{holdable, check_of}
use Rattle.files.specs.Tests.{ReadIs, Writable, held_writable}
use Rattle.files.specs.Written.{length-filter, length-filter_edges, length-flat_edges, read_writable, lists_filter}
use Rattle.std.specs.Prelude.{Ok, Err}
use Rattle.packing.specs.Promise.{pack_of}
use Rattle.packing.proofs.Calls.{pack_accepts}
use Rattle.unpacking.proofs.Calls.{edges_laid}
use Rattle.converting.specs.Promise.{convert_of, converted, ConvertPromise}
use Rattle.converting.specs.Code.{Convertible}
pub use Rattle.converting.specs.Code.{to_large, to_pocket}

-- ---- refusals

-- a refused file ends the call with that same refusal
pub convert_refused : (From To : Profile) (file room : List ℕ) (why : Refusal) → check_of From file ≡ refusal_outcome why → ConvertPromise From To file room (Err why) room
unfolding convert_of
convert_refused From To file room why h = promise_refused _ why _ (rw h)

module _ (From To : Profile) (file : List ℕ) (r : Reading) (is : ReadIs From file r) where
  abbrev F : Filter
  F = filter_in From file

  pub not_held : (room : List ℕ) → holdable To F.colours F.labels ≡ false → ConvertPromise From To file room (Err (record { kind = Pocket; place = 0 })) room
  unfolding convert_of
  not_held room h = promise_refused _ (record { kind = Pocket; place = 0 }) _ (rw (is.answer, h))

  -- what is left to test where the other file can hold the filter
  pub convert_held : (room : ℕ) → holdable To F.colours F.labels ≡ true → convert_of From To file room ≡ first_of (room_test (length_of To F) room) (accepted (length_of To F ∷ []))
  unfolding convert_of
  convert_held room h = rw (is.answer, h)

  -- the code's test of what the other file can hold, and its length
  pub held_is : (colours : List ℕ) → colours ≡ colours_in From file → holdable To colours r.labels ≡ holdable To F.colours F.labels
  unfolding filter_in
  held_is colours cs = rw (cs, is.labels_are)

  pub length_is : (bits bytes : ℕ) → bits ≡ file_bits To r.states r.edges → bytes ≡ bytes_for bits → bytes ≡ length_of To F
  unfolding length_of file_length
  length_is bits bytes b l = l ∙ rw (b, length-filter From file, length-filter_edges From file, is.states_are, is.count_is)

  pub convert_short : (room : List ℕ) (n : ℕ) → n ≡ length_of To F → holdable To F.colours F.labels ≡ true → length room < n →
      ConvertPromise From To file room (Err (record { kind = AnswerRoom; place = 0 })) room
  convert_short room n long h l =
      promise_refused _ (record { kind = AnswerRoom; place = 0 }) _ (convert_held (length room) h ∙ rw (lt-ltb (length room) (length_of To F) (omega (arith, long))))

  pub convert_laid : (room : List ℕ) (n : ℕ) → n ≡ length_of To F → holdable To F.colours F.labels ≡ true → n ≤ length room →
      ConvertPromise From To file room (Ok n) (laid (converted From To file) room)
  convert_laid room n long h l =
      promise_accepted _ _ _ (convert_held (length room) h ∙ rw (le-ltb (length room) (length_of To F) (omega (arith, long))) (ap (λ (k : ℕ). accepted (k ∷ [])) (sym long)))

-- ---- the lists of the file, and that the other file can be written

module _ (From To : Profile) (ok : Convertible From To) (file : List ℕ) (r : Reading) (is : ReadIs From file r)
    (h : holdable To (filter_in From file).colours (filter_in From file).labels ≡ true) where
  pub writable_there : Writable To (filter_in From file)
  writable_there = held_writable From To (filter_in From file) ok.above (read_writable From From.usable file is.sound) h

  -- the code has room for the edges
  pub few_edges : r.edges ≤ 128
  few_edges =
      let w = read_writable From From.usable file is.sound in
      let k = writable_there in
      let most = ok.few (states (filter_in From file)) (filter_in From file).labels w.states_high k.states_high w.labels_high k.labels_high in
      omega (arith, w.count_in_lem, most, length-filter_edges From file, is.count_is)

  -- the first bytes of the code's list are the edges
  pub edges_taken : (list out : List ℕ) (at : ℕ) → at ≡ edges_begin From r.states → out ≡ flat (edges_from From file at r.edges) ++ drop (3 * r.edges) list →
      take (3 * r.edges) out ≡ flat (edges_in From file)
  edges_taken list out at begin e =
      ap (take (3 * r.edges)) (e ∙ edges_laid From file list at r.states r.edges begin is.states_are is.count_is)
      ∙ laid_front (flat (edges_in From file)) list (3 * r.edges) (length-flat_edges From file ∙ ap (λ (k : ℕ). 3 * k) (sym is.count_is))

  -- the lists are those of the filter
  module _ (colours edges : List ℕ) (cs : colours ≡ colours_in From file) (es : edges ≡ flat (edges_in From file)) where
    pub lists_are : from_lists colours edges r.labels r.start ≡ filter_in From file
    lists_are = rw (cs, es, is.labels_are, is.start_is) (lists_filter From file)

    pub lists_packed : (room : ℕ) → length_of To (filter_in From file) ≤ room →
        pack_of To colours edges r.labels r.start room ≡ accepted (length_of To (from_lists colours edges r.labels r.start) ∷ [])
    unfolding filter_in
    lists_packed room l = rw (lists_are, cs, es, is.labels_are, is.start_is) (pack_accepts To (filter_in From file) room writable_there l)
