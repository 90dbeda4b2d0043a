-- A filter in the files of two profiles (document 02, "The pocket profile"): a file that is accepted, and that the other profile can hold, is
-- converted to a file that is accepted with the same numbers; back again it has the same bytes; both trace every sequence the same; and the
-- reduced file converted is the reduced file of the converted one. Of any two usable profiles, where the fault
-- colour of the second, if it has one, is above the colours of the first; first of the definitions, then of the calls.
-- Assumes nothing.
use Rattle.std.specs.Prelude.{ℕ, ◌≤◌, ◌≡◌, true, List, [], ◌∷◌, length, take}
use Rattle.std.proofs.Common.{sym, ap, ◌∙◌, subst, arith}
use borrow.Author.Tests.{le-ltb, not-false}
use Rattle.bits.specs.Bits.{Bytes}
use Rattle.bits.proofs.Parts.{bytes-replicate}
use Rattle.pen.proofs.Runs.{bytes_puts}
use Rattle.meaning.specs.Filter.{Filter, states}
use Rattle.meaning.specs.Trace.{shown}
use Rattle.meaning.specs.Reduced.{reduce, reduced, class_list, distinct}
use Rattle.refusals.specs.Refusals.{accepted, laid}
use Rattle.refusals.proofs.Laws.{first_accepted, onward_accepted, laid_front, promise_laid, promise_one}
use Rattle.layout.specs.declared.profile.Profile.{Profile}
use Rattle.layout.specs.Layout.{length_of, written}
use Rattle.layout.specs.Contents.{labels_in, filter_in}
use Rattle.layout.specs.Code.{Usable}
use Rattle.files.specs.Files.{holdable, numbers_in, check_of}
use Rattle.files.specs.Tests.{check_sound, sound_check, Writable, writable_held, FaultAbove, held_writable}
use Rattle.files.specs.Written.{Holds, holds-filter, length-written, written-holds, written_sound, length_colours, length-edges_in, length_read, read_writable, read_back}
use Rattle.packing.specs.Promise.{Packed}
use Rattle.std.specs.Prelude.{Result, Ok}
use Rattle.refusals.specs.declared.Refusal.{Refusal}
use Rattle.packing.proofs.Unique.{packed_one}
use Rattle.tracing.specs.declared.Traced.{Traced}
use Rattle.tracing.specs.Tracing.{trace_of}
use Rattle.tracing.specs.Promise.{TracePromise}
use Rattle.tracing.proofs.Unique.{traced_one}
use Rattle.folding.specs.declared.Counts.{Counts}
use Rattle.folding.specs.Folding.{Rooms}
use Rattle.folding.proofs.Accepted.{reduced_writable}
use Rattle.reduction.specs.Promise.{ReducePromise}
use Rattle.converting.specs.Promise.{convert_tests, convert_of, converted, ConvertPromise}
use Rattle.demands.specs.Demand3.{reduced_file, Shows, reduced_file-holds, reduced_file_accepted, answered, answer_is}

-- ---- of the definitions

module _ (From To : Profile) (ok : Usable From) (ok' : Usable To) (above : FaultAbove From To) (file : List ℕ) (vs : List ℕ) (accepts : check_of From file ≡ accepted vs)
    (fits : holdable To (filter_in From file).colours (filter_in From file).labels ≡ true) where
  abbrev F : Filter
  F = filter_in From file

  abbrev other : List ℕ
  other = converted From To file

  writable : Writable From F
  writable = read_writable From ok file (check_sound From file vs accepts).0

  writable_there : Writable To F
  writable_there = held_writable From To F above writable fits

  holds : Holds To other F
  holds = written-holds To ok' F writable_there

  -- the other file holds the same filter
  pub converted-holds : filter_in To other ≡ F
  converted-holds = holds-filter To other F holds

  same_labels : labels_in To other ≡ labels_in From file
  unfolding filter_in
  same_labels = holds.labels_are

  same_numbers : numbers_in To other ≡ numbers_in From file
  unfolding filter_in
  same_numbers = rw (holds.states_are, holds.labels_are, holds.start_is, holds.count_is, length_colours From file, length-edges_in From file)

  -- it is accepted, with the same n, m, start and e
  pub converted_accepted : check_of To other ≡ check_of From file
  converted_accepted =
      sound_check To other (written_sound To ok' F writable_there) ∙ ap accepted (same_numbers ∙ (check_sound From file vs accepts).1) ∙ sym accepts

  pub converted-length : length other ≡ length_of To F
  converted-length = length-written To ok' F writable_there

  -- back again it is the file, byte for byte
  pub there_and_back : Bytes file → converted To From other ≡ file
  there_and_back bytes = ap (written From) converted-holds ∙ read_back From ok file (check_sound From file vs accepts).0 bytes

  -- and the way back is accepted in every room that holds the file
  pub back_accepted : (room : ℕ) → length file ≤ room → convert_of To From other room ≡ accepted (length file ∷ [])
  unfolding convert_of
  back_accepted room l =
      rw (converted_accepted, accepts, converted-holds, writable_held From F writable, length_read From file (check_sound From file vs accepts).0, le-ltb _ _ l)

  -- a sequence of observations is refused, stopped or traced by both alike
  pub converted_traces : (ys : List ℕ) (room : ℕ) → trace_of To other ys room ≡ trace_of From file ys room
  unfolding trace_of
  converted_traces ys room = rw (converted_accepted, same_labels, converted-holds)

  -- with the same colours
  pub converted_shows : (ys : List ℕ) → Shows To other ys ≡ Shows From file ys
  converted_shows ys = ap (λ (G : Filter). shown G ys) converted-holds

  -- the reduced file converted is the reduced file of the converted one
  pub converted_reduces : Bytes file → converted From To (reduced_file From file) ≡ reduced_file To other
  converted_reduces bytes = ap (written To) (reduced_file-holds From ok file bytes vs accepts) ∙ sym (ap (λ (G : Filter). written To (reduced G)) converted-holds)

  -- it can be converted, in every room that holds the result
  pub reduced_converts : Bytes file → (room : ℕ) → length_of To (reduced F) ≤ room →
      convert_of From To (reduced_file From file) room ≡ accepted (length_of To (reduced F) ∷ [])
  unfolding convert_of
  reduced_converts bytes room l =
      rw (
        reduced_file_accepted From ok file bytes vs accepts,
        reduced_file-holds From ok file bytes vs accepts,
        writable_held To (reduced F) (reduced_writable To ok' F writable_there),
        le-ltb _ _ l,
      )

  -- classes, distinct colours and rounds are the same
  pub converted-classes : (class_list (filter_in To other) ≡ class_list F) × (distinct (filter_in To other) ≡ distinct F)
      × ((reduce (filter_in To other)).rounds ≡ (reduce F).rounds)
  converted-classes = (ap class_list converted-holds, ap distinct converted-holds, ap (λ (G : Filter). (reduce G).rounds) converted-holds)

-- ---- in the terms of the calls

-- What an accepted conversion tells of the file.
pub record Converts (From To : Profile) (file : List ℕ) (n : ℕ) : Type 0 where
  pub checks : (us : List ℕ) × (check_of From file ≡ accepted us)
  pub fits : holdable To (filter_in From file).colours (filter_in From file).labels ≡ true
  pub length_is : length_of To (filter_in From file) ≡ n

pub converts : (From To : Profile) (file : List ℕ) (room n : ℕ) → convert_of From To file room ≡ accepted (n ∷ []) → Converts From To file n
unfolding convert_of
converts From To file room n h =
    let F = filter_in From file in
    let a = onward_accepted (check_of From file) _ _ h in
    let b = first_accepted (convert_tests To F room) _ _ a.2 in
    record { checks = (a.0, a.1); fits = not-false (holdable To F.colours F.labels) b.0.0; length_is = cc b.1 }

-- what is written is bytes
written-bytes : (P : Profile) (F : Filter) → Bytes (written P F)
unfolding written
written-bytes P F = bytes_puts _ 0 _ _ (bytes-replicate (length_of P F) 0 (omega arith))

module _ (From To : Profile) (ok : Usable From) (ok' : Usable To) (above : FaultAbove From To) (file : List ℕ) (n : ℕ) (room left : List ℕ)
    (there : ConvertPromise From To file room (Ok n) left) where
  -- the first n bytes of the room are the other file
  pub is_other : take n left ≡ converted From To file
  is_other =
      let got = converts From To file (length room) n (sym there.answer) in
      ap (take n) (cc (promise_laid there (sym there.answer)))
      ∙ laid_front (converted From To file) room n (converted-length From To ok ok' above file got.checks.0 got.checks.1 got.fits ∙ got.length_is)

module _ (From To : Profile) (ok : Usable From) (ok' : Usable To) (above : FaultAbove From To) (file : List ℕ) (bytes : Bytes file) (n : ℕ) (room left : List ℕ)
    (there : ConvertPromise From To file room (Ok n) left) where
  got : Converts From To file n
  got = converts From To file (length room) n (sym there.answer)

  first : take n left ≡ converted From To file
  first = is_other From To ok ok' above file n room left there

  -- if a file is converted into a room, and the first n bytes of the room are converted back into a room that is long enough, the file's
  -- length is answered and that room begins with the file
  pub convert_and_back : (back back' : List ℕ) (r : Packed) → length file ≤ length back → ConvertPromise To From (take n left) back r back' →
      (r ≡ Ok (length file)) × (back' ≡ laid file back)
  convert_and_back back back' r l p =
      let q : ConvertPromise To From (converted From To file) back r back' = subst (λ (s : List ℕ). ConvertPromise To From s back r back') first p in
      let due = back_accepted From To ok ok' above file got.checks.0 got.checks.1 got.fits (length back) l in (
        packed_one r (Ok (length file)) (q.answer ∙ due),
        cc (promise_laid q due) ∙ ap (λ (s : List ℕ). laid s back) (there_and_back From To ok ok' above file got.checks.0 got.checks.1 got.fits bytes),
      )

  -- a trace of the file and one of the first n bytes of the room, into the same room, answer the same and leave the same colours
  pub convert_then_trace : (ys colours : List ℕ) (r r' : Result Traced Refusal) (here here' : List ℕ) → TracePromise From file ys colours r here →
      TracePromise To (take n left) ys colours r' here' → (r ≡ r') × (here ≡ here')
  convert_then_trace ys colours r r' here here' p p' =
      let q : TracePromise To (converted From To file) ys colours r' here' = subst (λ (s : List ℕ). TracePromise To s ys colours r' here') first p' in
      let same : TracePromise From file ys colours r' here' =
      rw (converted_traces From To ok ok' above file got.checks.0 got.checks.1 got.fits ys (length colours), converted_shows From To ok ok' above file got.checks.0 got.checks.1 got.fits ys) at q in
      let one = promise_one p same in
      (traced_one r r' one.0, cc one.1)

  -- a file reduced and then converted, and the same file converted and then reduced: the two files have the same bytes, both ways give the same
  -- counts, and into the same class list the same classes
  pub reduce_and_convert : (found kept : Rooms) (c : Counts) → ReducePromise From file found (Ok c) kept →
      (k : ℕ) (room₁ left₁ : List ℕ) → ConvertPromise From To (take c.length kept.answer) room₁ (Ok k) left₁ →
      (found₂ kept₂ : Rooms) (d : Counts) → ReducePromise To (take n left) found₂ (Ok d) kept₂ →
      (take k left₁ ≡ take d.length kept₂.answer) × (c.states ≡ d.states) × (c.colours ≡ d.colours) × (c.rounds ≡ d.rounds)
      × (found.classes ≡ found₂.classes → kept.classes ≡ kept₂.classes)
  reduce_and_convert found kept c hr k room₁ left₁ hc found₂ kept₂ d hd =
      let here = answered From file found kept c hr in
      let hc' : ConvertPromise From To (reduced_file From file) room₁ (Ok k) left₁ = subst (λ (s : List ℕ). ConvertPromise From To s room₁ (Ok k) left₁) (answer_is From ok file found kept c bytes here) hc in
      let hd' : ReducePromise To (converted From To file) found₂ (Ok d) kept₂ = subst (λ (s : List ℕ). ReducePromise To s found₂ (Ok d) kept₂) first hd in
      let there = answered To (converted From To file) found₂ kept₂ d hd' in
      let same = converted-holds From To ok ok' above file got.checks.0 got.checks.1 got.fits in (
        is_other From To ok ok' above (reduced_file From file) k room₁ left₁ hc'
            ∙ converted_reduces From To ok ok' above file got.checks.0 got.checks.1 got.fits bytes
            ∙ sym (answer_is To ok' (converted From To file) found₂ kept₂ d (written-bytes To (filter_in From file)) there),
        here.states_are ∙ sym (there.states_are ∙ ap (λ (G : Filter). states (reduced G)) same),
        here.colours_are ∙ sym (there.colours_are ∙ ap distinct same),
        here.rounds_are ∙ sym (there.rounds_are ∙ ap (λ (G : Filter). (reduce G).rounds) same),
        λ lists. here.list ∙ ap (laid (class_list (filter_in From file))) lists ∙ sym (there.list ∙ ap (λ (G : Filter). laid (class_list G) found₂.classes) same),
      )
