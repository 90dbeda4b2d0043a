-- Demand 3 over bytes: whatever an accepted file traces from its start, the file that reduce writes traces too, with the same
-- colours before the first observation and after each; and rounds + distinct colours ≤ reduced states ≤ reached states ≤ original
-- states, where the colours are those of reached states.
-- Stated over the definitions that the contracts of trace and reduce cite, and then of any answers and rooms that meet those
-- contracts. Of any usable widths.
-- Assumes nothing.
use Rattle.std.specs.Prelude.{ℕ, ◌+◌, ◌-◌, ◌≤◌, ◌<◌, ◌≡◌, refl, true, false, List, [], ◌∷◌, ltb, length, take, drop}
use Rattle.std.proofs.Common.{sym, ap, ◌∙◌, subst, arith, take_at, le-ltb}
use Rattle.std.proofs.Math.Option.{none}
use Rattle.bits.specs.Bits.{Bytes}
use Rattle.meaning.specs.Filter.{Filter, states, in_order}
use Rattle.meaning.specs.Trace.{shown, stops}
use Rattle.meaning.specs.Search.{count}
use Rattle.meaning.specs.Reduced.{live, reduce, merged, reduced, class_list, distinct}
use Rattle.meaning.proofs.Demand.{reduced-bound, reduced_traces}
use Rattle.meaning.proofs.Dropped.{reached_part, reduced-reached, part_rides}
use Rattle.layout.specs.declared.profile.Profile.{Profile}
use Rattle.layout.specs.Code.{Usable}
use Rattle.layout.specs.Layout.{length_of, written}
use Rattle.layout.specs.Contents.{labels_in, filter_in}
use Rattle.refusals.specs.Refusals.{accepted, laid}
use Rattle.files.specs.Files.{check_of, numbers_in}
use Rattle.layout.proofs.Bounds.{states_high}
use Rattle.refusals.proofs.Laws.{first_accepted, onward_accepted, promise_laid}
use Rattle.files.specs.Tests.{Sound, check_sound, Writable, writable_in_order}
use Rattle.files.specs.Written.{Holds, holds-filter, length-written, written-holds, length-filter, read_writable}
use Rattle.tracing.specs.declared.Traced.{Traced}
use Rattle.tracing.specs.declared.Traced.TheVariants as traced
use Rattle.tracing.specs.Answers.{ride_outcome}
use Rattle.observed.specs.Observed.{first_outside}
use Rattle.tracing.specs.Tracing.{trace_of}
use Rattle.tracing.specs.Promise.{TracePromise}
use Rattle.tracing.proofs.Calls.{trace_accepted, ride_one, rode_few}
use Rattle.tracing.proofs.Unique.{traced_one}
use Rattle.folding.specs.declared.Counts.{Counts}
use Rattle.std.specs.Prelude.{Result, Ok}
use Rattle.refusals.specs.declared.Refusal.{Refusal}
use Rattle.folding.specs.Folding.{Rooms, counts_of}
use Rattle.reduction.specs.Reducing.{reduce_tests, reduce_of}
use Rattle.reduction.specs.Promise.{ReducePromise}
use Rattle.folding.proofs.Accepted.{reduced_writable, file_accepted}

-- The bytes of the reduced file.
abbrev pub reduced_file : Profile → List ℕ → List ℕ
reduced_file P file = written P (reduced (filter_in P file))

-- How many states the start of a file can reach.
abbrev pub reached_states : Profile → List ℕ → ℕ
reached_states P file = count (live (filter_in P file)) (states (filter_in P file))

-- A file traces a sequence: no observation of it is without an edge.
abbrev pub Traces : Profile → List ℕ → List ℕ → Type 0
Traces P file ys = stops (filter_in P file) ys ≡ none

-- The colours that a file shows: before the first observation, and after each.
abbrev pub Shows : Profile → List ℕ → List ℕ → List ℕ
Shows P file ys = shown (filter_in P file) ys

-- ---- of an accepted file

module _ (P : Profile) (usable : Usable P) (file : List ℕ) (bytes : Bytes file) (vs : List ℕ) (accepts : check_of P file ≡ accepted vs) where
  abbrev F : Filter
  F = filter_in P file

  sound : Sound P file
  sound = (check_sound P file vs accepts).0

  writable : Writable P F
  writable = read_writable P usable file sound

  pub few : states F ≤ 256
  few = rw (length-filter P file) (states_high P usable file)

  pub ok : in_order F ≡ true
  ok = writable_in_order P F writable

  pub holds : Holds P (reduced_file P file) (reduced F)
  holds = written-holds P usable (reduced F) (reduced_writable P usable F writable)

  -- the reduced file holds the reduced filter
  pub reduced_file-holds : filter_in P (reduced_file P file) ≡ reduced F
  reduced_file-holds = holds-filter P (reduced_file P file) (reduced F) holds

  -- it is accepted
  pub reduced_file_accepted : check_of P (reduced_file P file) ≡ accepted (numbers_in P (reduced_file P file))
  reduced_file_accepted = file_accepted P usable file bytes vs accepts

  -- and traces every sequence, of any length, that the file traces, with the same colours
  pub reduced_file_traces : (ys : List ℕ) → Traces P file ys →
      Traces P (reduced_file P file) ys × (Shows P (reduced_file P file) ys ≡ Shows P file ys)
  reduced_file_traces ys t =
      let r = reduced_traces F few ok ys t in
      (ap (λ (G : Filter). stops G ys) reduced_file-holds ∙ r.0, ap (λ (G : Filter). shown G ys) reduced_file-holds ∙ r.1)

  -- rounds + distinct colours ≤ reduced states ≤ reached states ≤ original states
  pub reduced_file-bound :
      ((reduce F).rounds + distinct F ≤ states (reduced F)) × (states (reduced F) ≤ reached_states P file) × (reached_states P file ≤ states F)
  reduced_file-bound = reduced-bound F few ok

  -- every state of the reduced file is reached from its start
  pub reduced_file-reached : (i : ℕ) → i < states (reduced F) → live (filter_in P (reduced_file P file)) i ≡ true
  reduced_file-reached i h = ap (λ (G : Filter). live G i) reduced_file-holds ∙ reduced-reached F few ok i h

  -- what the file traces and shows, the part of it that is reached traces and shows, and where the one stops the other does
  pub reached_part-rides : (ys : List ℕ) → (stops (reached_part F) ys ≡ stops F ys) × (shown (reached_part F) ys ≡ Shows P file ys)
  reached_part-rides = part_rides F few ok

  -- so the reduction must end: at most reached states minus colours rounds
  pub rounds_at_most : (reduce F).rounds ≤ reached_states P file - distinct F
  rounds_at_most = let b = reduced_file-bound in omega (arith, b.0, b.1)

-- ---- in the terms of the calls

-- What a trace that answers *traced* tells of the file.
record AllTraced (P : Profile) (file ys room room' : List ℕ) : Type 0 where
  checks : (us : List ℕ) × (check_of P file ≡ accepted us)
  few_enough : length ys ≤ 65535
  labels_in : first_outside (labels_in P file) ys ≡ none
  traces : Traces P file ys
  shows : room' ≡ laid (Shows P file ys) room

all-traced : (P : Profile) (file ys room room' : List ℕ) → TracePromise P file ys room (Ok traced.All) room' → AllTraced P file ys room room'
all-traced P file ys room room' p =
    let rode = trace_accepted P file ys (length room) _ (sym p.answer) in
    record {
      checks = rode.checks;
      few_enough = rode_few ys (length room) rode.few_enough;
      labels_in = rode.labels_in;
      traces = ride_one (stops (filter_in P file) ys) none rode.rides;
      shows = cc (promise_laid p (sym p.answer));
    }

-- What a reduction that answers with counts tells of the file and of the rooms.
pub record Answered (P : Profile) (file : List ℕ) (found left : Rooms) (c : Counts) : Type 0 where
  pub checks : (us : List ℕ) × (check_of P file ≡ accepted us)
  pub states_are : c.states ≡ states (reduced (filter_in P file))
  pub colours_are : c.colours ≡ distinct (filter_in P file)
  pub rounds_are : c.rounds ≡ (reduce (filter_in P file)).rounds
  pub length_is : c.length ≡ length_of P (reduced (filter_in P file))
  pub room : left.answer ≡ laid (reduced_file P file) found.answer
  pub list : left.classes ≡ laid (class_list (filter_in P file)) found.classes

pub answered : (P : Profile) (file : List ℕ) (found left : Rooms) (c : Counts) → ReducePromise P file found (Ok c) left → Answered P file found left c
unfolding reduce_of counts_of
answered P file found left c p =
    let a = onward_accepted (check_of P file) _ _ (sym p.answer) in
    let b = (first_accepted (reduce_tests P file found) _ _ a.2).1 in
    let F = filter_in P file in
    let made : c.states ∷ c.colours ∷ c.rounds ∷ c.length ∷ [] ≡ states (reduced F) ∷ distinct F ∷ (reduce F).rounds ∷ length_of P (reduced F) ∷ [] = cc (sym b) in
    record {
      checks = (a.0, a.1);
      states_are = cc;
      colours_are = cc;
      rounds_are = cc;
      length_is = cc;
      room = cc (promise_laid p (sym p.answer));
      list = cc (promise_laid p (sym p.answer));
    }

-- The first `length` bytes of the answer room are the reduced file.
pub answer_is : (P : Profile) → Usable P → (file : List ℕ) (found left : Rooms) (c : Counts) → Bytes file → Answered P file found left c →
    take c.length left.answer ≡ reduced_file P file
answer_is P usable file found left c bytes f =
    let w = reduced_writable P usable (filter_in P file) (writable P usable file bytes f.checks.0 f.checks.1) in
    ap (take c.length) f.room
    ∙ take_at (reduced_file P file) (drop (length (reduced_file P file)) found.answer) c.length (length-written P usable (reduced (filter_in P file)) w ∙ sym f.length_is)

labels_kept : (P : Profile) (s : List ℕ) → (reduced (filter_in P s)).labels ≡ labels_in P s
unfolding reduced merged filter_in
labels_kept P s = refl

-- If reduce answers with a file and trace of the original answers *traced*, then trace of the first `length` bytes of the
-- answer room answers *traced* too, in any room that is long enough, and the two rooms begin with the same colours.
pub reduce_then_trace : (P : Profile) → Usable P → (file : List ℕ) (found left : Rooms) (c : Counts) → Bytes file →
    ReducePromise P file found (Ok c) left →
    (ys room room' : List ℕ) → TracePromise P file ys room (Ok traced.All) room' →
    (r : Result Traced Refusal) (other other' : List ℕ) → length ys < length other →
    TracePromise P (take c.length left.answer) ys other r other' →
    (r ≡ Ok traced.All) × (room' ≡ laid (Shows P file ys) room) × (other' ≡ laid (Shows P file ys) other)
unfolding trace_of
reduce_then_trace P usable file found left c bytes hr ys room room' ht r other other' long h =
    let f = answered P file found left c hr in
    let t = all-traced P file ys room room' ht in
    let us = f.checks.0 in
    let accepts = f.checks.1 in
    let is = answer_is P usable file found left c bytes f in
    let labels : labels_in P (reduced_file P file) ≡ labels_in P file = (holds P usable file bytes us accepts).labels_are ∙ labels_kept P file in
    let kept = reduced_file_traces P usable file bytes us accepts ys t.traces in
    let few = le-ltb 65535 (length ys) t.few_enough in
    let roomy : ltb (length other) (length ys + 1) ≡ false = le-ltb (length other) (length ys + 1) (omega arith) in
    let answer_is : trace_of P (reduced_file P file) ys (length other) ≡ ride_outcome none =
    rw (reduced_file_accepted P usable file bytes us accepts, few, roomy, labels, t.labels_in, kept.0) in
    let p : TracePromise P (reduced_file P file) ys other r other' = subst (λ (s : List ℕ). TracePromise P s ys other r other') is h in (
      traced_one r (Ok traced.All) (p.answer ∙ answer_is),
      t.shows,
      cc (promise_laid p answer_is) ∙ ap (λ (cs : List ℕ). laid cs other) kept.1,
    )
