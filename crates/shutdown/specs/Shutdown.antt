-- A fault stays a fault (document 02, wish 6), over bytes: what the group lead signs. Colour 63 tells the driver to shut down. No file that
-- is accepted, and so none that reduce writes, has an edge from a state of colour 63 to a state of another colour; and once a ride through
-- either has shown 63 it shows 63 to its end. First of the definitions, then of any answers and rooms that meet the calls' promises.
-- Assumes nothing.
use Rattle.std.specs.Prelude.{ℕ, ◌+◌, ◌≤◌, ◌<◌, ◌≡◌, refl, true, List, eqb, length, take, drop}
use Rattle.std.proofs.Common.{sym, ap, ◌∙◌, arith, eqb-true, eq-eqb}
use Rattle.std.proofs.Math.Option.{Option, none, some}
use Rattle.std.proofs.Math.ListN.{get_or-append}
use Rattle.bits.specs.Bits.{Bytes}
use Rattle.meaning.specs.Search.{at}
use Rattle.meaning.specs.Cases.{cases_of, no_both}
use Rattle.meaning.specs.Filter.{Edge, each}
use Rattle.meaning.specs.Trace.{edge, colour, shown, stops}
use Rattle.meaning.specs.TraceLaws.{shown_count, ridden-length}
use Rattle.meaning.specs.Fault.{leaves, stays, fault_stays}
use Rattle.meaning.proofs.Staying.{shown-stays}
use Rattle.refusals.specs.Refusals.{accepted, laid}
use Rattle.refusals.proofs.Laws.{promise_laid}
use Rattle.layout.specs.Layout.{large, edges_begin}
use Rattle.layout.specs.Contents.{states_in, count_in, colours_in, placed_in, edge_at, edges_from, edges_in, filter_in}
use Rattle.layout.proofs.Bounds.{large_usable}
use Rattle.layout.proofs.EdgeLists.{each_at}
use Rattle.files.specs.Files.{check_of}
use Rattle.files.specs.Tests.{check_sound}
use Rattle.files.specs.Faulty.{edge_begins}
use Rattle.tracing.specs.declared.Traced.{Traced}
use Rattle.tracing.specs.declared.Traced.TheVariants as traced
use Rattle.tracing.specs.Answers.{ride_outcome, traced_outcome}
use Rattle.tracing.specs.Promise.{TracePromise}
use Rattle.tracing.proofs.Calls.{trace_accepted, ride_one}
use Rattle.folding.specs.declared.Counts.{Counts}
use Rattle.folding.specs.Folding.{Rooms}
use Rattle.std.specs.Prelude.{Result, Ok, Err}
use Rattle.refusals.specs.declared.Refusal.{Refusal}
use Rattle.reduction.specs.Promise.{ReducePromise}
use Rattle.demands.specs.Demand3.{reduced_file, Shows, reduced_file_accepted, answered, answer_is}

-- The colour of a state, as the file has it.
abbrev pub colour_in : List ℕ → ℕ → ℕ
colour_in file s = at (colours_in large file) s

-- No edge of the file, read at its bits, leads from a state of colour 63 to a state of another colour.
abbrev pub NoneLeaves63 : List ℕ → Type 0
NoneLeaves63 file =
    (i : ℕ) → i < count_in large file → let e = edge_at large file (edge_begins large file i) in
    colour_in file e.source ≡ 63 → colour_in file e.target ≡ 63

-- Of some colours that are shown, 63 is followed by nothing else to the end.
abbrev pub StaysAt63 : List ℕ → ℕ → Type 0
StaysAt63 colours count = (i j : ℕ) → i ≤ j → j < count → at colours i ≡ 63 → at colours j ≡ 63

-- ---- edges

not_left : (hue : ℕ → ℕ) (e : Edge) → stays (some 63) hue e ≡ true → hue e.source ≡ 63 → hue e.target ≡ 63
unfolding leaves
not_left hue e h is = cases_of (eqb (hue e.target) 63) (λ q. eqb-true (hue e.target) 63 q)
    (λ q. no_both h (rw (eq-eqb (hue e.source) 63 is, q)))

-- an accepted file has no such edge
pub none_accepted : (file vs : List ℕ) → check_of large file ≡ accepted vs → NoneLeaves63 file
unfolding fault_stays colour filter_in edges_in edges_from placed_in
none_accepted file vs accepts i l =
    let all : each (stays (some 63) (colour_in file)) (edges_from large file (edges_begin large (states_in large file)) (count_in large file)) ≡ true = (check_sound large file vs accepts).0.stays in
    not_left (colour_in file) _ (each_at large (stays (some 63) (colour_in file)) file (edges_begin large (states_in large file)) (count_in large file) all i l)

-- nor has the reduced file of an accepted one
pub none_reduced : (file vs : List ℕ) → Bytes file → check_of large file ≡ accepted vs → NoneLeaves63 (reduced_file large file)
none_reduced file vs bytes accepts = none_accepted (reduced_file large file) _ (reduced_file_accepted large large_usable file bytes vs accepts)

-- ---- rides

-- whatever is observed, an accepted file that has shown 63 shows it to the end
pub shows_63 : (file vs : List ℕ) → check_of large file ≡ accepted vs → (ys : List ℕ) → StaysAt63 (Shows large file ys) (length (Shows large file ys))
shows_63 file vs accepts = shown-stays 63 (filter_in large file) (check_sound large file vs accepts).0.stays

-- so does the reduced file, also where its original traces no such sequence
pub reduced_shows_63 : (file vs : List ℕ) → Bytes file → check_of large file ≡ accepted vs →
    (ys : List ℕ) → StaysAt63 (Shows large (reduced_file large file) ys) (length (Shows large (reduced_file large file) ys))
reduced_shows_63 file vs bytes accepts = shows_63 (reduced_file large file) _ (reduced_file_accepted large large_usable file bytes vs accepts)

-- ---- in the terms of the calls

-- How many colours a trace of k observations has written: one before the first, and one after each that was taken.
abbrev pub colour_count : Result Traced Refusal → ℕ → ℕ
colour_count (Ok traced.All) k = k + 1
colour_count (Ok (traced.Stopped i)) k = i + 1
colour_count (Err why) k = 0

-- what a ride that was not refused has left in its room
rode_63 : (file ys room room' vs : List ℕ) (r : Result Traced Refusal) (o : Option ℕ) → TracePromise large file ys room r room' → traced_outcome r ≡ accepted vs →
    ride_outcome o ≡ accepted vs → StaysAt63 room' (shown_count o (length ys))
unfolding shown stops
rode_63 file ys room room' vs r o p is ride i j le below shows =
    let rode = trace_accepted large file ys (length room) vs (sym p.answer ∙ is) in
    let F = filter_in large file in
    let colours = Shows large file ys in
    let where-stopped : stops F ys ≡ o = ride_one (stops F ys) o (rode.rides ∙ sym ride) in
    let long : length colours ≡ shown_count o (length ys) = ridden-length (edge F) (colour F) F.start ys ∙ ap (λ (q : Option ℕ). shown_count q (length ys)) where-stopped in
    let left : room' ≡ laid colours room = cc (promise_laid p (sym p.answer ∙ is)) in
    let entry : (k : ℕ) → k < length colours → at room' k ≡ at colours k =
    λ k l. ap (λ (xs : List ℕ). at xs k) left ∙ get_or-append colours (drop (length colours) room) 0 k l in
    let high : j < length colours = omega (arith, long) in
    entry j high ∙ shows_63 file rode.checks.0 rode.checks.1 ys i j le high (sym (entry i (omega arith)) ∙ shows)

-- whatever trace answers, of the colours that it has written 63 is followed by nothing else
pub trace_63 : (file ys room room' : List ℕ) (r : Result Traced Refusal) → TracePromise large file ys room r room' → StaysAt63 room' (colour_count r (length ys))
trace_63 file ys room room' (Ok traced.All) p i j le l = rode_63 file ys room room' _ (Ok traced.All) none p refl refl i j le (omega arith)
trace_63 file ys room room' (Ok (traced.Stopped k)) p i j le l = rode_63 file ys room room' _ (Ok (traced.Stopped k)) (some k) p refl refl i j le (omega arith)
trace_63 file ys room room' (Err why) p i j le l = absurd (omega arith)

-- if reduce answers with a file, the bytes that it has written have no edge that leaves 63, and whatever is observed, once they have
-- shown 63 they show it to the end
pub reduce_63 : (file : List ℕ) (found left : Rooms) (c : Counts) → Bytes file → ReducePromise large file found (Ok c) left →
    let bytes = take c.length left.answer in
    NoneLeaves63 bytes × ((ys : List ℕ) → StaysAt63 (Shows large bytes ys) (length (Shows large bytes ys)))
reduce_63 file found left c bytes p =
    let f = answered large file found left c p in
    rw (answer_is large large_usable file found left c bytes f)
    (none_reduced file f.checks.0 bytes f.checks.1, reduced_shows_63 file f.checks.0 bytes f.checks.1)
