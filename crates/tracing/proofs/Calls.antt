-- The promise of trace in each of its cases, and what an accepted ride has passed.
-- Assumes nothing.
use mathlib.Core.Path.{◌≡◌, refl, ap}
use mathlib.Core.Bool.{Bool, true, false, ◌||◌}
use mathlib.Core.List.{List}
use mathlib.Core.Option.{Option, none, some}
use Prim.Native.Nat.{ℕ, ◌+◌, ◌≤◌, ◌<◌}
use native.Mathlib.Decide.{dec_lt}
use native.Mathlib.Omega.{arith}
use lib.Dec.{ltb}
use lib.ListN.{length}
use borrow.Author.Tests.{lt-ltb, le-ltb, ltb-false}
use Rattle.meaning.specs.Cases.{impossible}
use Rattle.meaning.specs.Trace.{shown, stops}
use Rattle.layout.specs.declared.profile.Profile.{Profile}
use Rattle.refusals.specs.declared.Kind.TheVariants.{Room, Observation}
use Rattle.refusals.specs.declared.Refusal.{Refusal}
use Rattle.layout.specs.Contents.{labels_in, filter_in}
use Rattle.refusals.specs.Refusals.{Outcome, accepted, refusal_outcome, laid, Lent, Promise}
use Rattle.refusals.proofs.Laws.{first_accepted, onward_accepted, all_laid, promise_refused, promise_accepted}
use Rattle.files.specs.Files.{check_of}
use Rattle.observed.specs.Observed.{first_outside}
use Rattle.std.specs.Prelude.{Ok, Err}
use Rattle.tracing.specs.declared.Traced.{Traced}
use Rattle.tracing.specs.Answers.{ride_outcome, told_ride}
use Rattle.tracing.specs.Tracing.{trace_tests, labels_then, trace_of}
use Rattle.tracing.specs.Promise.{TracePromise}

-- a ride accepts, wherever it stops
ridden : (o : Option ℕ) (ls : List Lent) → Promise (ride_outcome o) (ride_outcome o) ls (all_laid ls)
ridden none ls = promise_accepted _ _ ls refl
ridden (some i) ls = promise_accepted _ _ ls refl

module _ (P : Profile) (s ys room : List ℕ) where
  pub trace_refused : (why : Refusal) → check_of P s ≡ refusal_outcome why → TracePromise P s ys room (Err why) room
  unfolding trace_of
  trace_refused why h = promise_refused _ why _ (rw h)

  module _ (vs : List ℕ) (h : check_of P s ≡ accepted vs) where
    pub trace_short : (ltb 65535 (length ys) || ltb (length room) (length ys + 1)) ≡ true → TracePromise P s ys room (Err (record { kind = Room; place = 0 })) room
    unfolding trace_of
    trace_short t = promise_refused _ (record { kind = Room; place = 0 }) _ (rw (h, t))

    module _ (t : (ltb 65535 (length ys) || ltb (length room) (length ys + 1)) ≡ false) where
      pub trace_label : (i : ℕ) → first_outside (labels_in P s) ys ≡ some i → TracePromise P s ys room (Err (record { kind = Observation; place = i })) room
      unfolding trace_of
      trace_label i o = promise_refused _ (record { kind = Observation; place = i }) _ (rw (h, t, o))

      pub trace_ridden : (r : Traced) (room' : List ℕ) → first_outside (labels_in P s) ys ≡ none → told_ride r ≡ ride_outcome (stops (filter_in P s) ys) →
          room' ≡ laid (shown (filter_in P s) ys) room → TracePromise P s ys room (Ok r) room'
      unfolding trace_of
      trace_ridden r room' o e w = rw (h, t, o, e, w) (ridden (stops (filter_in P s) ys) _)

-- ---- what an accepted ride has passed

labels_accepted : (o : Option ℕ) (next : Outcome) (vs : List ℕ) → labels_then o next ≡ accepted vs → (o ≡ none) × (next ≡ accepted vs)
labels_accepted none next vs h = (refl, h)
labels_accepted (some i) next vs h = impossible cc

pub record Rode (P : Profile) (s ys : List ℕ) (room : ℕ) (vs : List ℕ) : Type 0 where
  pub checks : (us : List ℕ) × (check_of P s ≡ accepted us)
  pub few_enough : (ltb 65535 (length ys) || ltb room (length ys + 1)) ≡ false
  pub labels_in : first_outside (labels_in P s) ys ≡ none
  pub rides : ride_outcome (stops (filter_in P s) ys) ≡ accepted vs

pub trace_accepted : (P : Profile) (s ys : List ℕ) (room : ℕ) (vs : List ℕ) → trace_of P s ys room ≡ accepted vs → Rode P s ys room vs
unfolding trace_of
trace_accepted P s ys room vs h =
    let a = onward_accepted (check_of P s) _ _ h in
    let b = first_accepted (trace_tests ys room) _ _ a.2 in
    let c = labels_accepted (first_outside (labels_in P s) ys) _ _ b.1 in
    record { checks = (a.0, a.1); few_enough = b.0.0; labels_in = c.0; rides = c.1 }

-- a ride's outcome tells where it stops
pub ride_one : (a b : Option ℕ) → ride_outcome a ≡ ride_outcome b → a ≡ b
ride_one none none h = refl
ride_one (some i) (some j) h = ap some (cc h)
ride_one none (some j) h = impossible cc
ride_one (some i) none h = impossible cc

-- no more observations than a ride takes
or_first : (a b : Bool) → a || b ≡ false → a ≡ false
or_first true b e = e
or_first false b e = refl

pub rode_few : (ys : List ℕ) (room : ℕ) → (ltb 65535 (length ys) || ltb room (length ys + 1)) ≡ false → length ys ≤ 65535
rode_few ys room h = ltb-false 65535 (length ys) (or_first (ltb 65535 (length ys)) _ h)

-- a room for as many colours as any ride shows is as good as one that is just long enough
pub room_enough : (P : Profile) (s ys : List ℕ) → trace_of P s ys 65536 ≡ trace_of P s ys (length ys + 1)
unfolding trace_of
room_enough P s ys = rw (test_same (length ys))
  where
    test_same : (k : ℕ) → (ltb 65535 k || ltb 65536 (k + 1)) ≡ (ltb 65535 k || ltb (k + 1) (k + 1))
    test_same k = go (dec_lt 65535 k)
      where
        go : Dec (65535 < k) → (ltb 65535 k || ltb 65536 (k + 1)) ≡ (ltb 65535 k || ltb (k + 1) (k + 1))
        go (yes l) = rw (lt-ltb 65535 k l)
        go (no l) = rw (le-ltb 65536 (k + 1) (omega arith), le-ltb (k + 1) (k + 1) (omega arith))
