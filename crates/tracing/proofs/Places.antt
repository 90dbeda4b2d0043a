-- A refused ride's number has at most two digits, and its place at most six. Assumes nothing.
use Prim.Native.Nat.{ℕ, suc, ◌<◌}
use mathlib.Core.Path.{◌≡◌, refl}
use mathlib.Core.Bool.{Bool, true, false}
use mathlib.Core.List.{List, [], ◌∷◌}
use mathlib.Core.Option.{Option, none, some}
use native.Mathlib.Omega.{arith}
use lib.Dec.{leb}
use lib.ListN.{length}
use Rattle.meaning.specs.Pick.{pick}
use Rattle.meaning.specs.Cases.{impossible}
use Rattle.meaning.specs.Trace.{later, stops}
use Rattle.meaning.specs.TraceLaws.{later-within}
use Rattle.refusals.specs.Refusals.{Outcome}
use Rattle.layout.specs.declared.profile.Profile.{Profile}
use Rattle.layout.specs.Code.{Usable}
use Rattle.layout.specs.Contents.{labels_in, filter_in}
use Rattle.files.specs.Files.{check_of}
use Rattle.files.specs.Places.{Small, small_accepted, small_at, small_first, small_onward, check_small}
use Rattle.observed.specs.Observed.{first_outside}
use Rattle.tracing.specs.Answers.{ride_outcome}
use Rattle.tracing.specs.Tracing.{trace_tests, labels_then, trace_of}
use Rattle.tracing.proofs.Calls.{rode_few}

outside_here : (b : Bool) (o : Option ℕ) (i n : ℕ) → (o ≡ some i → i < suc n) → pick b (some 0) o ≡ some i → i < suc n
outside_here true o i n h e = let z : 0 ≡ i = cc in omega arith
outside_here false o i n h e = h e

outside_within : (m : ℕ) (ys : List ℕ) (i : ℕ) → first_outside m ys ≡ some i → i < length ys
unfolding first_outside
outside_within m [] i e = impossible cc
outside_within m (y ∷ ys) i e =
    outside_here (leb m y) (later (first_outside m ys)) i (length ys) (later-within (first_outside m ys) (length ys) i (outside_within m ys)) e

small_labels : (o : Option ℕ) (next : Outcome) → ((i : ℕ) → o ≡ some i → i < 1000000) → Small next → Small (labels_then o next)
small_labels none next h k = k
small_labels (some i) next h k = small_at 13 i (omega arith) (h i refl)

small_ride : (o : Option ℕ) → Small (ride_outcome o)
small_ride none = small_accepted _
small_ride (some i) = small_accepted _

pub trace_small : (P : Profile) → Usable P → (s ys : List ℕ) (room : ℕ) → Small (trace_of P s ys room)
unfolding trace_of
trace_small P ok s ys room = small_onward (check_of P s) _ (check_small P ok s) (small_first (trace_tests ys room) _ refl λ p.
    small_labels (first_outside (labels_in P s) ys) _
    (λ i e. omega (arith, outside_within (labels_in P s) ys i e, rode_few ys room p.0))
    (small_ride (stops (filter_in P s) ys)))
