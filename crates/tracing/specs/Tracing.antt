-- What tracing answers (document 01, "Tracing", "Numbers of refusal").
-- Assumes nothing.
use Rattle.std.specs.Prelude.{ℕ, ◌+◌, ◌||◌, List, [], ◌∷◌, ltb, length}
use Rattle.std.proofs.Math.Option.{Option, none, some}
use Rattle.meaning.specs.Trace.{stops}
use Rattle.layout.specs.declared.profile.Profile.{Profile}
use Rattle.layout.specs.Contents.{labels_in, filter_in}
use Rattle.refusals.specs.Refusals.{Outcome, refused, Test, test, first_of, onward}
use Rattle.files.specs.Files.{check_of}
use Rattle.observed.specs.Observed.{first_outside}
use Rattle.tracing.specs.Answers.{ride_outcome}

-- 12: more than 65,535 observations, or colour room below observations + 1.
abbrev pub trace_tests : List ℕ → ℕ → List Test
trace_tests observations room = test 12 (ltb 65535 (length observations) || ltb room (length observations + 1)) ∷ []

-- 13, its place the index of the first such observation.
abbrev pub labels_then : Option ℕ → Outcome → Outcome
labels_then (some i) next = refused 13 i
labels_then none next = next

-- The file's own refusals, 12, 13; then the ride from the start.
unfoldable pub trace_of : Profile → List ℕ → List ℕ → ℕ → Outcome
trace_of P file observations room =
    onward (check_of P file)
    (first_of (trace_tests observations room)
    (labels_then (first_outside (labels_in P file) observations)
    (ride_outcome (stops (filter_in P file) observations))))
