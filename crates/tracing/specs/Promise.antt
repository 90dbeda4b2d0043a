-- What the trace call promises of its answer and of every byte that it is lent to write.
-- Assumes nothing.
use Rattle.std.specs.Prelude.{Result, ℕ, List, [], ◌∷◌, length}
use Rattle.meaning.specs.Trace.{shown}
use Rattle.layout.specs.declared.profile.Profile.{Profile}
use Rattle.layout.specs.Contents.{filter_in}
use Rattle.refusals.specs.declared.Refusal.{Refusal}
use Rattle.refusals.specs.Refusals.{Lent, lent, Promise}
use Rattle.tracing.specs.declared.Traced.{Traced}
use Rattle.tracing.specs.Answers.{traced_outcome}
use Rattle.tracing.specs.Tracing.{trace_of}

-- What is written: the colours that the filter shows.
abbrev pub trace_lent : Profile → List ℕ → List ℕ → List ℕ → List Lent
trace_lent P file observations colours = lent (shown (filter_in P file) observations) colours ∷ []

-- Accepted: the room begins with the colours that the filter shows, the rest is as found. Refused: the room is as found.
abbrev pub TracePromise : Profile → List ℕ → List ℕ → List ℕ → Result Traced Refusal → List ℕ → Type 0
TracePromise P file observations colours r colours' =
    Promise (traced_outcome r) (trace_of P file observations (length colours)) (trace_lent P file observations colours) (colours' ∷ [])
