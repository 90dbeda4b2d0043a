-- The trace call's answer as values (document 01, "Tracing").
-- Assumes nothing.
use Rattle.std.specs.Prelude.{Result, Ok, Err, ℕ, [], ◌∷◌}
use Rattle.std.proofs.Math.Option.{Option, none, some}
use Rattle.refusals.specs.declared.Refusal.{Refusal}
use Rattle.refusals.specs.Refusals.{Outcome, accepted, refusal_outcome}
use Rattle.tracing.specs.declared.Traced.{Traced}
use Rattle.tracing.specs.declared.Traced.TheVariants as traced

-- Where a ride stops: no observation, 0 and 0; observation i, 1 and i.
abbrev pub ride_outcome : Option ℕ → Outcome
ride_outcome none = accepted (0 ∷ 0 ∷ [])
ride_outcome (some i) = accepted (1 ∷ i ∷ [])

abbrev pub told_ride : Traced → Outcome
told_ride traced.All = ride_outcome none
told_ride (traced.Stopped i) = ride_outcome (some i)

abbrev pub traced_outcome : Result Traced Refusal → Outcome
traced_outcome (Ok ride) = told_ride ride
traced_outcome (Err r) = refusal_outcome r
