-- `tracing::ride_through` meets its contract. The invariant: a ride in progress, as the laws have it, has taken the observations so far.
-- Assumes nothing.
use mathlib.Core.Path.{◌≡◌}
use Rattle.tracing.proofs.Laws.{Underway}
use Rattle.tracing.proofs.ride_through.Given as goal

abbrev pub invariant-loop-observation : goal.invariant-loop-observation
invariant-loop-observation l =
    Underway l.rows l.hues l.start l.observations l.initial.room l.room l.ride × (l.ride.taken ≡ l.observation-index)
