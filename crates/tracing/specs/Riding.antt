-- What one step of a ride makes of it, what is asked for a ride, and what it gives. No public call's promise speaks of these.
-- Assumes nothing.
use Rattle.std.specs.Prelude.{Result, Ok, Err, ℕ, ◌+◌, ◌≤◌, ◌<◌, ◌≡◌, List, length}
use Rattle.std.proofs.Math.Option.{Option, none, some}
use Rattle.meaning.specs.Search.{at}
use Rattle.meaning.specs.Trace.{ridden, halted}
use Rattle.refusals.specs.Refusals.{laid}
use Rattle.table.specs.Table.{Table, look, Rows}
use Rattle.tracing.specs.declared.Traced.{Traced}
use Rattle.tracing.specs.declared.Traced.TheVariants as traced
use Rattle.tracing.specs.declared.Ride.{Ride}
use Rattle.tracing.specs.Answers.{ride_outcome, told_ride}

-- One observation more, by the edge that there is for it; or the ride stops at that observation.
abbrev pub step_of : Option ℕ → ℕ → Result Ride Traced
step_of (some t) taken = Ok (record { state = t; taken = taken + 1 })
step_of none taken = Err (traced.Stopped taken)

-- A state that a ride can be in: it has a row in the table, and a colour.
pub record Stand (T : Table) (hues : List ℕ) (s : ℕ) : Type 0 where
  pub row : Rows T (s + 1)
  pub coloured : s < length hues

-- What is asked for a ride: few enough observations, each a label of the table, and room for their colours; the start and each
-- target are states that a ride can be in.
pub record Ridable (T : Table) (hues : List ℕ) (start : ℕ) (observations room : List ℕ) : Type 0 where
  pub few : length observations ≤ 65535
  pub labels : (i : ℕ) → at observations i < 64
  pub roomy : length observations + 1 ≤ length room
  pub begins : Stand T hues start
  pub leads : (s y t : ℕ) → look T s y ≡ some t → Stand T hues t

-- What a ride gives: where it stops, and the colours of the states on the way at the beginning of the room.
pub record Ridden (T : Table) (hues : List ℕ) (start : ℕ) (observations room : List ℕ)
    (r : Traced) (room' : List ℕ) : Type 0 where
  pub answer : told_ride r ≡ ride_outcome (halted (look T) start observations)
  pub colours : room' ≡ laid (ridden (look T) (at hues) start observations) room
