-- What a C caller gets: one number for an answer, the values in a lent array, and what the call leaves in its rooms.
-- Assumes nothing.
use Rattle.std.specs.Prelude.{Result, Ok, Err, ℕ, suc, ◌+◌, ◌*◌, ◌-◌, ◌^◌, ◌≡◌, List, [], ◌∷◌, ltb, set}
use Rattle.meaning.specs.Pick.{pick}
use Rattle.refusals.specs.declared.Refusal.{Refusal}
use Rattle.refusals.specs.Refusals.{Outcome, accepted, refused, refusal_outcome, Lent, rooms_after}
use Rattle.tracing.specs.declared.Traced.{Traced}
use Rattle.tracing.specs.declared.Traced.TheVariants as traced

-- A place that a number of 64 bits can hold beside the paper's number. Only a text of 2^56 bytes or more could have another.
abbrev pub told_place : ℕ → ℕ
told_place place = pick (ltb place (2 ^ 56)) place (2 ^ 56 - 1)

-- 0 for accepted, else place times 256 plus the paper's number.
abbrev pub code_of : Outcome → ℕ
code_of (accepted vs) = 0
code_of (refused number place) = told_place place * 256 + number

-- An array with values stored one after another from place i on.
abbrev pub stored : ℕ → List ℕ → List ℕ → List ℕ
stored i [] array = array
stored i (v ∷ vs) array = stored (suc i) vs (set array i v)

-- The values are written only where the call accepts.
abbrev pub values_after : Outcome → List ℕ → List ℕ
values_after (accepted vs) array = stored 0 vs array
values_after (refused number place) array = array

-- The values of a ride: 0 and 0 where all is traced, 1 and i where it stops at observation i.
abbrev pub ride_values : Traced → List ℕ
ride_values traced.All = 0 ∷ 0 ∷ []
ride_values (traced.Stopped i) = 1 ∷ i ∷ []

-- The outcome of an answer, by the values that come back where the call accepts.
abbrev pub outcome_of : {A : Type 0} → (A → List ℕ) → Result A Refusal → Outcome
outcome_of values (Ok a) = accepted (values a)
outcome_of values (Err r) = refusal_outcome r

-- The number returned and the array of values, by the outcome that is answered.
abbrev pub Spoken : Outcome → List ℕ → ℕ → List ℕ → Type 0
Spoken answered values r values' = (r ≡ code_of answered) × (values' ≡ values_after answered values)

-- The number returned, the array of values and the lent rooms, by the outcome that is due.
pub record Told (due : Outcome) (rooms : List Lent) (values : List ℕ) (r : ℕ) (left : List (List ℕ)) (values' : List ℕ) : Type 0 where
  pub number : r ≡ code_of due
  pub rooms_after_lem : left ≡ rooms_after due rooms
  pub values_after_lem : values' ≡ values_after due values
