-- The outcome of an answer by its values is the outcome that the wrapped call speaks of, for each kind of answer. Assumes nothing.
use Rattle.std.specs.Prelude.{ℕ, Result, Ok, Err, List, [], ◌∷◌, ◌≡◌}
use mathlib.Core.Path.{refl}
use Rattle.refusals.specs.declared.Refusal.{Refusal}
use Rattle.layout.specs.declared.Reading.{Reading}
use Rattle.checking.specs.Promise.{checked_outcome}
use Rattle.unpacking.specs.Promise.{unpacked_outcome}
use Rattle.packing.specs.Promise.{packed_outcome}
use Rattle.dot.specs.Promise.{made_outcome}
use Rattle.tracing.specs.Answers.{traced_outcome}
use Rattle.tracing.specs.declared.Traced.{Traced}
use Rattle.tracing.specs.declared.Traced.TheVariants as traced
use Rattle.reduction.specs.Answers.{reduced_outcome}
use Rattle.folding.specs.declared.Counts.{Counts}
use Rattle.telling.specs.Codes.{ride_values, outcome_of}

pub as_checked : (a : Result Reading Refusal) → outcome_of (λ r. r.states ∷ r.labels ∷ r.start ∷ r.edges ∷ []) a ≡ checked_outcome a
as_checked (Ok r) = refl
as_checked (Err why) = refl

pub as_unpacked : (a : Result Reading Refusal) → outcome_of (λ r. r.states ∷ r.labels ∷ r.start ∷ r.edges ∷ []) a ≡ unpacked_outcome a
as_unpacked (Ok r) = refl
as_unpacked (Err why) = refl

pub as_packed : (a : Result ℕ Refusal) → outcome_of (λ n. n ∷ []) a ≡ packed_outcome a
as_packed (Ok n) = refl
as_packed (Err why) = refl

pub as_made : (a : Result ℕ Refusal) → outcome_of (λ n. n ∷ []) a ≡ made_outcome a
as_made (Ok n) = refl
as_made (Err why) = refl

pub as_traced : (a : Result Traced Refusal) → outcome_of ride_values a ≡ traced_outcome a
as_traced (Ok traced.All) = refl
as_traced (Ok (traced.Stopped i)) = refl
as_traced (Err why) = refl

pub as_reduced : (a : Result Counts Refusal) → outcome_of (λ c. c.states ∷ c.colours ∷ c.rounds ∷ c.length ∷ []) a ≡ reduced_outcome a
as_reduced (Ok c) = refl
as_reduced (Err why) = refl
