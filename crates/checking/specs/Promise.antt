-- The check call's answer as number, place and values, and what the call promises of it. What is lent to be read cannot change.
-- Assumes nothing.
use Rattle.std.specs.Prelude.{ℕ, ◌≡◌, Result, Ok, Err, List}
use Rattle.refusals.specs.declared.Refusal.{Refusal}
use Rattle.refusals.specs.Refusals.{Outcome, refusal_outcome}
use Rattle.layout.specs.declared.profile.Profile.{Profile}
use Rattle.layout.specs.declared.Reading.{Reading}
use Rattle.files.specs.Files.{reading_outcome, check_of}

abbrev pub Checked : Type 0
Checked = Result Reading Refusal

abbrev pub checked_outcome : Checked → Outcome
checked_outcome (Ok r) = reading_outcome r
checked_outcome (Err r) = refusal_outcome r

abbrev pub CheckPromise : Profile → List ℕ → Checked → Type 0
CheckPromise P file r = checked_outcome r ≡ check_of P file
