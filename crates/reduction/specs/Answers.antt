-- The reduce call's answer as values (document 01, "Reducing").
-- Assumes nothing.
use Rattle.std.specs.Prelude.{Result, Ok, Err}
use Rattle.refusals.specs.declared.Refusal.{Refusal}
use Rattle.refusals.specs.Refusals.{Outcome, refusal_outcome}
use Rattle.folding.specs.Folding.{counts_outcome}
use Rattle.folding.specs.declared.Counts.{Counts}

abbrev pub Reduced : Type 0
Reduced = Result Counts Refusal

abbrev pub reduced_outcome : Reduced → Outcome
reduced_outcome (Ok c) = counts_outcome c
reduced_outcome (Err r) = refusal_outcome r
