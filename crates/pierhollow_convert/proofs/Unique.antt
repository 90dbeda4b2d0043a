-- Each contract for C has one outcome: two numbers returned, with what they leave in the rooms and in the array of values, that both
-- meet what the call ensures are equal. Stated of the contracts as the check reads them.
-- Assumes nothing.
use contract.Lifetimes.{Lfts}
use borrow.Fn.World.{ArgsD, ResD}
use borrow.Fn.Kinds.{ended_of}
use denote.Triple.Clauses.{AtExit}
use mathlib.Core.Path.{◌≡◌}
use Rattle.telling.proofs.Telling.{told_one}
use Rattle.pierhollow_convert.specs.contracts.pierhollow_to_large as to_large
use Rattle.pierhollow_convert.proofs.pierhollow_to_large.Kinds as to_large_kinds
use Rattle.pierhollow_convert.proofs.pierhollow_to_large.Reads as to_large_reads
use Rattle.pierhollow_convert.specs.contracts.pierhollow_to_pocket as to_pocket
use Rattle.pierhollow_convert.proofs.pierhollow_to_pocket.Kinds as to_pocket_kinds
use Rattle.pierhollow_convert.proofs.pierhollow_to_pocket.Reads as to_pocket_reads

pub to_large_to_c_one : (κs : Lfts 3) (a : ArgsD to_large.signature κs) (r₁ r₂ : ResD to_large.signature κs)
    (s₁ s₂ : AtExit (ended_of 3 to_large_kinds.ps to_large_kinds.r) κs) →
    to_large_reads.Post κs a r₁ s₁ → to_large_reads.Post κs a r₂ s₂ → (r₁ ≡ r₂) × (s₁.1.0.now ≡ s₂.1.0.now) × (s₁.1.1.0.now ≡ s₂.1.1.0.now)
to_large_to_c_one κs a r₁ r₂ s₁ s₂ p₁ p₂ = let one = told_one p₁ p₂ in (one.0, cc one.1, one.2)

pub to_pocket_to_c_one : (κs : Lfts 3) (a : ArgsD to_pocket.signature κs) (r₁ r₂ : ResD to_pocket.signature κs)
    (s₁ s₂ : AtExit (ended_of 3 to_pocket_kinds.ps to_pocket_kinds.r) κs) →
    to_pocket_reads.Post κs a r₁ s₁ → to_pocket_reads.Post κs a r₂ s₂ → (r₁ ≡ r₂) × (s₁.1.0.now ≡ s₂.1.0.now) × (s₁.1.1.0.now ≡ s₂.1.1.0.now)
to_pocket_to_c_one κs a r₁ r₂ s₁ s₂ p₁ p₂ = let one = told_one p₁ p₂ in (one.0, cc one.1, one.2)
