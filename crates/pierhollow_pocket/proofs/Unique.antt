-- Each contract for C has one outcome: two numbers returned, with what they leave in the rooms and in the array of values, that both
-- meet what the call ensures are equal. Stated of the contracts as the check reads them.
-- Assumes nothing.
use contract.Lifetimes.{Lfts}
use borrow.Fn.World.{ArgsD, ResD}
use borrow.Fn.Kinds.{ended_of}
use denote.Triple.Clauses.{AtExit}
use mathlib.Core.Path.{◌≡◌}
use Rattle.telling.proofs.Telling.{told_one}
use Rattle.pierhollow_pocket.specs.contracts.pierhollow_pocket_check as check
use Rattle.pierhollow_pocket.proofs.pierhollow_pocket_check.Kinds as check_kinds
use Rattle.pierhollow_pocket.proofs.pierhollow_pocket_check.Reads as check_reads
use Rattle.pierhollow_pocket.specs.contracts.pierhollow_pocket_unpack as unpack
use Rattle.pierhollow_pocket.proofs.pierhollow_pocket_unpack.Kinds as unpack_kinds
use Rattle.pierhollow_pocket.proofs.pierhollow_pocket_unpack.Reads as unpack_reads
use Rattle.pierhollow_pocket.specs.contracts.pierhollow_pocket_pack as pack
use Rattle.pierhollow_pocket.proofs.pierhollow_pocket_pack.Kinds as pack_kinds
use Rattle.pierhollow_pocket.proofs.pierhollow_pocket_pack.Reads as pack_reads
use Rattle.pierhollow_pocket.specs.contracts.pierhollow_pocket_trace as trace
use Rattle.pierhollow_pocket.proofs.pierhollow_pocket_trace.Kinds as trace_kinds
use Rattle.pierhollow_pocket.proofs.pierhollow_pocket_trace.Reads as trace_reads
use Rattle.pierhollow_pocket.specs.contracts.pierhollow_pocket_reduce as reduce
use Rattle.pierhollow_pocket.proofs.pierhollow_pocket_reduce.Kinds as reduce_kinds
use Rattle.pierhollow_pocket.proofs.pierhollow_pocket_reduce.Reads as reduce_reads

pub pocket_check_to_c_one : (κs : Lfts 2) (a : ArgsD check.signature κs) (r₁ r₂ : ResD check.signature κs)
    (s₁ s₂ : AtExit (ended_of 2 check_kinds.ps check_kinds.r) κs) →
    check_reads.Post κs a r₁ s₁ → check_reads.Post κs a r₂ s₂ → (r₁ ≡ r₂) × (s₁.1.0.now ≡ s₂.1.0.now)
pocket_check_to_c_one κs a r₁ r₂ s₁ s₂ p₁ p₂ = let one = told_one p₁ p₂ in (one.0, one.2)

pub pocket_unpack_to_c_one : (κs : Lfts 4) (a : ArgsD unpack.signature κs) (r₁ r₂ : ResD unpack.signature κs)
    (s₁ s₂ : AtExit (ended_of 4 unpack_kinds.ps unpack_kinds.r) κs) →
    unpack_reads.Post κs a r₁ s₁ → unpack_reads.Post κs a r₂ s₂ → (r₁ ≡ r₂) × (s₁.1.0.now ≡ s₂.1.0.now) × (s₁.1.1.0.now ≡ s₂.1.1.0.now) × (s₁.1.1.1.0.now ≡ s₂.1.1.1.0.now)
pocket_unpack_to_c_one κs a r₁ r₂ s₁ s₂ p₁ p₂ = let one = told_one p₁ p₂ in (one.0, cc one.1, cc one.1, one.2)

pub pocket_pack_to_c_one : (κs : Lfts 4) (a : ArgsD pack.signature κs) (r₁ r₂ : ResD pack.signature κs)
    (s₁ s₂ : AtExit (ended_of 4 pack_kinds.ps pack_kinds.r) κs) →
    pack_reads.Post κs a r₁ s₁ → pack_reads.Post κs a r₂ s₂ → (r₁ ≡ r₂) × (s₁.1.1.1.1.0.now ≡ s₂.1.1.1.1.0.now) × (s₁.1.1.1.1.1.0.now ≡ s₂.1.1.1.1.1.0.now)
pocket_pack_to_c_one κs a r₁ r₂ s₁ s₂ p₁ p₂ = let one = told_one p₁ p₂ in (one.0, cc one.1, one.2)

pub pocket_trace_to_c_one : (κs : Lfts 4) (a : ArgsD trace.signature κs) (r₁ r₂ : ResD trace.signature κs)
    (s₁ s₂ : AtExit (ended_of 4 trace_kinds.ps trace_kinds.r) κs) →
    trace_reads.Post κs a r₁ s₁ → trace_reads.Post κs a r₂ s₂ → (r₁ ≡ r₂) × (s₁.1.1.0.now ≡ s₂.1.1.0.now) × (s₁.1.1.1.0.now ≡ s₂.1.1.1.0.now)
pocket_trace_to_c_one κs a r₁ r₂ s₁ s₂ p₁ p₂ = let one = told_one p₁ p₂ in (one.0, cc one.1, one.2)

pub pocket-reduce_to_c_one : (κs : Lfts 4) (a : ArgsD reduce.signature κs) (r₁ r₂ : ResD reduce.signature κs)
    (s₁ s₂ : AtExit (ended_of 4 reduce_kinds.ps reduce_kinds.r) κs) →
    reduce_reads.Post κs a r₁ s₁ → reduce_reads.Post κs a r₂ s₂ → (r₁ ≡ r₂) × (s₁.1.0.now ≡ s₂.1.0.now) × (s₁.1.1.0.now ≡ s₂.1.1.0.now) × (s₁.1.1.1.0.now ≡ s₂.1.1.1.0.now)
pocket-reduce_to_c_one κs a r₁ r₂ s₁ s₂ p₁ p₂ = let one = told_one p₁ p₂ in (one.0, cc one.1, cc one.1, one.2)
