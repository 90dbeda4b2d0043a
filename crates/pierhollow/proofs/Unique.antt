-- Each contract for C has one outcome: two numbers returned, with what they leave in the rooms and in the array of values, that both
-- meet what the call ensures are equal. Stated of the contracts as the check reads them.
-- Assumes nothing.
use contract.Lifetimes.{Lfts}
use borrow.Fn.World.{ArgsD, ResD}
use borrow.Fn.Kinds.{ended_of}
use denote.Triple.Clauses.{AtExit}
use mathlib.Core.Path.{◌≡◌}
use Rattle.telling.proofs.Telling.{told_one}
use Rattle.pierhollow.specs.contracts.pierhollow_check as check
use Rattle.pierhollow.proofs.pierhollow_check.Kinds as check_kinds
use Rattle.pierhollow.proofs.pierhollow_check.Reads as check_reads
use Rattle.pierhollow.specs.contracts.pierhollow_unpack as unpack
use Rattle.pierhollow.proofs.pierhollow_unpack.Kinds as unpack_kinds
use Rattle.pierhollow.proofs.pierhollow_unpack.Reads as unpack_reads
use Rattle.pierhollow.specs.contracts.pierhollow_pack as pack
use Rattle.pierhollow.proofs.pierhollow_pack.Kinds as pack_kinds
use Rattle.pierhollow.proofs.pierhollow_pack.Reads as pack_reads
use Rattle.pierhollow.specs.contracts.pierhollow_trace as trace
use Rattle.pierhollow.proofs.pierhollow_trace.Kinds as trace_kinds
use Rattle.pierhollow.proofs.pierhollow_trace.Reads as trace_reads
use Rattle.pierhollow.specs.contracts.pierhollow_reduce as reduce
use Rattle.pierhollow.proofs.pierhollow_reduce.Kinds as reduce_kinds
use Rattle.pierhollow.proofs.pierhollow_reduce.Reads as reduce_reads
use Rattle.pierhollow.specs.contracts.pierhollow_from_dot as from_dot
use Rattle.pierhollow.proofs.pierhollow_from_dot.Kinds as from_dot_kinds
use Rattle.pierhollow.proofs.pierhollow_from_dot.Reads as from_dot_reads
use Rattle.pierhollow.specs.contracts.pierhollow_to_dot as to_dot
use Rattle.pierhollow.proofs.pierhollow_to_dot.Kinds as to_dot_kinds
use Rattle.pierhollow.proofs.pierhollow_to_dot.Reads as to_dot_reads

pub check_to_c_one : (κs : Lfts 2) (a : ArgsD check.signature κs) (r₁ r₂ : ResD check.signature κs)
    (s₁ s₂ : AtExit (ended_of 2 check_kinds.ps check_kinds.r) κs) →
    check_reads.Post κs a r₁ s₁ → check_reads.Post κs a r₂ s₂ → (r₁ ≡ r₂) × (s₁.1.0.now ≡ s₂.1.0.now)
check_to_c_one κs a r₁ r₂ s₁ s₂ p₁ p₂ = let one = told_one p₁ p₂ in (one.0, one.2)

pub unpack_to_c_one : (κs : Lfts 4) (a : ArgsD unpack.signature κs) (r₁ r₂ : ResD unpack.signature κs)
    (s₁ s₂ : AtExit (ended_of 4 unpack_kinds.ps unpack_kinds.r) κs) →
    unpack_reads.Post κs a r₁ s₁ → unpack_reads.Post κs a r₂ s₂ → (r₁ ≡ r₂) × (s₁.1.0.now ≡ s₂.1.0.now) × (s₁.1.1.0.now ≡ s₂.1.1.0.now) × (s₁.1.1.1.0.now ≡ s₂.1.1.1.0.now)
unpack_to_c_one κs a r₁ r₂ s₁ s₂ p₁ p₂ = let one = told_one p₁ p₂ in (one.0, cc one.1, cc one.1, one.2)

pub pack_to_c_one : (κs : Lfts 4) (a : ArgsD pack.signature κs) (r₁ r₂ : ResD pack.signature κs)
    (s₁ s₂ : AtExit (ended_of 4 pack_kinds.ps pack_kinds.r) κs) →
    pack_reads.Post κs a r₁ s₁ → pack_reads.Post κs a r₂ s₂ → (r₁ ≡ r₂) × (s₁.1.1.1.1.0.now ≡ s₂.1.1.1.1.0.now) × (s₁.1.1.1.1.1.0.now ≡ s₂.1.1.1.1.1.0.now)
pack_to_c_one κs a r₁ r₂ s₁ s₂ p₁ p₂ = let one = told_one p₁ p₂ in (one.0, cc one.1, one.2)

pub trace_to_c_one : (κs : Lfts 4) (a : ArgsD trace.signature κs) (r₁ r₂ : ResD trace.signature κs)
    (s₁ s₂ : AtExit (ended_of 4 trace_kinds.ps trace_kinds.r) κs) →
    trace_reads.Post κs a r₁ s₁ → trace_reads.Post κs a r₂ s₂ → (r₁ ≡ r₂) × (s₁.1.1.0.now ≡ s₂.1.1.0.now) × (s₁.1.1.1.0.now ≡ s₂.1.1.1.0.now)
trace_to_c_one κs a r₁ r₂ s₁ s₂ p₁ p₂ = let one = told_one p₁ p₂ in (one.0, cc one.1, one.2)

pub reduce_to_c_one : (κs : Lfts 4) (a : ArgsD reduce.signature κs) (r₁ r₂ : ResD reduce.signature κs)
    (s₁ s₂ : AtExit (ended_of 4 reduce_kinds.ps reduce_kinds.r) κs) →
    reduce_reads.Post κs a r₁ s₁ → reduce_reads.Post κs a r₂ s₂ → (r₁ ≡ r₂) × (s₁.1.0.now ≡ s₂.1.0.now) × (s₁.1.1.0.now ≡ s₂.1.1.0.now) × (s₁.1.1.1.0.now ≡ s₂.1.1.1.0.now)
reduce_to_c_one κs a r₁ r₂ s₁ s₂ p₁ p₂ = let one = told_one p₁ p₂ in (one.0, cc one.1, cc one.1, one.2)

pub from_dot_to_c_one : (κs : Lfts 3) (a : ArgsD from_dot.signature κs) (r₁ r₂ : ResD from_dot.signature κs)
    (s₁ s₂ : AtExit (ended_of 3 from_dot_kinds.ps from_dot_kinds.r) κs) →
    from_dot_reads.Post κs a r₁ s₁ → from_dot_reads.Post κs a r₂ s₂ → (r₁ ≡ r₂) × (s₁.1.0.now ≡ s₂.1.0.now) × (s₁.1.1.0.now ≡ s₂.1.1.0.now)
from_dot_to_c_one κs a r₁ r₂ s₁ s₂ p₁ p₂ = let one = told_one p₁ p₂ in (one.0, cc one.1, one.2)

pub to_dot_to_c_one : (κs : Lfts 3) (a : ArgsD to_dot.signature κs) (r₁ r₂ : ResD to_dot.signature κs)
    (s₁ s₂ : AtExit (ended_of 3 to_dot_kinds.ps to_dot_kinds.r) κs) →
    to_dot_reads.Post κs a r₁ s₁ → to_dot_reads.Post κs a r₂ s₂ → (r₁ ≡ r₂) × (s₁.1.0.now ≡ s₂.1.0.now) × (s₁.1.1.0.now ≡ s₂.1.1.0.now)
to_dot_to_c_one κs a r₁ r₂ s₁ s₂ p₁ p₂ = let one = told_one p₁ p₂ in (one.0, cc one.1, one.2)
