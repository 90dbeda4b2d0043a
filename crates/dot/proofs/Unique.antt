-- Only one outcome meets the contracts of from_dot and to_dot, the answer and every byte of the room, as the check of this crate reads
-- them. Assumes nothing.
use contract.Lifetimes.{Lfts}
use borrow.Fn.World.{ArgsD, ResD}
use borrow.Fn.Kinds.{ended_of}
use denote.Triple.Clauses.{AtExit}
use mathlib.Core.Path.{◌≡◌, ap}
use Rattle.meaning.specs.Cases.{impossible}
use Rattle.refusals.proofs.Laws.{refusal_one, promise_one}
use Rattle.dot.specs.Promise.{Made}
use Rattle.std.specs.Prelude.{Ok, Err}
use Rattle.dot.specs.Promise.{made_outcome}
use Rattle.dot.specs.contracts.from_dot as from_dot
use Rattle.dot.proofs.from_dot.Kinds as from_dot_kinds
use Rattle.dot.proofs.from_dot.Reads as from_dot_reads
use Rattle.dot.specs.contracts.to_dot as to_dot
use Rattle.dot.proofs.to_dot.Kinds as to_dot_kinds
use Rattle.dot.proofs.to_dot.Reads as to_dot_reads

pub made_one : (a b : Made) → made_outcome a ≡ made_outcome b → a ≡ b
made_one (Ok m) (Ok n) e = ap Ok (cc e)
made_one (Err r) (Err s) e = ap Err (refusal_one r s e)
made_one (Ok m) (Err s) e = impossible cc
made_one (Err r) (Ok n) e = impossible cc

pub from_dot_contract_one : (κs : Lfts 2) (a : ArgsD from_dot.signature κs) (r₁ r₂ : ResD from_dot.signature κs)
    (s₁ s₂ : AtExit (ended_of 2 from_dot_kinds.ps from_dot_kinds.r) κs) →
    from_dot_reads.Post κs a r₁ s₁ → from_dot_reads.Post κs a r₂ s₂ →
    (r₁ ≡ r₂) × (s₁.1.0.now ≡ s₂.1.0.now)
from_dot_contract_one κs a r₁ r₂ s₁ s₂ p₁ p₂ = let one = promise_one p₁ p₂ in (made_one r₁ r₂ one.0, cc one.1)

pub to_dot_contract_one : (κs : Lfts 2) (a : ArgsD to_dot.signature κs) (r₁ r₂ : ResD to_dot.signature κs)
    (s₁ s₂ : AtExit (ended_of 2 to_dot_kinds.ps to_dot_kinds.r) κs) →
    to_dot_reads.Post κs a r₁ s₁ → to_dot_reads.Post κs a r₂ s₂ →
    (r₁ ≡ r₂) × (s₁.1.0.now ≡ s₂.1.0.now)
to_dot_contract_one κs a r₁ r₂ s₁ s₂ p₁ p₂ = let one = promise_one p₁ p₂ in (made_one r₁ r₂ one.0, cc one.1)
