-- Only one length and one room meet the contract of what `shrink` writes, as the check of this crate reads it. Assumes nothing.
use contract.Lifetimes.{Lfts}
use borrow.Fn.World.{ArgsD, ResD}
use borrow.Fn.Kinds.{ended_of}
use denote.Triple.Clauses.{AtExit}
use mathlib.Core.Path.{◌≡◌}
use Rattle.text.proofs.Laws.{printed_one}
use Rattle.shrunk.specs.contracts.bytes as bytes
use Rattle.shrunk.proofs.bytes.Kinds as kinds
use Rattle.shrunk.proofs.bytes.Reads as reads

pub bytes_contract_one : (κs : Lfts 2) (a : ArgsD bytes.signature κs) (r₁ r₂ : ResD bytes.signature κs)
    (s₁ s₂ : AtExit (ended_of 2 kinds.ps kinds.r) κs) →
    reads.Post κs a r₁ s₁ → reads.Post κs a r₂ s₂ → (r₁ ≡ r₂) × (s₁.1.0.now ≡ s₂.1.0.now)
bytes_contract_one κs a r₁ r₂ s₁ s₂ p₁ p₂ = printed_one p₁ p₂
