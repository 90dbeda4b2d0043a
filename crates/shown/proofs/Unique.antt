-- Only one length and one room meet the contract of `trace`'s text, as the check of this crate reads it. Assumes nothing.
use contract.Lifetimes.{Lfts}
use borrow.Fn.World.{ArgsD, ResD}
use borrow.Fn.Kinds.{ended_of}
use denote.Triple.Clauses.{AtExit}
use mathlib.Core.Path.{◌≡◌}
use Rattle.text.proofs.Laws.{printed_one}
use Rattle.shown.specs.contracts.text as text
use Rattle.shown.proofs.text.Kinds as kinds
use Rattle.shown.proofs.text.Reads as reads

pub text_contract_one : (κs : Lfts 3) (a : ArgsD text.signature κs) (r₁ r₂ : ResD text.signature κs)
    (s₁ s₂ : AtExit (ended_of 3 kinds.ps kinds.r) κs) →
    reads.Post κs a r₁ s₁ → reads.Post κs a r₂ s₂ → (r₁ ≡ r₂) × (s₁.1.1.0.now ≡ s₂.1.1.0.now)
text_contract_one κs a r₁ r₂ s₁ s₂ p₁ p₂ = printed_one p₁ p₂
