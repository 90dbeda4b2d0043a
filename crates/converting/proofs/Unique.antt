-- Only one outcome meets the contract of a conversion, the answer and every byte of the room, as the check of this crate reads it.
-- Assumes nothing.
use contract.Lifetimes.{Lfts}
use borrow.Fn.World.{ArgsD, ResD}
use borrow.Fn.Kinds.{ended_of}
use denote.Triple.Clauses.{AtExit}
use denote.RattleType.{RattleType}
use denote.Param.Laws.{Laws}
use mathlib.Core.Path.{◌≡◌}
use mir.Syntax.{Dict}
use Rattle.refusals.proofs.Laws.{promise_one}
use Rattle.layout.specs.declared.profile.Format.{Ghosts}
use Rattle.layout.specs.contracts.profile.Large as Large
use Rattle.layout.specs.contracts.profile.LargeFormat.TheImpl as LargeFormat
use Rattle.layout.proofs.profile.Large.TheLaws.{the_row_laws as large_laws}
use Rattle.layout.specs.contracts.profile.Pocket as Pocket
use Rattle.layout.specs.contracts.profile.PocketFormat.TheImpl as PocketFormat
use Rattle.layout.proofs.profile.Pocket.TheLaws.{the_row_laws as pocket_laws}
use Rattle.packing.proofs.Unique.{packed_one}
use Rattle.converting.specs.declared.Target as target
use Rattle.converting.specs.contracts.LargeTarget.TheImpl as LargeTarget
use Rattle.converting.specs.contracts.PocketTarget.TheImpl as PocketTarget
use Rattle.converting.specs.contracts.to as to
use Rattle.converting.proofs.to.Kinds as to_kinds
use Rattle.converting.proofs.to.Reads as to_reads

-- What the call promises, into a kind of file and from the other one: the two kinds' types and their laws, the profiles, and the code of
-- the impls.
module _ (T From : RattleType) (L : Laws T) (M : Laws From) (target : target.Ghosts T.Denot From.Denot) (code : Dict)
    (format : Ghosts T.Denot) (format_code : Dict) (from : Ghosts From.Denot) (from_code : Dict) where
  pub to_contract_one : (κs : Lfts 4) (a : ArgsD (to.signature T From) κs) (r₁ r₂ : ResD (to.signature T From) κs)
      (s₁ s₂ : AtExit (ended_of 4 (to_kinds.ps T From L M) (to_kinds.r T From L M)) κs) →
      to_reads.Post T From L M target code format format_code from from_code κs a r₁ s₁ →
      to_reads.Post T From L M target code format format_code from from_code κs a r₂ s₂ → (r₁ ≡ r₂) × (s₁.1.0.now ≡ s₂.1.0.now)
  to_contract_one κs a r₁ r₂ s₁ s₂ p₁ p₂ = let one = promise_one p₁ p₂ in (packed_one r₁ r₂ one.0, cc one.1)

pub to_large_contract_one : (κs : Lfts 4) (a : ArgsD (to.signature Large.the_row Pocket.the_row) κs) (r₁ r₂ : ResD (to.signature Large.the_row Pocket.the_row) κs)
    (s₁ s₂ : AtExit
    (ended_of 4 (to_kinds.ps Large.the_row Pocket.the_row large_laws pocket_laws) (to_kinds.r Large.the_row Pocket.the_row large_laws pocket_laws)) κs) →
    to_reads.Post Large.the_row Pocket.the_row large_laws pocket_laws LargeTarget.ghosts LargeTarget.dict
    LargeFormat.ghosts LargeFormat.dict PocketFormat.ghosts PocketFormat.dict κs a r₁ s₁ →
    to_reads.Post Large.the_row Pocket.the_row large_laws pocket_laws LargeTarget.ghosts LargeTarget.dict
    LargeFormat.ghosts LargeFormat.dict PocketFormat.ghosts PocketFormat.dict κs a r₂ s₂ →
    (r₁ ≡ r₂) × (s₁.1.0.now ≡ s₂.1.0.now)
to_large_contract_one =
    to_contract_one Large.the_row Pocket.the_row large_laws pocket_laws LargeTarget.ghosts LargeTarget.dict
    LargeFormat.ghosts LargeFormat.dict PocketFormat.ghosts PocketFormat.dict

pub to_pocket_contract_one : (κs : Lfts 4) (a : ArgsD (to.signature Pocket.the_row Large.the_row) κs) (r₁ r₂ : ResD (to.signature Pocket.the_row Large.the_row) κs)
    (s₁ s₂ : AtExit
    (ended_of 4 (to_kinds.ps Pocket.the_row Large.the_row pocket_laws large_laws) (to_kinds.r Pocket.the_row Large.the_row pocket_laws large_laws)) κs) →
    to_reads.Post Pocket.the_row Large.the_row pocket_laws large_laws PocketTarget.ghosts PocketTarget.dict
    PocketFormat.ghosts PocketFormat.dict LargeFormat.ghosts LargeFormat.dict κs a r₁ s₁ →
    to_reads.Post Pocket.the_row Large.the_row pocket_laws large_laws PocketTarget.ghosts PocketTarget.dict
    PocketFormat.ghosts PocketFormat.dict LargeFormat.ghosts LargeFormat.dict κs a r₂ s₂ →
    (r₁ ≡ r₂) × (s₁.1.0.now ≡ s₂.1.0.now)
to_pocket_contract_one =
    to_contract_one Pocket.the_row Large.the_row pocket_laws large_laws PocketTarget.ghosts PocketTarget.dict
    PocketFormat.ghosts PocketFormat.dict LargeFormat.ghosts LargeFormat.dict
