-- Only one outcome meets pack's contract, the answer and every byte of the room, of every kind of file, as the check of this crate
-- reads it. Assumes nothing.
use contract.Lifetimes.{Lfts}
use borrow.Fn.World.{ArgsD, ResD}
use borrow.Fn.Kinds.{ended_of}
use denote.Triple.Clauses.{AtExit}
use denote.RattleType.{RattleType}
use denote.Param.Laws.{Laws}
use mir.Syntax.{Dict}
use Rattle.layout.specs.declared.profile.Format.{Ghosts}
use Rattle.layout.specs.contracts.profile.Pocket as Pocket
use Rattle.layout.specs.contracts.profile.PocketFormat.TheImpl as PocketFormat
use Rattle.layout.proofs.profile.Pocket.TheLaws.{the_row_laws}
use mathlib.Core.Path.{◌≡◌, ap}
use Rattle.meaning.specs.Cases.{impossible}
use Rattle.refusals.proofs.Laws.{refusal_one, promise_one}
use Rattle.packing.specs.Promise.{Packed}
use Rattle.std.specs.Prelude.{Ok, Err}
use Rattle.packing.specs.Promise.{packed_outcome}
use Rattle.packing.specs.contracts.pack as pack
use Rattle.packing.proofs.pack.Kinds as pack_kinds
use Rattle.packing.proofs.pack.Reads as pack_reads

pub packed_one : (a b : Packed) → packed_outcome a ≡ packed_outcome b → a ≡ b
packed_one (Ok m) (Ok n) e = ap Ok (cc e)
packed_one (Err r) (Err s) e = ap Err (refusal_one r s e)
packed_one (Ok m) (Err s) e = impossible cc
packed_one (Err r) (Ok n) e = impossible cc

-- What the call promises, at a kind of file: the kind's type and its laws, its profile, and the code of its impl.
module _ (F : RattleType) (L : Laws F) (format : Ghosts F.Denot) (code : Dict) where
  pub pack_contract_one : (κs : Lfts 4) (a : ArgsD (pack.signature F) κs) (r₁ r₂ : ResD (pack.signature F) κs)
      (s₁ s₂ : AtExit (ended_of 4 (pack_kinds.ps F L) (pack_kinds.r F L)) κs) →
      pack_reads.Post F L format code κs a r₁ s₁ → pack_reads.Post F L format code κs a r₂ s₂ →
      (r₁ ≡ r₂) × (s₁.1.1.1.1.0.now ≡ s₂.1.1.1.1.0.now)
  pack_contract_one κs a r₁ r₂ s₁ s₂ p₁ p₂ = let one = promise_one p₁ p₂ in (packed_one r₁ r₂ one.0, cc one.1)

pub pocket_pack_contract_one : (κs : Lfts 4) (a : ArgsD (pack.signature Pocket.the_row) κs) (r₁ r₂ : ResD (pack.signature Pocket.the_row) κs)
    (s₁ s₂ : AtExit (ended_of 4 (pack_kinds.ps Pocket.the_row the_row_laws) (pack_kinds.r Pocket.the_row the_row_laws)) κs) →
    pack_reads.Post Pocket.the_row the_row_laws PocketFormat.ghosts PocketFormat.dict κs a r₁ s₁ →
    pack_reads.Post Pocket.the_row the_row_laws PocketFormat.ghosts PocketFormat.dict κs a r₂ s₂ →
    (r₁ ≡ r₂) × (s₁.1.1.1.1.0.now ≡ s₂.1.1.1.1.0.now)
pocket_pack_contract_one = pack_contract_one Pocket.the_row the_row_laws PocketFormat.ghosts PocketFormat.dict
