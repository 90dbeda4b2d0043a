-- Only one outcome meets unpack's contract, the answer and every byte of both rooms, as the check of this crate reads it. Assumes nothing.
use contract.Lifetimes.{Lfts}
use borrow.Fn.World.{ArgsD, ResD}
use borrow.Fn.Kinds.{ended_of}
use denote.RattleType.{RattleType}
use denote.Param.Laws.{Laws}
use mir.Syntax.{Dict}
use Rattle.layout.specs.declared.profile.Format.{Ghosts}
use Rattle.layout.specs.contracts.profile.Pocket as Pocket
use Rattle.layout.specs.contracts.profile.PocketFormat.TheImpl as PocketFormat
use Rattle.layout.proofs.profile.Pocket.TheLaws.{the_row_laws}
use denote.Triple.Clauses.{AtExit}
use mathlib.Core.Path.{◌≡◌, ap}
use Rattle.meaning.specs.Cases.{impossible}
use Rattle.refusals.proofs.Laws.{refusal_one, promise_one}
use Rattle.checking.proofs.Unique.{reading_one}
use Rattle.unpacking.specs.Promise.{Unpacked, unpacked_outcome}
use Rattle.std.specs.Prelude.{Ok, Err}
use Rattle.unpacking.specs.contracts.unpack as unpack
use Rattle.unpacking.proofs.unpack.Kinds as unpack_kinds
use Rattle.unpacking.proofs.unpack.Reads as unpack_reads

pub unpacked_one : (a b : Unpacked) → unpacked_outcome a ≡ unpacked_outcome b → a ≡ b
unpacked_one (Ok r) (Ok s) e = ap Ok (reading_one r s e)
unpacked_one (Err r) (Err s) e = ap Err (refusal_one r s e)
unpacked_one (Ok r) (Err s) e = impossible cc
unpacked_one (Err r) (Ok s) e = impossible cc

-- What the call promises, at a kind of file: the kind's type and its laws, its profile, and the code of its impl.
module _ (F : RattleType) (L : Laws F) (format : Ghosts F.Denot) (code : Dict) where
  pub unpack_contract_one : (κs : Lfts 4) (a : ArgsD (unpack.signature F) κs) (r₁ r₂ : ResD (unpack.signature F) κs)
      (s₁ s₂ : AtExit (ended_of 4 (unpack_kinds.ps F L) (unpack_kinds.r F L)) κs) →
      unpack_reads.Post F L format code κs a r₁ s₁ → unpack_reads.Post F L format code κs a r₂ s₂ →
      (r₁ ≡ r₂) × (s₁.1.0.now ≡ s₂.1.0.now) × (s₁.1.1.0.now ≡ s₂.1.1.0.now)
  unpack_contract_one κs a r₁ r₂ s₁ s₂ p₁ p₂ = let one = promise_one p₁ p₂ in (unpacked_one r₁ r₂ one.0, cc one.1, cc one.1)

pub pocket_unpack_contract_one : (κs : Lfts 4) (a : ArgsD (unpack.signature Pocket.the_row) κs) (r₁ r₂ : ResD (unpack.signature Pocket.the_row) κs)
    (s₁ s₂ : AtExit (ended_of 4 (unpack_kinds.ps Pocket.the_row the_row_laws) (unpack_kinds.r Pocket.the_row the_row_laws)) κs) →
    unpack_reads.Post Pocket.the_row the_row_laws PocketFormat.ghosts PocketFormat.dict κs a r₁ s₁ →
    unpack_reads.Post Pocket.the_row the_row_laws PocketFormat.ghosts PocketFormat.dict κs a r₂ s₂ →
    (r₁ ≡ r₂) × (s₁.1.0.now ≡ s₂.1.0.now) × (s₁.1.1.0.now ≡ s₂.1.1.0.now)
pocket_unpack_contract_one = unpack_contract_one Pocket.the_row the_row_laws PocketFormat.ghosts PocketFormat.dict
