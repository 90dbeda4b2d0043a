-- The trace contract has one outcome: two answers, with the bytes they leave in the room, that both meet what the call ensures are
-- equal. Stated of the contract as the check reads it.
-- Assumes nothing.
use contract.Lifetimes.{Lfts}
use borrow.Fn.World.{ArgsD, ResD}
use borrow.Fn.Kinds.{ended_of}
use denote.RattleType.{RattleType}
use denote.Param.Laws.{Laws}
use mir.Syntax.{Dict}
use Rattle.layout.specs.declared.profile.Format.{Ghosts}
use Rattle.layout.specs.contracts.profile.Pocket as Pocket
use Rattle.layout.specs.contracts.profile.PocketFormat.TheImpl as PocketFormat
use Rattle.layout.proofs.profile.Pocket.TheLaws.{the_row_laws}
use denote.Triple.Clauses.{AtExit}
use mathlib.Core.Path.{◌≡◌, refl, sym, ap}
use Rattle.meaning.specs.Cases.{impossible}
use Rattle.std.specs.Prelude.{Result, Ok, Err}
use Rattle.refusals.specs.declared.Refusal.{Refusal}
use Rattle.refusals.specs.Refusals.{refusal_outcome}
use Rattle.refusals.proofs.Laws.{refusal_one, promise_one}
use Rattle.tracing.specs.declared.Traced.{Traced}
use Rattle.tracing.specs.declared.Traced.TheVariants as traced
use Rattle.tracing.specs.Answers.{told_ride, traced_outcome}
use Rattle.tracing.specs.contracts.trace as trace
use Rattle.tracing.proofs.trace.Kinds as trace_kinds
use Rattle.tracing.proofs.trace.Reads as trace_reads

told_one : (a b : Traced) → told_ride a ≡ told_ride b → a ≡ b
told_one traced.All traced.All e = refl
told_one (traced.Stopped i) (traced.Stopped j) e = ap traced.Stopped (cc e)
told_one traced.All (traced.Stopped j) e = impossible cc
told_one (traced.Stopped i) traced.All e = impossible cc

-- a ride's outcome is no refusal's
not_refused : (a : Traced) (s : Refusal) → told_ride a ≡ refusal_outcome s → ⊥
not_refused traced.All s e = impossible cc
not_refused (traced.Stopped i) s e = impossible cc

pub traced_one : (a b : Result Traced Refusal) → traced_outcome a ≡ traced_outcome b → a ≡ b
traced_one (Ok a) (Ok b) e = ap Ok (told_one a b e)
traced_one (Err r) (Err s) e = ap Err (refusal_one r s e)
traced_one (Ok a) (Err s) e = absurd (not_refused a s e)
traced_one (Err r) (Ok b) e = absurd (not_refused b r (sym e))

-- What the call promises, at a kind of file: the kind's type and its laws, its profile, and the code of its impl.
module _ (F : RattleType) (L : Laws F) (format : Ghosts F.Denot) (code : Dict) where
  pub trace_contract_one : (κs : Lfts 4) (a : ArgsD (trace.signature F) κs) (r₁ r₂ : ResD (trace.signature F) κs)
      (s₁ s₂ : AtExit (ended_of 4 (trace_kinds.ps F L) (trace_kinds.r F L)) κs) →
      trace_reads.Post F L format code κs a r₁ s₁ → trace_reads.Post F L format code κs a r₂ s₂ → (r₁ ≡ r₂) × (s₁.1.1.0.now ≡ s₂.1.1.0.now)
  trace_contract_one κs a r₁ r₂ s₁ s₂ p₁ p₂ = let one = promise_one p₁ p₂ in (traced_one r₁ r₂ one.0, cc one.1)

pub pocket_trace_contract_one : (κs : Lfts 4) (a : ArgsD (trace.signature Pocket.the_row) κs) (r₁ r₂ : ResD (trace.signature Pocket.the_row) κs)
    (s₁ s₂ : AtExit (ended_of 4 (trace_kinds.ps Pocket.the_row the_row_laws) (trace_kinds.r Pocket.the_row the_row_laws)) κs) →
    trace_reads.Post Pocket.the_row the_row_laws PocketFormat.ghosts PocketFormat.dict κs a r₁ s₁ →
    trace_reads.Post Pocket.the_row the_row_laws PocketFormat.ghosts PocketFormat.dict κs a r₂ s₂ → (r₁ ≡ r₂) × (s₁.1.1.0.now ≡ s₂.1.1.0.now)
pocket_trace_contract_one = trace_contract_one Pocket.the_row the_row_laws PocketFormat.ghosts PocketFormat.dict
