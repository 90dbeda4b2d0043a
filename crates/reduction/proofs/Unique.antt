-- The reduce contract has one outcome: two answers, with the bytes and entries they leave in the rooms, that both meet what the call
-- ensures are equal, for every kind of file. Stated of the contract as the check reads it.
-- Assumes nothing.
use contract.Lifetimes.{Lfts}
use borrow.Fn.World.{ArgsD, ResD}
use borrow.Fn.Kinds.{ended_of}
use denote.Triple.Clauses.{AtExit}
use denote.RattleType.{RattleType}
use denote.Param.Laws.{Laws}
use mir.Syntax.{Dict}
use mathlib.Core.Path.{◌≡◌, ap}
use Rattle.layout.specs.declared.profile.Format.{Ghosts}
use Rattle.layout.specs.contracts.profile.Pocket as Pocket
use Rattle.layout.specs.contracts.profile.PocketFormat.TheImpl as PocketFormat
use Rattle.layout.proofs.profile.Pocket.TheLaws.{the_row_laws}
use Rattle.meaning.specs.Cases.{impossible}
use Rattle.refusals.proofs.Laws.{refusal_one, promise_one}
use Rattle.folding.specs.declared.Counts.{Counts}
use Rattle.reduction.specs.Answers.{Reduced}
use Rattle.std.specs.Prelude.{Ok, Err}
use Rattle.folding.specs.Folding.{counts_outcome}
use Rattle.reduction.specs.Answers.{reduced_outcome}
use Rattle.reduction.specs.contracts.reduce as reduce
use Rattle.reduction.proofs.reduce.Kinds as reduce_kinds
use Rattle.reduction.proofs.reduce.Reads as reduce_reads

counts_one : (a b : Counts) → counts_outcome a ≡ counts_outcome b → a ≡ b
counts_one a b e =
    let s : a.states ≡ b.states = cc in
    let c : a.colours ≡ b.colours = cc in
    let r : a.rounds ≡ b.rounds = cc in
    let l : a.length ≡ b.length = cc in
    λ i. record { states = s i; colours = c i; rounds = r i; length = l i }

pub reduced_one : (a b : Reduced) → reduced_outcome a ≡ reduced_outcome b → a ≡ b
reduced_one (Ok a) (Ok b) e = ap Ok (counts_one a b e)
reduced_one (Err r) (Err s) e = ap Err (refusal_one r s e)
reduced_one (Ok a) (Err s) e = impossible cc
reduced_one (Err r) (Ok b) e = impossible cc

-- What the call promises, at a kind of file: the kind's type and its laws, its profile, and the code of its impl.
module _ (F : RattleType) (L : Laws F) (format : Ghosts F.Denot) (code : Dict) where
  pub reduce_contract_one : (κs : Lfts 4) (a : ArgsD (reduce.signature F) κs) (r₁ r₂ : ResD (reduce.signature F) κs)
      (s₁ s₂ : AtExit (ended_of 4 (reduce_kinds.ps F L) (reduce_kinds.r F L)) κs) →
      reduce_reads.Post F L format code κs a r₁ s₁ → reduce_reads.Post F L format code κs a r₂ s₂ →
      (r₁ ≡ r₂) × (s₁.1.0.now ≡ s₂.1.0.now) × (s₁.1.1.0.now ≡ s₂.1.1.0.now)
  reduce_contract_one κs a r₁ r₂ s₁ s₂ p₁ p₂ = let one = promise_one p₁ p₂ in (reduced_one r₁ r₂ one.0, cc one.1, cc one.1)

pub pocket-reduce_contract_one : (κs : Lfts 4) (a : ArgsD (reduce.signature Pocket.the_row) κs) (r₁ r₂ : ResD (reduce.signature Pocket.the_row) κs)
    (s₁ s₂ : AtExit (ended_of 4 (reduce_kinds.ps Pocket.the_row the_row_laws) (reduce_kinds.r Pocket.the_row the_row_laws)) κs) →
    reduce_reads.Post Pocket.the_row the_row_laws PocketFormat.ghosts PocketFormat.dict κs a r₁ s₁ →
    reduce_reads.Post Pocket.the_row the_row_laws PocketFormat.ghosts PocketFormat.dict κs a r₂ s₂ →
    (r₁ ≡ r₂) × (s₁.1.0.now ≡ s₂.1.0.now) × (s₁.1.1.0.now ≡ s₂.1.1.0.now)
pocket-reduce_contract_one = reduce_contract_one Pocket.the_row the_row_laws PocketFormat.ghosts PocketFormat.dict
