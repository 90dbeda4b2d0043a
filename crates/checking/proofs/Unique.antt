-- Only one answer meets the check call's contract, of every kind of file, as the check of this crate reads it. Assumes nothing.
use mathlib.Core.Path.{◌≡◌, sym, ap, ◌∙◌}
use Prim.Native.Nat.{ℕ}
use contract.Lifetimes.{Lfts}
use borrow.Fn.World.{ArgsD, ResD}
use denote.Triple.Clauses.{AtExit}
use borrow.Fn.Kinds.{ended_of}
use denote.RattleType.{RattleType}
use denote.Param.Laws.{Laws}
use mir.Syntax.{Dict}
use Rattle.layout.specs.declared.profile.Format.{Ghosts}
use Rattle.layout.specs.contracts.profile.Pocket as Pocket
use Rattle.layout.specs.contracts.profile.PocketFormat.TheImpl as PocketFormat
use Rattle.layout.proofs.profile.Pocket.TheLaws.{the_row_laws}
use Rattle.meaning.specs.Cases.{impossible}
use Rattle.refusals.proofs.Laws.{refusal_one}
use Rattle.layout.specs.declared.Reading.{Reading}
use Rattle.files.specs.Files.{reading_outcome}
use Rattle.checking.specs.Promise.{Checked, checked_outcome}
use Rattle.std.specs.Prelude.{Ok, Err}
use Rattle.checking.specs.contracts.check as check
use Rattle.checking.proofs.check.Kinds as check_kinds
use Rattle.checking.proofs.check.Reads as check_reads

pub reading_one : (a b : Reading) → reading_outcome a ≡ reading_outcome b → a ≡ b
reading_one a b e =
    let n : a.states ≡ b.states = cc in
    let m : a.labels ≡ b.labels = cc in
    let s : a.start ≡ b.start = cc in
    let k : a.edges ≡ b.edges = cc in
    ap (λ (x : ℕ). record { states = x; labels = a.labels; start = a.start; edges = a.edges }) n
    ∙ ap (λ (x : ℕ). record { states = b.states; labels = x; start = a.start; edges = a.edges }) m
    ∙ ap (λ (x : ℕ). record { states = b.states; labels = b.labels; start = x; edges = a.edges }) s
    ∙ ap (λ (x : ℕ). record { states = b.states; labels = b.labels; start = b.start; edges = x }) k

pub checked_one : (a b : Checked) → checked_outcome a ≡ checked_outcome b → a ≡ b
checked_one (Ok r) (Ok s) e = ap Ok (reading_one r s e)
checked_one (Err r) (Err s) e = ap Err (refusal_one r s e)
checked_one (Ok r) (Err s) e = impossible cc
checked_one (Err r) (Ok s) e = impossible cc

-- What the call promises, at a kind of file: the kind's type and its laws, its profile, and the code of its impl.
module _ (F : RattleType) (L : Laws F) (format : Ghosts F.Denot) (code : Dict) where
  pub check_contract_one : (κs : Lfts 2) (a : ArgsD (check.signature F) κs) (r₁ r₂ : ResD (check.signature F) κs)
      (s₁ s₂ : AtExit (ended_of 2 (check_kinds.ps F L) (check_kinds.r F L)) κs) →
      check_reads.Post F L format code κs a r₁ s₁ → check_reads.Post F L format code κs a r₂ s₂ → r₁ ≡ r₂
  check_contract_one κs a r₁ r₂ s₁ s₂ p₁ p₂ = checked_one r₁ r₂ (p₁ ∙ sym p₂)

pub pocket_check_contract_one : (κs : Lfts 2) (a : ArgsD (check.signature Pocket.the_row) κs) (r₁ r₂ : ResD (check.signature Pocket.the_row) κs)
    (s₁ s₂ : AtExit (ended_of 2 (check_kinds.ps Pocket.the_row the_row_laws) (check_kinds.r Pocket.the_row the_row_laws)) κs) →
    check_reads.Post Pocket.the_row the_row_laws PocketFormat.ghosts PocketFormat.dict κs a r₁ s₁ →
    check_reads.Post Pocket.the_row the_row_laws PocketFormat.ghosts PocketFormat.dict κs a r₂ s₂ → r₁ ≡ r₂
pocket_check_contract_one = check_contract_one Pocket.the_row the_row_laws PocketFormat.ghosts PocketFormat.dict
