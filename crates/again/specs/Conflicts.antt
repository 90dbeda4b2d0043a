-- What a conflict of two states is: a label at which their edges lead to different classes. Assumes nothing.
use Rattle.std.specs.Prelude.{ℕ, ◌<◌, ◌≡◌, refl, true, false, List, eqb}
use Rattle.std.proofs.Common.{sym, ap, ◌∙◌}
use Rattle.std.proofs.Math.Option.{Option, none, some}
use borrow.Author.Tests.{eqb-false, ne_eqb, not-true}
use Rattle.meaning.specs.Search.{at}
use Rattle.meaning.specs.Cases.{no_both}
use Rattle.meaning.specs.SearchLaws.{any_intro, any_elim}
use Rattle.meaning.specs.Reduced.{apart, conflict}
use Rattle.meaning.proofs.Traced.{some_inj}

pub record Parting (next : ℕ → ℕ → Option ℕ) (m : ℕ) (P : List ℕ) (s t : ℕ) : Type 0 where
  pub label : ℕ
  pub label_lt : label < m
  pub to : ℕ
  pub to' : ℕ
  pub leads : next s label ≡ some to
  pub leads' : next t label ≡ some to'
  pub differ : at P to ≡ at P to' → ⊥

apart_some : (P : List ℕ) (o o' : Option ℕ) → apart P o o' ≡ true
    → (a : ℕ) × (b : ℕ) × (o ≡ some a) × (o' ≡ some b) × (at P a ≡ at P b → ⊥)
unfolding apart
apart_some P none o' e = no_both {b = false} e refl
apart_some P (some a) none e = no_both {b = false} e refl
apart_some P (some a) (some b) e = (a, b, refl, refl, eqb-false (at P a) (at P b) (not-true (eqb (at P a) (at P b)) e))

module _ (next : ℕ → ℕ → Option ℕ) (m : ℕ) (P : List ℕ) where
  pub parting : (s t : ℕ) → conflict next m P s t ≡ true → Parting next m P s t
  unfolding conflict
  parting s t e =
      let r = any_elim (λ y. apart P (next s y) (next t y)) m e in
      let a = apart_some P (next s r.0) (next t r.0) r.2 in
      record { label = r.0; label_lt = r.1; to = a.0; to' = a.1; leads = a.2; leads' = a.3; differ = a.4 }

  pub conflicts : (s t : ℕ) → Parting next m P s t → conflict next m P s t ≡ true
  unfolding conflict apart
  conflicts s t p = any_intro (λ y. apart P (next s y) (next t y)) m p.label p.label_lt
      (rw (p.leads, p.leads', ne_eqb (at P p.to) (at P p.to') p.differ))

  pub conflict_turn : (s t : ℕ) → conflict next m P s t ≡ true → conflict next m P t s ≡ true
  conflict_turn s t e =
      let p = parting s t e in
      conflicts t s (record {
        label = p.label;
        label_lt = p.label_lt;
        to = p.to';
        to' = p.to;
        leads = p.leads';
        leads' = p.leads;
        differ = λ o. p.differ (sym o);
      })

  pub conflict_never : (s : ℕ) → conflict next m P s s ≡ true → ⊥
  conflict_never s e = let p = parting s s e in p.differ (ap (at P) (some_inj (sym p.leads ∙ p.leads')))
