-- What a C caller is told of an answer, that it is what is due where the call that is wrapped keeps its promise, and that it is told in one
-- way. Assumes nothing.
use Prim.Native.Nat.{ℕ, suc, ◌+◌, ◌*◌}
use mathlib.Core.Path.{◌≡◌, refl, sym, ap, ◌∙◌}
use mathlib.Core.List.{List, [], ◌∷◌}
use native.Mathlib.Omega.{arith}
use lib.ListN.{length, set}
use Rattle.refusals.specs.Refusals.{Outcome, accepted, refused, Lent, Promise}
use Rattle.telling.specs.Codes.{told_place, code_of, stored, values_after, Spoken, Told}

-- what stands before the first place stays
stored_behind : (i : ℕ) (vs : List ℕ) (x : ℕ) (xs : List ℕ) → stored (suc i) vs (x ∷ xs) ≡ x ∷ stored i vs xs
stored_behind i [] x xs = refl
stored_behind i (v ∷ vs) x xs = stored_behind (suc i) vs x (set xs i v)

-- as many values as the array is long: it holds just these
pub stored_whole : (vs xs : List ℕ) → length vs ≡ length xs → stored 0 vs xs ≡ vs
stored_whole [] [] same = refl
stored_whole [] (x ∷ xs) same = absurd (omega (arith, same))
stored_whole (v ∷ vs) [] same = absurd (omega (arith, same))
stored_whole (v ∷ vs) (x ∷ xs) same = stored_behind 0 vs v xs ∙ ap (λ (t : List ℕ). v ∷ t) (stored_whole vs xs (omega (arith, same)))

module _ {a : Outcome} (values : List ℕ) (r : ℕ) where
  pub spoken_accepted : (vs values' : List ℕ) → a ≡ accepted vs → r ≡ 0 → values' ≡ stored 0 vs values → Spoken a values r values'
  spoken_accepted vs values' e h v = (h ∙ ap code_of (sym e), v ∙ ap (λ (o : Outcome). values_after o values) (sym e))

  pub spoken_refused : (k p : ℕ) → a ≡ refused k p → r ≡ told_place p * 256 + k → Spoken a values r values
  spoken_refused k p e h = (h ∙ ap code_of (sym e), ap (λ (o : Outcome). values_after o values) (sym e))

pub told : {a due : Outcome} {rooms : List Lent} {left : List (List ℕ)} {values : List ℕ} {r : ℕ} {values' : List ℕ} →
    Promise a due rooms left → Spoken a values r values' → Told due rooms values r left values'
told {values = values} kept said = record {
  number = said.0 ∙ ap code_of kept.answer;
  rooms_after_lem = kept.rooms_after_lem;
  values_after_lem = said.1 ∙ ap (λ (o : Outcome). values_after o values) kept.answer;
}

-- the outcome that is told is the one that the call speaks of
pub told_as : {a b due : Outcome} {rooms : List Lent} {left : List (List ℕ)} {values : List ℕ} {r : ℕ} {values' : List ℕ} →
    a ≡ b → Promise b due rooms left → Spoken a values r values' → Told due rooms values r left values'
told_as same kept said = told (record { answer = same ∙ kept.answer; rooms_after_lem = kept.rooms_after_lem }) said

-- check is lent no room
pub told_alone : {a b due : Outcome} {values : List ℕ} {r : ℕ} {values' : List ℕ} →
    a ≡ b → b ≡ due → Spoken a values r values' → Told due [] values r [] values'
told_alone same kept said = told (record { answer = same ∙ kept; rooms_after_lem = refl }) said

pub told_one : {due : Outcome} {rooms : List Lent} {values : List ℕ} {r₁ r₂ : ℕ} {left₁ left₂ : List (List ℕ)} {v₁ v₂ : List ℕ} →
    Told due rooms values r₁ left₁ v₁ → Told due rooms values r₂ left₂ v₂ → (r₁ ≡ r₂) × (left₁ ≡ left₂) × (v₁ ≡ v₂)
told_one p q = (p.number ∙ sym q.number, p.rooms_after_lem ∙ sym q.rooms_after_lem, p.values_after_lem ∙ sym q.values_after_lem)
