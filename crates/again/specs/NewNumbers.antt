-- States that become fewer: their new numbers, and searches over the states and over the new numbers. Assumes nothing.
use Rattle.std.specs.Prelude.{ℕ, ◌≤◌, ◌<◌, ◌≡◌, Bool, true, eqb}
use Rattle.std.proofs.Common.{sym, ap, ◌∙◌, arith, eqb-true}
use Rattle.std.proofs.lemmas.Bool.{eqb-false}
use Rattle.meaning.specs.Search.{least}
use Rattle.meaning.specs.Cases.{cases_of, no_both}
use Rattle.meaning.specs.SearchLaws.{least_le, least_ok, least_none, least_is, least_empty}

-- The states below n that take part become k: `new s` is the new number of s, `old i` the smallest state with the new number i,
-- and these ascend.
pub record NewNumbers (n k : ℕ) (live : ℕ → Bool) (new old : ℕ → ℕ) : Type 0 where
  pub live_lt : (s : ℕ) → live s ≡ true → s < n
  pub new_lt : (s : ℕ) → live s ≡ true → new s < k
  pub old_live : (i : ℕ) → i < k → live (old i) ≡ true
  pub new_old : (i : ℕ) → i < k → new (old i) ≡ i
  pub old_new : (s : ℕ) → live s ≡ true → old (new s) ≤ s
  pub rising : (i j : ℕ) → i < j → j < k → old i < old j

module _ {n k : ℕ} {live : ℕ → Bool} {new old : ℕ → ℕ} (numbers : NewNumbers n k live new old) where
  pub old_lt : (i : ℕ) → i < k → old i < n
  old_lt i h = numbers.live_lt (old i) (numbers.old_live i h)

  pub old_one : (i j : ℕ) → i < k → j < k → old i ≡ old j → i ≡ j
  old_one i j hi hj e = sym (numbers.new_old i hi) ∙ ap new e ∙ numbers.new_old j hj

  pub old_mono : (i j : ℕ) → i ≤ j → j < k → old i ≤ old j
  old_mono i j h l = cases_of (eqb i j)
      (λ q. omega (arith, ap old (eqb-true i j q)))
      (λ q. omega (arith, numbers.rising i j (omega (arith, eqb-false i j q)) l))

  -- Two searches that find the same new numbers, of states that take part: what the one finds is the smallest state of what the
  -- other finds.
  module _ (p q : ℕ → Bool) (only : (s : ℕ) → s < n → p s ≡ true → live s ≡ true)
      (up : (i : ℕ) → i < k → q i ≡ true → p (old i) ≡ true)
      (down : (s : ℕ) → live s ≡ true → p s ≡ true → q (new s) ≡ true) where
    pub least_old : least q k < k → least p n ≡ old (least q k)
    least_old h =
        let i = least q k in
        let o = old_lt i h in
        least_is p n (old i) o (up i h (least_ok q k h)) (λ s l. cases_of (p s)
        (λ e. let w = only s (omega arith) e in
        let most = old_mono i (new s) (least_le q k (new s) (down s w e)) (numbers.new_lt s w) in
        absurd (omega (arith, numbers.old_new s w)))
        (λ e. e))

    pub least_neither : k ≤ least q k → n ≤ least p n
    least_neither h = least_empty p n (λ s l. cases_of (p s)
        (λ e. let w = only s l e in no_both (down s w e) (least_none q k (new s) h (numbers.new_lt s w)))
        (λ e. e))
