-- How many numbers are in a set: as many as pass its test. Assumes nothing.
use Prim.Native.Nat.{ℕ, zero, suc, ◌+◌, ◌/◌, ◌%◌, ◌^◌, ◌<◌}
use mathlib.Core.Path.{◌≡◌, refl, sym, ap, ap₂, ◌∙◌}
use mathlib.Core.Bool.{Bool, true, false}
use native.Mathlib.Nat.{pow-suc}
use native.Mathlib.Omega.{arith}
use lib.Count.{ones, ones_step, ones-le}
use Rattle.meaning.specs.Search.{count, bit}
use Rattle.meaning.specs.SearchLaws.{count_cong}
use Rattle.sets.specs.Sets.{holds}
use Rattle.sets.proofs.Laws.{holds-first, holds_later}

count-first : (p : ℕ → Bool) (n : ℕ) → count p (suc n) ≡ bit (p 0) + count (λ i. p (suc i)) n
unfolding count
count-first p zero = omega arith
count-first p (suc n) = ap (λ (k : ℕ). k + bit (p (suc n))) (count-first p n) ∙ omega arith

pub holds-count : (w x : ℕ) → x < 2 ^ w → ones x ≡ count (holds x) w
unfolding count
holds-count zero x h = let no_ones : ones 0 ≡ 0 = omega (arith, ones-le 0 0 (omega arith)) in ap ones none ∙ no_ones
  where
    none : x ≡ 0
    none = omega arith
holds-count (suc w) x h =
    ones_step x
    ∙ ap₂ (λ (a b : ℕ). a + b) (digit (x % 2) refl) (holds-count w (x / 2) (omega (arith, pow-suc 2 w)) ∙ count_cong (holds (x / 2)) (λ i. holds x (suc i)) w (λ i l. sym (holds_later x i)))
    ∙ sym (count-first (holds x) w)
  where
    digit : (r : ℕ) → x % 2 ≡ r → r ≡ bit (holds x 0)
    digit zero e = let h : holds x 0 ≡ false = holds-first x ∙ rw e in rw h
    digit (suc zero) e = let h : holds x 0 ≡ true = holds-first x ∙ rw e in rw h
    digit (suc (suc r)) e = absurd (omega arith)
