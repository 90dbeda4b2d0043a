-- Laws of what is written: the values with zeros behind them, and of a refusal zeros alone. Assumes nothing.
use Rattle.std.specs.Prelude.{ℕ, zero, suc, List, [], ◌∷◌, ◌++◌, ◌≡◌, ◌≤◌, length, drop, replicate}
use mathlib.Core.Path.{refl, ap}
use native.Mathlib.Omega.{arith}
use Rattle.calls.specs.Written.{counted}

pub counted_all : (k : ℕ) (vs : List ℕ) → length vs ≤ k → vs ++ drop (length vs) (replicate k 0) ≡ counted k vs
counted_all zero [] e = refl
counted_all zero (v ∷ vs) e = absurd (omega (arith, e))
counted_all (suc k) [] e = ap (λ (t : List ℕ). 0 ∷ t) (counted_all k [] (omega arith))
counted_all (suc k) (v ∷ vs) e = ap (λ (t : List ℕ). v ∷ t) (counted_all k vs (omega (arith, e)))

pub counted_zeros : (k n : ℕ) → counted k (replicate n 0) ≡ replicate k 0
counted_zeros zero n = refl
counted_zeros (suc k) zero = ap (λ (t : List ℕ). 0 ∷ t) (counted_zeros k zero)
counted_zeros (suc k) (suc n) = ap (λ (t : List ℕ). 0 ∷ t) (counted_zeros k n)
