-- Laws of Bool tests: their two cases, and tests joined by and and or.
-- Assumes nothing.
use Rattle.std.specs.Prelude.{ℕ, ◌≡◌, refl, Bool, true, false, ◌&&◌, ◌||◌, eqb}
use Rattle.std.proofs.Common.{sym, ◌∙◌, true≢false, arith, eqb-true}

-- what cannot be: two numbers that differ are equal
pub impossible {ℓ} : {A : Type ℓ} → ◌≡◌ {A = ℕ} 0 1 → A
impossible z = let no : ⊥ = omega arith in absurd no

-- a test's two cases, with the equation
pub cases_of {ℓ} : {A : Type ℓ} (b : Bool) → (b ≡ true → A) → (b ≡ false → A) → A
cases_of true f g = f refl
cases_of false f g = g refl

pub no_both {ℓ} : {A : Type ℓ} {b : Bool} → b ≡ true → b ≡ false → A
no_both p q = absurd (true≢false (sym p ∙ q))

pub and_intro : {a b : Bool} → a ≡ true → b ≡ true → (a && b) ≡ true
and_intro p q = rw (p, q)

pub and_left : (a b : Bool) → (a && b) ≡ true → a ≡ true
and_left true b e = refl
and_left false b e = e

pub and_right : (a b : Bool) → (a && b) ≡ true → b ≡ true
and_right true b e = e
and_right false b e = no_both {b = false} e refl

pub or_left : {a : Bool} (b : Bool) → a ≡ true → (a || b) ≡ true
or_left b e = rw e

pub or_right : (a : Bool) {b : Bool} → b ≡ true → (a || b) ≡ true
or_right true e = refl
or_right false e = e

pub same² : (a b c d : ℕ) → (eqb a b && eqb c d) ≡ true → (a ≡ b) × (c ≡ d)
same² a b c d e = (eqb-true a b (and_left (eqb a b) (eqb c d) e), eqb-true c d (and_right (eqb a b) (eqb c d) e))
