-- Laws of sets in a word, by the digits of a number, lowest first. Assumes nothing.
use Prim.Native.Nat.{ℕ, zero, suc, ◌-◌, ◌/◌, ◌%◌, ◌^◌, ◌≤◌, ◌<◌}
use mathlib.Core.Path.{◌≡◌, refl, sym, ap, ◌∙◌}
use mathlib.Core.Bool.{Bool, true, false, not, ◌&&◌, ◌||◌}
use native.Mathlib.Nat.{pow-suc, pow-succ', div-one, div-div-eq-div-mul, div-eq_of_lt}
use native.Mathlib.Decide.{dec_lt, ℕ_discrete}
use native.Mathlib.Omega.{arith}
use lib.Bits.{bit_and, bit_or, bit_xor, and_shr, and_mod, or_shr, or_mod, xor_shr, xor_mod}
use lib.Count.{count_trailing_zeros, under}
use lib.Dec.{eqb}
use lib.Pow.{pow_pos}
use borrow.Author.Tests.{eqb-true, eq-eqb, ne_eqb}
use Rattle.sets.specs.Sets.{holds, Lowest}

-- what cannot be: a test that is true and false
never {ℓ} : {A : Type ℓ} {b : Bool} → b ≡ true → b ≡ false → A
never p q = let z : ◌≡◌ {A = ℕ} 0 1 = cc in absurd (omega arith)

-- ---- digit by digit

pub holds-first : (x : ℕ) → holds x 0 ≡ eqb (x % 2) 1
unfolding holds
holds-first x = rw (div-one x)

pub holds_later : (x j : ℕ) → holds x (suc j) ≡ holds (x / 2) j
unfolding holds
holds_later x j = rw (pow-succ' 2 j, ← div-div-eq-div-mul x 2 (2 ^ j))

odd : (x : ℕ) → holds x 0 ≡ true → x % 2 ≡ 1
odd x h = eqb-true (x % 2) 1 (sym (holds-first x) ∙ h)

even : (x : ℕ) → holds x 0 ≡ false → x % 2 ≡ 0
even x h = go (x % 2) refl
  where
    go : (r : ℕ) → x % 2 ≡ r → r ≡ 0
    go zero e = refl
    go (suc zero) e = never (holds-first x ∙ rw e) h
    go (suc (suc r)) e = absurd (omega arith)

-- ---- two sets

-- what holds of every two digits holds of two numbers below 2
digits : (P : ℕ → ℕ → Type 0) → P 0 0 → P 0 1 → P 1 0 → P 1 1 → (d e : ℕ) → d < 2 → e < 2 → P d e
digits P a b c f zero zero h k = a
digits P a b c f zero (suc zero) h k = b
digits P a b c f (suc zero) zero h k = c
digits P a b c f (suc zero) (suc zero) h k = f
digits P a b c f zero (suc (suc e)) h k = absurd (omega arith)
digits P a b c f (suc zero) (suc (suc e)) h k = absurd (omega arith)
digits P a b c f (suc (suc d)) e h k = absurd (omega arith)

and_digit : (d e : ℕ) → d < 2 → e < 2 → eqb (bit_and d e) 1 ≡ (eqb d 1 && eqb e 1)
and_digit = digits (λ d e. eqb (bit_and d e) 1 ≡ (eqb d 1 && eqb e 1)) refl refl refl refl

or_digit : (d e : ℕ) → d < 2 → e < 2 → eqb (bit_or d e) 1 ≡ (eqb d 1 || eqb e 1)
or_digit = digits (λ d e. eqb (bit_or d e) 1 ≡ (eqb d 1 || eqb e 1)) refl refl refl refl

less_digit : (d e : ℕ) → d < 2 → e < 2 → eqb (bit_xor d (bit_and d e)) 1 ≡ (eqb d 1 && not (eqb e 1))
less_digit = digits (λ d e. eqb (bit_xor d (bit_and d e)) 1 ≡ (eqb d 1 && not (eqb e 1))) refl refl refl refl

pub holds_and : (a b j : ℕ) → holds (bit_and a b) j ≡ (holds a j && holds b j)
unfolding holds
holds_and a b j =
    ap (λ (x : ℕ). eqb (x % 2) 1) (and_shr a b j) ∙ ap (λ (x : ℕ). eqb x 1) (and_mod (a / 2 ^ j) (b / 2 ^ j) 1)
    ∙ and_digit (a / 2 ^ j % 2) (b / 2 ^ j % 2) (omega arith) (omega arith)

pub holds_or : (a b j : ℕ) → holds (bit_or a b) j ≡ (holds a j || holds b j)
unfolding holds
holds_or a b j =
    ap (λ (x : ℕ). eqb (x % 2) 1) (or_shr a b j) ∙ ap (λ (x : ℕ). eqb x 1) (or_mod (a / 2 ^ j) (b / 2 ^ j) 1)
    ∙ or_digit (a / 2 ^ j % 2) (b / 2 ^ j % 2) (omega arith) (omega arith)

pub holds_less : (a b j : ℕ) → holds (bit_xor a (bit_and a b)) j ≡ (holds a j && not (holds b j))
unfolding holds
holds_less a b j =
    ap (λ (x : ℕ). eqb (x % 2) 1) (xor_shr a (bit_and a b) j) ∙ ap (λ (x : ℕ). eqb x 1) (xor_mod (a / 2 ^ j) (bit_and a b / 2 ^ j) 1)
    ∙ ap (λ (x : ℕ). eqb (bit_xor (a / 2 ^ j % 2) x) 1) (ap (λ (x : ℕ). x % 2) (and_shr a b j) ∙ and_mod (a / 2 ^ j) (b / 2 ^ j) 1)
    ∙ less_digit (a / 2 ^ j % 2) (b / 2 ^ j % 2) (omega arith) (omega arith)

-- ---- what is not in a set

-- each digit below the width is the other one
pub holds_others : (w x j : ℕ) → x < 2 ^ w → j < w → holds (2 ^ w - 1 - x) j ≡ not (holds x j)
holds_others zero x j l h = absurd (omega arith)
holds_others (suc w) x zero l h = holds-first (2 ^ suc w - 1 - x) ∙ go (x % 2) refl ∙ sym (ap not (holds-first x))
  where
    flipped : (2 ^ suc w - 1 - x) % 2 ≡ 1 - x % 2
    flipped = omega (arith, pow-suc 2 w)

    go : (d : ℕ) → x % 2 ≡ d → eqb ((2 ^ suc w - 1 - x) % 2) 1 ≡ not (eqb (x % 2) 1)
    go zero e = rw (flipped, e)
    go (suc zero) e = rw (flipped, e)
    go (suc (suc d)) e = absurd (omega arith)
holds_others (suc w) x (suc j) l h =
    holds_later (2 ^ suc w - 1 - x) j ∙ ap (λ (y : ℕ). holds y j) half ∙ holds_others w (x / 2) j (omega (arith, pow-suc 2 w)) (omega arith)
    ∙ sym (ap not (holds_later x j))
  where
    half : (2 ^ suc w - 1 - x) / 2 ≡ 2 ^ w - 1 - x / 2
    half = omega (arith, pow-suc 2 w)

-- ---- no number, one number

eqb_later : (k j : ℕ) → eqb (suc k) (suc j) ≡ eqb k j
eqb_later k j = go (ℕ_discrete k j)
  where
    go : Dec (k ≡ j) → eqb (suc k) (suc j) ≡ eqb k j
    go (yes e) = eq-eqb (suc k) (suc j) (ap suc e) ∙ sym (eq-eqb k j e)
    go (no e) = ne_eqb (suc k) (suc j) (λ q. e (omega arith)) ∙ sym (ne_eqb k j e)

pub holds_none : (j : ℕ) → holds 0 j ≡ false
unfolding holds
holds_none j = rw (div-eq_of_lt {n = 0} {m = 2 ^ j} (pow_pos j))

pub holds_one : (k j : ℕ) → holds (2 ^ k) j ≡ eqb k j
holds_one zero zero = holds-first 1
holds_one zero (suc j) = holds_later 1 j ∙ holds_none j ∙ sym (ne_eqb 0 (suc j) (λ q. omega arith))
holds_one (suc k) zero = holds-first (2 ^ suc k) ∙ ne_eqb (2 ^ suc k % 2) 1 (λ q. omega (arith, pow-suc 2 k)) ∙ sym (ne_eqb (suc k) 0 (λ q. omega arith))
holds_one (suc k) (suc j) = holds_later (2 ^ suc k) j ∙ ap (λ (x : ℕ). holds x j) half ∙ holds_one k j ∙ sym (eqb_later k j)
  where
    half : 2 ^ suc k / 2 ≡ 2 ^ k
    half = rw (pow-suc 2 k) (omega arith)

-- ---- the smallest

pub lowest_is : (w x : ℕ) → 0 < x → x < 2 ^ w → (count_trailing_zeros w x < w) × Lowest x (count_trailing_zeros w x)
unfolding count_trailing_zeros
lowest_is zero x h l = absurd (omega arith)
lowest_is (suc w) x h l = go (lowest_is w (x / 2)) (x % 2) refl
  where
    go : (0 < x / 2 → x / 2 < 2 ^ w → (count_trailing_zeros w (x / 2) < w) × Lowest (x / 2) (count_trailing_zeros w (x / 2))) → (r : ℕ) → x % 2 ≡ r
        → (under r (count_trailing_zeros w (x / 2)) < suc w) × Lowest x (under r (count_trailing_zeros w (x / 2)))
    go later (suc r) e = (omega arith, record { there = holds-first x ∙ eq-eqb (x % 2) 1 (omega arith); below = λ j k. absurd (omega arith) })
    go later zero e =
        let rest = later (omega arith) (omega (arith, pow-suc 2 w)) in
        (omega (arith, rest.0), record { there = holds_later x _ ∙ rest.1.there; below = below rest.1.below })
      where
        below : ((j : ℕ) → j < count_trailing_zeros w (x / 2) → holds (x / 2) j ≡ false) → (j : ℕ) → j < suc (count_trailing_zeros w (x / 2)) → holds x j ≡ false
        below rest zero k = holds-first x ∙ rw e
        below rest (suc j) k = holds_later x j ∙ rest j (omega arith)

-- one less: the smallest is gone, and the larger ones stay
less : (k x j : ℕ) → Lowest x k → holds x j ≡ true → holds (x - 1) j ≡ not (eqb k j)
less zero x zero low h = holds-first (x - 1) ∙ rw gone
  where
    gone : (x - 1) % 2 ≡ 0
    gone = omega (arith, odd x low.there)
less zero x (suc j) low h = holds_later (x - 1) j ∙ ap (λ (y : ℕ). holds y j) same ∙ sym (holds_later x j) ∙ h ∙ sym (ap not (ne_eqb 0 (suc j) (λ q. omega arith)))
  where
    same : (x - 1) / 2 ≡ x / 2
    same = omega (arith, odd x low.there)
less (suc k) x zero low h = never h (low.below 0 (omega arith))
less (suc k) x (suc j) low h = holds_later (x - 1) j ∙ ap (λ (y : ℕ). holds y j) half ∙ less k (x / 2) j lower (sym (holds_later x j) ∙ h) ∙ sym (ap not (eqb_later k j))
  where
    half : (x - 1) / 2 ≡ x / 2 - 1
    half = omega (arith, even x (low.below 0 (omega arith)))

    lower : Lowest (x / 2) k
    lower = record { there = sym (holds_later x k) ∙ low.there; below = λ i l. sym (holds_later x i) ∙ low.below (suc i) (omega arith) }

pub without : (k x j : ℕ) → Lowest x k → holds (bit_and x (x - 1)) j ≡ (holds x j && not (eqb k j))
without k x j low = holds_and x (x - 1) j ∙ go (holds x j) refl
  where
    go : (b : Bool) → holds x j ≡ b → (b && holds (x - 1) j) ≡ (b && not (eqb k j))
    go true e = less k x j low e
    go false e = refl

pub or_swap : (a b : Bool) → (a || b) ≡ (b || a)
or_swap true true = refl
or_swap true false = refl
or_swap false true = refl
or_swap false false = refl

-- ---- a set that is gone through, lowest number first

-- `rest` is what is left of a set from a number on
pub record From (set number rest : ℕ) : Type 0 where
  pub gone : (j : ℕ) → j < number → holds rest j ≡ false
  pub left : (j : ℕ) → number ≤ j → holds rest j ≡ holds set j

pub from_all : (set : ℕ) → From set 0 set
from_all set = record { gone = λ j l. absurd (omega arith); left = λ j l. refl }

module _ {set number rest : ℕ} (r : From set number rest) where
  pub from_above : (y : ℕ) → holds rest y ≡ true → number ≤ y
  from_above y there = go (dec_lt y number)
    where
      go : Dec (y < number) → number ≤ y
      go (yes h) = never there (r.gone y h)
      go (no h) = omega arith

  -- what is in the rest is in the set
  pub from-holds : (y : ℕ) → holds rest y ≡ true → holds set y ≡ true
  from-holds y there = sym (r.left y (from_above y there)) ∙ there

  -- nothing of the set stands before the lowest number of the rest
  pub from_gap : (y : ℕ) → Lowest rest y → (j : ℕ) → number ≤ j → j < y → holds set j ≡ false
  from_gap y lowest j a b = sym (r.left j a) ∙ lowest.below j b

  pub from_next : (y : ℕ) → Lowest rest y → {rest' : ℕ} → ((j : ℕ) → holds rest' j ≡ (holds rest j && not (eqb y j))) → From set (suc y) rest'
  from_next y lowest less = record {
    gone = λ j h. less j ∙ go j h (ℕ_discrete y j);
    left = λ j h. less j
        ∙ rw (ne_eqb y j (λ z. omega arith), r.left j (omega (arith, from_above y lowest.there))) (and-true (holds set j));
  }
    where
      and-true : (b : Bool) → (b && true) ≡ b
      and-true true = refl
      and-true false = refl

      go : (j : ℕ) → j < suc y → Dec (y ≡ j) → (holds rest j && not (eqb y j)) ≡ false
      go j h (yes z) = rw (eq-eqb y j z) (and-false (holds rest j))
        where
          and-false : (b : Bool) → (b && false) ≡ false
          and-false true = refl
          and-false false = refl
      go j h (no z) = rw (lowest.below j (omega arith))

  -- nothing of the set stands behind where nothing is left
  pub from_none : rest ≡ 0 → (j : ℕ) → number ≤ j → holds set j ≡ false
  from_none e j a = sym (r.left j a) ∙ ap (λ (x : ℕ). holds x j) e ∙ holds_none j
