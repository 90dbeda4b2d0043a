-- What a byte is as a digit.
-- Assumes nothing.
use mathlib.Core.Path.{◌≡◌, refl, ap}
use mathlib.Core.Bool.{true, false}
use mathlib.Core.List.{List}
use Prim.Native.Nat.{ℕ, ◌+◌, ◌≤◌, ◌<◌}
use native.Mathlib.Omega.{arith}
use lib.Dec.{eqb}
use lib.ListN.{length, get_or-eq_default}
use borrow.Author.Tests.{lt-ltb, le-ltb, eq-eqb, ne_eqb}
use Rattle.meaning.specs.Cases.{cases_of}
use Rattle.spelling.specs.Spelling.{digit_of, digit_at, clipped, numeral, number_at}

pub no_digit : (d : ℕ) → 9 < d → clipped d ≡ 10
no_digit d h = rw (le-ltb d 10 (omega arith))

pub a_digit : (d : ℕ) → d ≤ 9 → clipped d ≡ d
a_digit d h = rw (lt-ltb d 10 (omega arith))

pub past_end : (text : List ℕ) (at : ℕ) → length text ≤ at → digit_at text at ≡ 10
unfolding digit_at
past_end text at h = ap digit_of (get_or-eq_default text 0 h)

-- ---- where a number stands its first digit does

numeral_some : (at a b c : ℕ) → eqb a 10 ≡ false → eqb (numeral at a b c).end at ≡ false
numeral_some at a b c q = cases_of (eqb a 0) (λ r. rw (q, r) (ne_eqb (at + 1) at (λ z. omega arith)))
    (λ r. cases_of (eqb b 10) (λ s. rw (q, r, s) (ne_eqb (at + 1) at (λ z. omega arith)))
    (λ s. cases_of (eqb c 10) (λ t. rw (q, r, s, t) (ne_eqb (at + 2) at (λ z. omega arith))) (λ t. rw (q, r, s, t) (ne_eqb (at + 3) at (λ z. omega arith)))))

module _ (text : List ℕ) (at : ℕ) {d : ℕ} (e : digit_at text at ≡ clipped d) where
  pub no_number : 9 < d → eqb (number_at text at).end at ≡ true
  unfolding number_at
  no_number h = rw (e, no_digit d h) (eq-eqb at at refl)

  pub a_number : d ≤ 9 → eqb (number_at text at).end at ≡ false
  unfolding number_at
  a_number h =
      let q : eqb (digit_at text at) 10 ≡ false = rw (e, a_digit d h) (ne_eqb d 10 (λ z. omega arith)) in
      numeral_some at (digit_at text at) (digit_at text (at + 1)) (digit_at text (at + 2)) q
