-- Laws of numbers of one to three digits in a text: what is read stands there, and what stands there is read.
-- Assumes nothing.
use Rattle.std.specs.Prelude.{ℕ, suc, ◌+◌, ◌*◌, ◌/◌, ◌%◌, ◌≤◌, ◌<◌, ◌≡◌, refl, true, false, ◌&&◌, List, [], ◌∷◌, ◌++◌, eqb, leb, ltb, length, take, drop, get_or}
use Rattle.std.proofs.Common.{sym, ap, ◌∙◌, add-zero, add-one, arith, drop-cons, get_or-drop, eqb-true, eq-eqb, ne_eqb, ltb-true, ltb-false, lt-ltb, le-ltb, le-leb, leb-true}
use Rattle.std.proofs.Math.ListN.{get_or-eq_default}
use Rattle.std.proofs.lemmas.Bool.{eqb-false}
use Rattle.meaning.specs.Cases.{cases_of, no_both, and_left, and_right}
use Rattle.text.specs.Decimal.{digits_of, decimal}
use Rattle.spelling.specs.Spelling.{digit_of, digit_at, number_to, numeral, number_at}
use Rattle.spelling.specs.Words.{Stands, stands-inside, same_byte}

-- ---- digits

pub digit_byte : (b : ℕ) → eqb (digit_of b) 10 ≡ false → (48 + digit_of b ≡ b) × (digit_of b < 10)
digit_byte b h = cases_of (leb 48 b && leb b 57)
    (λ q. let low = leb-true 48 b (and_left (leb 48 b) (leb b 57) q) in
    let high = leb-true b 57 (and_right (leb 48 b) (leb b 57) q) in
    rw q (omega arith, omega arith))
    (λ q. no_both {b = true} refl (rw q at h))

pub digit_glyph : (d : ℕ) → d < 10 → digit_of (48 + d) ≡ d
digit_glyph d h = rw (le-leb 48 (48 + d) (omega arith), le-leb (48 + d) 57 (omega arith)) (omega arith)

pub digit_inside : (text : List ℕ) (at : ℕ) → eqb (digit_at text at) 10 ≡ false → at < length text
unfolding digit_at
digit_inside text at h = cases_of (ltb at (length text))
    (λ q. ltb-true _ _ q)
    (λ q. no_both {b = true} refl (rw (get_or-eq_default text 0 {n = at} (ltb-false _ _ q)) at h))

-- a digit, and what stands behind it
digit_then : (text : List ℕ) (at next : ℕ) → next ≡ at + 1 → eqb (digit_at text at) 10 ≡ false →
    (drop at text ≡ (48 + digit_at text at) ∷ drop next text) × (digit_at text at < 10)
unfolding digit_at
digit_then text at next e h =
    let b = digit_byte (get_or text at 0) h in
    (drop-cons text at 0 (digit_inside text at h) ∙ rw (b.0, e, add-one at), b.1)

-- the digits of a text's end
pub digit_in : (text : List ℕ) (at i : ℕ) → digit_at text (at + i) ≡ digit_of (get_or (drop at text) i 0)
unfolding digit_at
digit_in text at i = rw (get_or-drop at text i 0)

-- ---- decimal numbers of one to three digits

digits_one : (k n : ℕ) → n < 10 → digits_of (suc k) n ≡ (48 + n) ∷ []
unfolding digits_of
digits_one k n h = rw (lt-ltb n 10 h)

digits_more : (k n d : ℕ) → 1 ≤ n → d < 10 → digits_of (suc k) (n * 10 + d) ≡ digits_of k n ++ ((48 + d) ∷ [])
unfolding digits_of
digits_more k n d h l =
    let front : (n * 10 + d) / 10 ≡ n = omega arith in
    let last : (n * 10 + d) % 10 ≡ d = omega arith in
    rw (le-ltb (n * 10 + d) 10 (omega arith), front, last)

-- A number of one to three digits, and its glyphs.
pub data Digits : ℕ → List ℕ → Type 0 where
  one : (a : ℕ) → a < 10 → Digits a ((48 + a) ∷ [])
  two : (a b : ℕ) → 1 ≤ a → a < 10 → b < 10 → Digits (a * 10 + b) ((48 + a) ∷ (48 + b) ∷ [])
  three : (a b c : ℕ) → 1 ≤ a → a < 10 → b < 10 → c < 10 → Digits ((a * 10 + b) * 10 + c) ((48 + a) ∷ (48 + b) ∷ (48 + c) ∷ [])

digits_decimal : {n : ℕ} {ds : List ℕ} → Digits n ds → decimal n ≡ ds
unfolding decimal
digits_decimal (one a h) = digits_one 19 a h
digits_decimal (two a b p h l) = digits_more 19 a b p l ∙ rw (digits_one 18 a h)
digits_decimal (three a b c p h l m) = digits_more 19 (a * 10 + b) c (omega arith) m ∙ rw (digits_more 18 a b p l, digits_one 17 a h)

digits_small : {n : ℕ} {ds : List ℕ} → Digits n ds → n < 1000
digits_small (one a h) = omega arith
digits_small (two a b p h l) = omega arith
digits_small (three a b c p h l m) = omega arith

digits_are : (n : ℕ) → n < 1000 → (ds : List ℕ) × Digits n ds
digits_are n h = cases_of (ltb n 10)
    (λ q. ((48 + n) ∷ [], one n (ltb-true n 10 q)))
    (λ q. let q' = ltb-false n 10 q in
    cases_of (ltb n 100)
    (λ r. let r' = ltb-true n 100 r in
    let e : n / 10 * 10 + n % 10 ≡ n = omega arith in
    (_, rw e at (two (n / 10) (n % 10) (omega arith) (omega arith) (omega arith))))
    (λ r. let r' = ltb-false n 100 r in
    let e : (n / 10 / 10 * 10 + n / 10 % 10) * 10 + n % 10 ≡ n = omega arith in
    (_, rw e at (three (n / 10 / 10) (n / 10 % 10) (n % 10) (omega arith) (omega arith) (omega arith) (omega arith)))))

pub digits_of_lem : (n : ℕ) → n < 1000 → Digits n (decimal n)
digits_of_lem n h = let d = digits_are n h in rw (digits_decimal d.1) d.1

pub decimal_some : (n : ℕ) → n < 1000 → 1 ≤ length (decimal n)
decimal_some n h = some (digits_of_lem n h)
  where
    some : {n : ℕ} {ds : List ℕ} → Digits n ds → 1 ≤ length ds
    some (one a h) = omega arith
    some (two a b p h l) = omega arith
    some (three a b c p h l m) = omega arith

-- ---- reading by the three digits at a place

numeral_is : (text : List ℕ) (at : ℕ) → number_at text at ≡ numeral at (digit_at text at) (digit_at text (at + 1)) (digit_at text (at + 2))
unfolding number_at
numeral_is text at = refl

numeral_end : (at a b c : ℕ) → (at ≤ (numeral at a b c).end) × ((numeral at a b c).end ≤ at + 3)
numeral_end at a b c = cases_of (eqb a 10) (λ q. rw q (omega arith, omega arith))
    (λ q. cases_of (eqb a 0) (λ r. rw (q, r) (omega arith, omega arith))
    (λ r. cases_of (eqb b 10) (λ s. rw (q, r, s) (omega arith, omega arith))
    (λ s. cases_of (eqb c 10) (λ t. rw (q, r, s, t) (omega arith, omega arith)) (λ t. rw (q, r, s, t) (omega arith, omega arith)))))

pub number_end : (text : List ℕ) (at : ℕ) → (at ≤ (number_at text at).end) × ((number_at text at).end ≤ at + 3)
number_end text at = rw (numeral_is text at) (numeral_end at (digit_at text at) (digit_at text (at + 1)) (digit_at text (at + 2)))

-- ---- what is read stands there

digits_stand : {n : ℕ} {ds : List ℕ} (text : List ℕ) (at : ℕ) → Digits n ds → drop at text ≡ ds ++ drop (at + length ds) text →
    (n < 1000) × Stands text at (decimal n) (at + length ds)
digits_stand text at d e = (digits_small d, rw (digits_decimal d) (record { ends = refl; is = e }))

pub number_sound : (text : List ℕ) (at : ℕ) → eqb (number_at text at).end at ≡ false →
    ((number_at text at).value < 1000) × Stands text at (decimal (number_at text at).value) (number_at text at).end
unfolding number_at
number_sound text at h =
    let d = digit_at text at in
    cases_of (eqb d 10) (λ q. no_both (eq-eqb at at refl) (rw q at h))
    (λ q. let x = digit_then text at (at + 1) refl q in
    cases_of (eqb d 0) (λ r. rw (q, r) (digits_stand text at (one 0 (omega arith)) (x.0 ∙ rw (eqb-true d 0 r))))
    (λ r. let p : 1 ≤ d = omega (arith, eqb-false d 0 r) in
    let d₁ = digit_at text (at + 1) in
    cases_of (eqb d₁ 10) (λ s. rw (q, r, s) (digits_stand text at (one d x.1) x.0))
    (λ s. let y = digit_then text (at + 1) (at + 2) (omega arith) s in
    let d₂ = digit_at text (at + 2) in
    cases_of (eqb d₂ 10) (λ t. rw (q, r, s, t) (digits_stand text at (two d d₁ p x.1 y.1) (x.0 ∙ rw y.0)))
    (λ t. let z = digit_then text (at + 2) (at + 3) (omega arith) t in
    rw (q, r, s, t) (digits_stand text at (three d d₁ d₂ p x.1 y.1 z.1) (x.0 ∙ rw (y.0, z.0)))))))

pub number-inside : (text : List ℕ) (at : ℕ) → at ≤ length text → (number_at text at).end ≤ length text
number-inside text at h = cases_of (eqb (number_at text at).end at)
    (λ q. omega (arith, eqb-true (number_at text at).end at q))
    (λ q. stands-inside (number_sound text at q).1 h)

-- ---- what stands there is read

numeral_of : {n : ℕ} {ds : List ℕ} (at : ℕ) (t rest : List ℕ) → Digits n ds → t ≡ ds ++ rest → digit_of (get_or rest 0 0) ≡ 10 →
    numeral at (digit_of (get_or t 0 0)) (digit_of (get_or t 1 0)) (digit_of (get_or t 2 0)) ≡ number_to n (at + length ds)
numeral_of at t rest (one a h) e f = cases_of (eqb a 0)
    (λ q. rw (e, digit_glyph a h, eqb-true a 0 q))
    (λ q. rw (e, digit_glyph a h, f, ne_eqb a 10 (λ z. omega arith), q))
numeral_of at t rest (two a b p h l) e f =
    rw (e, digit_glyph a h, digit_glyph b l, f, ne_eqb a 10 (λ z. omega arith), ne_eqb a 0 (λ z. omega arith), ne_eqb b 10 (λ z. omega arith))
numeral_of at t rest (three a b c p h l m) e f =
    rw (
      e,
      digit_glyph a h,
      digit_glyph b l,
      digit_glyph c m,
      ne_eqb a 10 (λ z. omega arith),
      ne_eqb a 0 (λ z. omega arith),
      ne_eqb b 10 (λ z. omega arith),
      ne_eqb c 10 (λ z. omega arith),
    )

numeral_in : (text : List ℕ) (at : ℕ) → let t = drop at text in
    number_at text at ≡ numeral at (digit_of (get_or t 0 0)) (digit_of (get_or t 1 0)) (digit_of (get_or t 2 0))
numeral_in text at =
    let first : digit_at text at ≡ digit_of (get_or (drop at text) 0 0) = rw (add-zero at) at (digit_in text at 0) in
    numeral_is text at ∙ rw (first, digit_in text at 1, digit_in text at 2)

pub number_none : (text : List ℕ) (at : ℕ) → digit_of (get_or (drop at text) 0 0) ≡ 10 → number_at text at ≡ number_to 0 at
number_none text at e = numeral_in text at ∙ rw e

-- ---- a number is read from its bytes and the one behind them

numeral_again : (at a b c a' b' c' : ℕ) → a' ≡ a → (at + 1 ≤ (numeral at a b c).end → b' ≡ b) → (at + 2 ≤ (numeral at a b c).end → c' ≡ c) →
    numeral at a' b' c' ≡ numeral at a b c
numeral_again at a b c a' b' c' e f g = cases_of (eqb a 10) (λ q. rw (e, q))
    (λ q. cases_of (eqb a 0) (λ r. rw (e, q, r))
    (λ r. cases_of (eqb b 10) (λ s. rw (e, f (rw (q, r, s) (omega arith)), q, r, s))
    (λ s. cases_of (eqb c 10) (λ t. rw (e, f (rw (q, r, s, t) (omega arith)), g (rw (q, r, s, t) (omega arith))))
    (λ t. rw (e, f (rw (q, r, s, t) (omega arith)), g (rw (q, r, s, t) (omega arith)))))))

-- maximal munch: a text that agrees with what stands here up to the byte behind the number has the same number
pub number_same : (text : List ℕ) (at n j : ℕ) (u rest : List ℕ) → u ≡ decimal n ++ rest → n < 1000 → digit_of (get_or rest 0 0) ≡ 10 →
    (number_at text at).end ≤ at + j → take (suc j) u ≡ take (suc j) (drop at text) → number_at text at ≡ number_to n (at + length (decimal n))
number_same text at n j u rest e h f l g =
    let t = drop at text in
    let here = numeral_in text at in
    here
    ∙ sym (numeral_again at (digit_of (get_or t 0 0)) (digit_of (get_or t 1 0)) (digit_of (get_or t 2 0)) _ _ _ (ap digit_of (same_byte t u j 0 g (omega arith)))
    (λ m. ap digit_of (same_byte t u j 1 g (let m' = rw (← here) at m in omega arith)))
    (λ m. ap digit_of (same_byte t u j 2 g (let m' = rw (← here) at m in omega arith))))
    ∙ numeral_of at u rest (digits_of_lem n h) e f

pub number-drawn : (text : List ℕ) (at n : ℕ) (rest : List ℕ) → drop at text ≡ decimal n ++ rest → n < 1000 → digit_of (get_or rest 0 0) ≡ 10 →
    number_at text at ≡ number_to n (at + length (decimal n))
number-drawn text at n rest e h f = number_same text at n 3 (drop at text) rest e h f (number_end text at).1 refl

pub number_read : {text : List ℕ} {at n end : ℕ} → Stands text at (decimal n) end → n < 1000 → digit_of (get_or (drop end text) 0 0) ≡ 10 →
    number_at text at ≡ number_to n end
number_read {text} {at} {n} {end} s h f = number-drawn text at n (drop end text) s.is h f ∙ rw s.ends
