-- Laws of text: a number's digits, and what is written into a room piece by piece.
-- Assumes nothing.
use mathlib.Core.Path.{◌≡◌, refl, sym, ap, ap₂, ◌∙◌}
use mathlib.Core.List.{List, [], ◌∷◌, ◌++◌, append_assoc}
use Prim.Native.Nat.{ℕ, zero, suc, ◌+◌, ◌*◌, ◌-◌, ◌/◌, ◌%◌, ◌^◌, ◌≤◌, ◌<◌}
use native.Mathlib.Nat.{add_assoc, zero-add, pow-suc, pow-le-pow_right}
use native.Mathlib.Decide.{dec_lt}
use native.Mathlib.Numerals.{add-one}
use native.Mathlib.Omega.{arith}
use lib.Dec.{lit<}
use lib.ListN.{length, take, drop, length-append}
use lib.Seq.{take_at, drop_at, drop-drop, length-take-le}
use borrow.Author.Tests.{lt-ltb, le-ltb}
use Rattle.io.specs.Digits.{hex_digit_ascii, last_digits, IsDigitCount}
use Rattle.text.specs.Decimal.{digits_of, decimal, wrote}
use Rattle.text.specs.Printed.{Printed}

-- ---- digits

-- k digits hold n and no fewer do, and there is room for k
digits_are : (f k n : ℕ) → 1 ≤ k → k ≤ f → n < 10 ^ k → (1 < k → 10 ^ (k - 1) ≤ n) → digits_of f n ≡ last_digits 10 k n
unfolding digits_of
digits_are zero k n a b c d = absurd (omega arith)
digits_are (suc f) zero n a b c d = absurd (omega arith)
digits_are (suc f) (suc zero) n a b c d =
    let small : n < 10 = omega (arith, c) in
    let same : n % 10 ≡ n = omega arith in
    rw (lt-ltb n 10 small, same, lt-ltb n 10 small)
digits_are (suc f) (suc (suc k)) n a b c d =
    let e : suc (suc k) - 1 ≡ suc k = omega arith in
    let large : 10 ^ suc k ≤ n = rw e at (d (omega arith)) in
    let ten : 10 ^ suc k ≡ 10 ^ k * 10 = pow-suc 10 k in
    let one : 1 ≤ 10 ^ k = positive k in
    let hundred : 10 ^ suc (suc k) ≡ 10 ^ suc k * 10 = pow-suc 10 (suc k) in
    let digit : n % 10 < 10 = omega arith in
    let e2 : suc k - 1 ≡ k = omega arith in
    rw (le-ltb n 10 (omega arith), lt-ltb (n % 10) 10 digit)
    (ap (λ (l : List ℕ). l ++ ((48 + n % 10) ∷ [])) (digits_are f (suc k) (n / 10) (omega arith) (omega arith) (omega arith) (λ z. rw e2 (omega arith))))
  where
    positive : (k : ℕ) → 1 ≤ 10 ^ k
    positive zero = omega arith
    positive (suc k) = omega (arith, pow-suc 10 k, positive k)

length_digits : (b k n : ℕ) → length (last_digits b k n) ≡ k
length_digits b zero n = refl
length_digits b (suc k) n = length-append (last_digits b k (n / b)) (hex_digit_ascii (n % b) ∷ []) ∙ rw (length_digits b k (n / b), add-one k)

-- what `io` writes in the fewest digits is the decimal number
pub decimal_is : (n k : ℕ) → n < 2 ^ 64 → IsDigitCount 10 1 n k → (last_digits 10 k n ≡ decimal n) × (k ≡ length (decimal n)) × (k ≤ 20)
unfolding decimal
decimal_is n k h f =
    let small : k ≤ 20 = fits n k h f in
    let is : digits_of 20 n ≡ last_digits 10 k n = digits_are 20 k n f.0 small f.1 f.2 in
    (sym is, sym (ap length is ∙ length_digits 10 k n), small)
  where
    fits : (n k : ℕ) → n < 2 ^ 64 → IsDigitCount 10 1 n k → k ≤ 20
    fits n k h f = go (dec_lt 20 k)
      where
        go : Dec (20 < k) → k ≤ 20
        go (no l) = omega arith
        go (yes l) =
            let a : 10 ^ 20 ≤ 10 ^ (k - 1) = pow-le-pow_right {n = 10} (lit< tt) {i = 20} {j = k - 1} (omega arith) in
            absurd (omega (arith, f.2 (omega arith)))

-- a number below a power of ten has at most so many digits
one_digit_more : (f k n : ℕ) → n < 10 ^ suc k → ((j : ℕ) → n / 10 < 10 ^ suc j → length (digits_of f (n / 10)) ≤ suc j) → Dec (n < 10) → length (digits_of (suc f) n) ≤ suc k
unfolding digits_of
one_digit_more f k n h less (yes l) = rw (lt-ltb n 10 l) (omega arith)
one_digit_more f zero n h less (no l) = absurd (omega (arith, h))
one_digit_more f (suc k) n h less (no l) =
    rw (le-ltb n 10 (omega arith)) (omega (arith, length-append (digits_of f (n / 10)) ((48 + n % 10) ∷ []), less k (omega (arith, h, pow-suc 10 (suc k)))))

digits_most : (f k n : ℕ) → n < 10 ^ suc k → length (digits_of f n) ≤ suc k
unfolding digits_of
digits_most zero k n h = omega arith
digits_most (suc f) k n h = one_digit_more f k n h (λ j. digits_most f j (n / 10)) (dec_lt n 10)

pub decimal_most : (k n : ℕ) → n < 10 ^ suc k → length (decimal n) ≤ suc k
unfolding decimal
decimal_most k n h = digits_most 20 k n h

-- ---- pieces

-- one text behind another is both together
pub wrote_more : (room : List ℕ) (at : ℕ) (a b : List ℕ) → at ≤ length room → wrote (wrote room at a) (at + length a) b ≡ wrote room at (a ++ b)
wrote_more room at a b h =
    let p = take at room ++ a in
    let k = at + length a in
    let long : length p ≡ k = length-append (take at room) a ∙ ap (λ (n : ℕ). n + length a) (length-take-le at room h) in
    let e1 : take k (p ++ drop k room) ≡ p = take_at p (drop k room) k long in
    let e2 : drop (k + length b) (p ++ drop k room) ≡ drop (k + length b) room =
    sym (drop-drop (length b) k (p ++ drop k room)) ∙ ap (drop (length b)) (drop_at p (drop k room) k long) ∙ drop-drop (length b) k room in
    let e3 : at + length (a ++ b) ≡ k + length b = ap (λ (n : ℕ). at + n) (length-append a b) ∙ sym (add_assoc at (length a) (length b)) in
    rw (e1, e2, e3) (ap (λ (l : List ℕ). l ++ drop (k + length b) room) (append_assoc (take at room) a b))

-- a text that is another one
pub same : {r : List ℕ} {e : ℕ} {a b : List ℕ} (r₀ : List ℕ) (at : ℕ) → a ≡ b → r ≡ wrote r₀ at a → e ≡ at + length a → (r ≡ wrote r₀ at b) × (e ≡ at + length b)
same r₀ at is p q = (p ∙ ap (wrote r₀ at) is, q ∙ ap (λ (l : List ℕ). at + length l) is)

-- one piece, and then another behind it
pub both : {r₁ r₂ : List ℕ} {e₁ e₂ : ℕ} (r₀ : List ℕ) (at : ℕ) (a b : List ℕ) → at ≤ length r₀ → r₁ ≡ wrote r₀ at a → e₁ ≡ at + length a →
    r₂ ≡ wrote r₁ e₁ b → e₂ ≡ e₁ + length b → (r₂ ≡ wrote r₀ at (a ++ b)) × (e₂ ≡ at + length (a ++ b))
both r₀ at a b h p q u v = (
  u ∙ ap₂ (λ (r : List ℕ) (e : ℕ). wrote r e b) p q ∙ wrote_more r₀ at a b h,
  v ∙ ap (λ (e : ℕ). e + length b) q ∙ add_assoc at (length a) (length b) ∙ ap (λ (n : ℕ). at + n) (sym (length-append a b)),
)

-- the same from the room's beginning on
pub both_front : {r₁ r₂ : List ℕ} {e₁ e₂ : ℕ} (r₀ : List ℕ) (a b : List ℕ) → r₁ ≡ wrote r₀ 0 a → e₁ ≡ length a →
    r₂ ≡ wrote r₁ e₁ b → e₂ ≡ e₁ + length b → (r₂ ≡ wrote r₀ 0 (a ++ b)) × (e₂ ≡ length (a ++ b))
both_front r₀ a b p q u v =
    let done = both r₀ 0 a b (omega arith) p (q ∙ sym (zero-add (length a))) u v in
    (done.0, done.1 ∙ zero-add (length (a ++ b)))

-- the room begins with the text
pub wrote_front : (room text : List ℕ) (k : ℕ) → k ≡ length text → take k (wrote room 0 text) ≡ text
wrote_front room text k h = take_at text (drop (0 + length text) room) k (sym h)

-- ---- whole texts

pub printed_whole : (text room : List ℕ) (r : ℕ) (room' : List ℕ) → length text ≤ length room → r ≡ length text → room' ≡ wrote room 0 text → Printed text room r room'
printed_whole text room r room' h e w =
    let t = le-ltb _ _ h in
    let long : length (wrote room 0 text) ≡ length text + length (drop (0 + length text) room) = length-append text (drop (0 + length text) room) in
    let within : r ≤ length room' = rw (e, w) (omega (arith, long)) in
    record { count = e ∙ rw t; room_after = w ∙ rw t; within = (within, sym (length-take-le r room' within)) }

-- one answer and one room meet it
pub printed_one : {text room : List ℕ} {r₁ r₂ : ℕ} {room₁ room₂ : List ℕ} → Printed text room r₁ room₁ → Printed text room r₂ room₂ → (r₁ ≡ r₂) × (room₁ ≡ room₂)
printed_one p q = (p.count ∙ sym q.count, p.room_after ∙ sym q.room_after)
