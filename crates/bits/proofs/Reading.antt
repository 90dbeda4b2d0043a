-- Laws of reading a field, over the width.
-- Assumes nothing.
use mathlib.Core.Path.{◌≡◌, refl, sym, ap, ◌∙◌}
use mathlib.Core.List.{List}
use Prim.Native.Nat.{ℕ, zero, suc, ◌+◌, ◌*◌, ◌-◌, ◌/◌, ◌%◌, ◌^◌, ◌<◌}
use native.Mathlib.Nat.{one-mul, add-zero, add-suc, mul_assoc, pow-suc, add_assoc}
use native.Mathlib.Numerals.{add-one}
use native.Mathlib.Omega.{arith}
use lib.ListN.{length, get_or}
use lib.Seq.{ext_get_or}
use lib.Dec.{lit<}
use lib.Pow.{shl_exact, high, low, mod-pow-add, shr-shr}
use Rattle.bits.specs.Bits.{Bytes, bit_at, field}

-- `1 << w` at 64 bits
pub one_shl : (w : ℕ) → w < 64 → 1 * 2 ^ w % 2 ^ 64 ≡ 2 ^ w
one_shl w h = shl_exact {a = 1} 1 w 64 (lit< tt) (omega arith) ∙ one-mul (2 ^ w)

pub bit_lt : (s : List ℕ) (k : ℕ) → bit_at s k < 2
unfolding bit_at
bit_lt s k = omega arith

pub field_lt : (s : List ℕ) (at w : ℕ) → field s at w < 2 ^ w
unfolding field
field_lt s at zero = omega arith
field_lt s at (suc w) = rw pow-suc (omega (arith, field_lt s at w, bit_lt s (at + w)))

-- a field is its first i bits and the w after them
pub field-split : (s : List ℕ) (at i w : ℕ) → field s at (i + w) ≡ field s at i * 2 ^ w + field s (at + i) w
unfolding field
field-split s at i zero = rw (add-zero i) (omega arith)
field-split s at i (suc w) =
    rw (add-suc, field-split s at i w, pow-suc, ← mul_assoc, add_assoc at i w) (omega arith)

-- three neighbouring fields as one
pub field_three : (s : List ℕ) (at a b c : ℕ) →
    field s at (a + b + c) ≡ (field s at a * 2 ^ b + field s (at + a) b) * 2 ^ c + field s (at + a + b) c
field_three s at a b c = rw (field-split s at (a + b) c, field-split s at a b, add_assoc at a b)

-- a field within a field
pub field-within : (s : List ℕ) (at i w k : ℕ) → field s (at + i) w ≡ field s at (i + w + k) / 2 ^ k % 2 ^ w
field-within s at i w k =
    rw (field-split s at (i + w) k, high _ k (field_lt s (at + (i + w)) k), field-split s at i w, low _ w (field_lt s (at + i) w))

bit_byte : (s : List ℕ) (q j k : ℕ) → j + k ≡ 7 → bit_at s (q * 8 + j) ≡ get_or s q 0 / 2 ^ k % 2
unfolding bit_at
bit_byte s q j k e =
    let a : (q * 8 + j) / 8 ≡ q = omega arith in
    let b : 7 - (q * 8 + j) % 8 ≡ k = omega arith in
    rw (a, b)

-- one more low digit of a field of a number
digit : (x w k : ℕ) → x / 2 ^ k % 2 ^ suc w ≡ x / 2 ^ suc k % 2 ^ w * 2 + x / 2 ^ k % 2
digit x w k =
    ap (λ (n : ℕ). x / 2 ^ k % 2 ^ n) (sym (add-one w)) ∙ mod-pow-add (x / 2 ^ k) w 1
    ∙ ap (λ (n : ℕ). n % 2 ^ w * 2 + x / 2 ^ k % 2) (shr-shr x k 1 ∙ ap (λ (n : ℕ). x / 2 ^ n) (add-one k))

-- a field within one byte
pub field_byte : (s : List ℕ) (q r w k : ℕ) → r + w + k ≡ 8 → field s (q * 8 + r) w ≡ get_or s q 0 / 2 ^ k % 2 ^ w
unfolding field
field_byte s q r zero k e = omega arith
field_byte s q r (suc w) k e =
    rw (
      add_assoc (q * 8) r w,
      bit_byte s q (r + w) k (omega arith),
      field_byte s q r w (suc k) (omega arith),
      digit (get_or s q 0) w k,
    )

-- a byte as a whole
pub field_whole : (s : List ℕ) (q : ℕ) → get_or s q 0 < 256 → field s (q * 8) 8 ≡ get_or s q 0
field_whole s q h =
    ap (λ (n : ℕ). field s n 8) (sym (add-zero (q * 8))) ∙ field_byte s q 0 8 0 refl ∙ omega arith

-- four bytes
pub field_window : (s : List ℕ) (q : ℕ) → Bytes s →
    field s (q * 8) 32 ≡ get_or s q 0 * 16777216 + get_or s (q + 1) 0 * 65536 + get_or s (q + 2) 0 * 256 + get_or s (q + 3) 0
field_window s q h =
    let a : q * 8 + 24 ≡ (q + 3) * 8 = omega arith in
    let b : q * 8 + 16 ≡ (q + 2) * 8 = omega arith in
    let d : q * 8 + 8 ≡ (q + 1) * 8 = omega arith in
    let z = field_whole s q (h q) in
    let y = field_whole s (q + 1) (h (q + 1)) in
    let x = field_whole s (q + 2) (h (q + 2)) in
    let w = field_whole s (q + 3) (h (q + 3)) in
    rw (field-split s (q * 8) 24 8, field-split s (q * 8) 16 8, field-split s (q * 8) 8 8, a, b, d, z, y, x, w) (omega arith)

-- a field out of the bits of the bytes that it may touch
pub field_of_window : (s : List ℕ) (at w bits k : ℕ) → at % 8 + w + k ≡ bits → field s at w ≡ field s (at / 8 * 8) bits / 2 ^ k % 2 ^ w
field_of_window s at w bits k e =
    let a : at ≡ at / 8 * 8 + at % 8 = omega arith in
    ap (λ (n : ℕ). field s n w) a
    ∙ field-within s (at / 8 * 8) (at % 8) w k
    ∙ ap (λ (n : ℕ). field s (at / 8 * 8) n / 2 ^ k % 2 ^ w) e

-- fields are equal where their bits are
pub field_cong : (s t : List ℕ) (at w : ℕ) → ((j : ℕ) → j < w → bit_at s (at + j) ≡ bit_at t (at + j)) → field s at w ≡ field t at w
unfolding field
field_cong s t at zero h = refl
field_cong s t at (suc w) h =
    rw (field_cong s t at w (λ j l. h j (omega arith)), h w (omega arith))

pub field_one : (s : List ℕ) (k : ℕ) → field s k 1 ≡ bit_at s k
unfolding field
field_one s k = rw (add-zero k) (omega arith)

-- and the bits are equal where the fields are
pub bits_of_field : (s t : List ℕ) (at w : ℕ) → field s at w ≡ field t at w → (j : ℕ) → j < w →
    bit_at s (at + j) ≡ bit_at t (at + j)
bits_of_field s t at w e j l =
    let k : j + 1 + (w - (j + 1)) ≡ w = omega arith in
    rw (
      ← field_one s (at + j),
      ← field_one t (at + j),
      field-within s at j 1 (w - (j + 1)),
      field-within t at j 1 (w - (j + 1)),
      k,
      e,
    )

-- two lists of bytes of one length, with the same bits, are equal
pub ext_bits : (s t : List ℕ) → Bytes s → Bytes t → length s ≡ length t → ((k : ℕ) → k < length s * 8 → bit_at s k ≡ bit_at t k) →
    s ≡ t
ext_bits s t hs ht e h =
    ext_get_or 0 s t e (λ i l.
    sym (field_whole s i (hs i)) ∙ field_cong s t (i * 8) 8 (λ j m. h (i * 8 + j) (omega arith)) ∙ field_whole t i (ht i))
