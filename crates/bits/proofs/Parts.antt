-- A field in a part of a list that starts at a byte, and parts put together.
-- Assumes nothing.
use mathlib.Core.Path.{◌≡◌, refl, sym, ap, ◌∙◌}
use mathlib.Core.List.{List, [], ◌∷◌, ◌++◌, append-nil, append_assoc}
use Prim.Native.Nat.{ℕ, zero, suc, ◌+◌, ◌*◌, ◌-◌, ◌/◌, ◌%◌, ◌≤◌, ◌<◌}
use native.Mathlib.Nat.{add_assoc}
use native.Mathlib.Decide.{dec_lt}
use native.Mathlib.Numerals.{add-one}
use native.Mathlib.Omega.{arith}
use lib.ListN.{length, get_or, set, take, drop, replicate, length-drop, drop_of_length-le, take-append-drop}
use lib.ListN.{length-replicate, get_or-replicate, get_or-append, get_or-eq_default}
use lib.Seq.{take_all, get_or-drop, drop-set-add, take-set-le, length-take-le, take_at, drop_at, drop-cons, set_at, get_or-append-add}
use Rattle.bits.specs.Bits.{Bytes, bit_at, field, put_bit, put_field}

pub bit-drop : (s : List ℕ) (a b : ℕ) → bit_at (drop a s) b ≡ bit_at s (a * 8 + b)
unfolding bit_at
bit-drop s a b =
    let e : (a * 8 + b) / 8 ≡ a + b / 8 = omega arith in
    let f : (a * 8 + b) % 8 ≡ b % 8 = omega arith in
    rw (e, f, get_or-drop a s (b / 8) 0)

pub bit_front : (s t : List ℕ) (k : ℕ) → k < length s * 8 → bit_at (s ++ t) k ≡ bit_at s k
unfolding bit_at
bit_front s t k h = rw (get_or-append s t 0 (k / 8) (omega arith))

pub bit-behind : (s t : List ℕ) (k : ℕ) → bit_at (s ++ t) (length s * 8 + k) ≡ bit_at t k
bit-behind s t k = sym (bit-drop (s ++ t) (length s) k) ∙ rw (drop_at s t (length s) refl)

pub field-drop : (s : List ℕ) (a b w : ℕ) → field (drop a s) b w ≡ field s (a * 8 + b) w
unfolding field
field-drop s a b zero = refl
field-drop s a b (suc w) = rw (field-drop s a b w, bit-drop s a (b + w), add_assoc (a * 8) b w)

set-drop : (s : List ℕ) (a j x : ℕ) → set s (a + j) x ≡ take a s ++ set (drop a s) j x
set-drop s a j x =
    sym (take-append-drop a (set s (a + j) x))
    ∙ rw (take-set-le a s (a + j) x (omega arith), drop-set-add a s j x)

put_bit-drop : (s : List ℕ) (a b c : ℕ) → put_bit s (a * 8 + b) c ≡ take a s ++ put_bit (drop a s) b c
unfolding put_bit
put_bit-drop s a b c =
    let e : (a * 8 + b) / 8 ≡ a + b / 8 = omega arith in
    let f : (a * 8 + b) % 8 ≡ b % 8 = omega arith in
    rw (e, f, get_or-drop a s (b / 8) 0) (set-drop s a (b / 8) _)

pub put_drop : (s : List ℕ) (a b w v : ℕ) → a ≤ length s → put_field s (a * 8 + b) w v ≡ take a s ++ put_field (drop a s) b w v
unfolding put_field
put_drop s a b zero v h = sym (take-append-drop a s)
put_drop s a b (suc w) v h =
    let p = take a s in
    let t = put_field (drop a s) b w (v / 2) in
    let n : length p ≡ a = length-take-le a s h in
    rw (
      put_drop s a b w (v / 2) h,
      add_assoc (a * 8) b w,
      put_bit-drop (p ++ t) a (b + w) (v % 2),
      take_at p t a n,
      drop_at p t a n,
    )

-- the part of a slice from a on, as it is lent, and as it comes back
pub lent_tail : (s : List ℕ) (a : ℕ) → take (length s - a) (drop a s) ≡ drop a s
lent_tail s a = take_all (length s - a) (drop a s) (rw (length-drop a s) (omega arith))

pub back_tail : (s t : List ℕ) (a : ℕ) → take a s ++ (t ++ drop (length s - a) (drop a s)) ≡ take a s ++ t
back_tail s t a = rw (drop_of_length-le (drop a s) {i = length s - a} (rw (length-drop a s) (omega arith)), append-nil t)

-- a store behind a part that is made
pub store_more : (xs d : List ℕ) (n v : ℕ) → length xs ≡ n → n < length d →
    set (xs ++ drop n d) n v ≡ (xs ++ (v ∷ [])) ++ drop (n + 1) d
store_more xs d n v e h =
    rw (drop-cons d n 0 h, set_at xs (get_or d n 0) (drop (suc n) d) v n e, add-one n)
    (sym (append_assoc xs (v ∷ []) (drop (suc n) d)))

-- ---- lists of bytes

pub bytes-replicate : (n b : ℕ) → b < 256 → Bytes (replicate n b)
bytes-replicate n b h i = go (dec_lt i n)
  where
    go : Dec (i < n) → get_or (replicate n b) i 0 < 256
    go (yes l) = rw (get_or-replicate n i b 0 l) h
    go (no m) = rw (get_or-eq_default (replicate n b) 0 {n = i} (rw (length-replicate n b) (omega arith))) (omega arith)

pub bytes-append : (s t : List ℕ) → Bytes s → Bytes t → Bytes (s ++ t)
bytes-append s t hs ht i = go (dec_lt i (length s))
  where
    go : Dec (i < length s) → get_or (s ++ t) i 0 < 256
    go (yes l) = rw (get_or-append s t 0 i l) (hs i)
    go (no m) =
        let e : length s + (i - length s) ≡ i = omega arith in
        let g : get_or (s ++ t) i 0 ≡ get_or t (i - length s) 0 =
        ap (λ (k : ℕ). get_or (s ++ t) k 0) (sym e) ∙ get_or-append-add s t (i - length s) 0 in
        rw g (ht (i - length s))

pub bytes_drop : (s : List ℕ) (a : ℕ) → Bytes s → Bytes (drop a s)
bytes_drop s a h i = rw (get_or-drop a s i 0) (h (a + i))
