-- Laws of writing a field, over the width.
-- Assumes nothing.
use mathlib.Core.Path.{◌≡◌, refl, sym, ap, ◌∙◌}
use mathlib.Core.List.{List}
use Prim.Native.Nat.{ℕ, zero, suc, ◌+◌, ◌*◌, ◌-◌, ◌/◌, ◌%◌, ◌^◌, ◌≤◌, ◌<◌}
use native.Mathlib.Nat.{zero-add, add-zero, add-suc, suc-add, add_comm, add_assoc, mul-one, mul_assoc, suc-mul, pow-suc}
use native.Mathlib.Nat.{mod-lt, mod-eq_of_lt, div-one, mul-le-mul_left, mul-le-mul_right, div-lt_iff_lt-mul}
use native.Mathlib.Numerals.{add-one, one-add}
use native.Mathlib.Decide.{dec_lt, ℕ_discrete}
use native.Mathlib.Omega.{arith}
use lib.ListN.{length, get_or, set, length-set}
use lib.Seq.{set-get_or, set-set, set_out, get_or-set_same, get_or-set_other}
use lib.Pow as pow
use lib.Pow.{pow_pos, pow-add, high, low, shr-shr, mod-mod-pow, split}
use Rattle.bits.specs.Bits.{Bytes, bit_at, field, splice, put_bit, put_field}
use Rattle.bits.proofs.Reading.{one_shl, bit_lt, field_lt, field-split, field_cong, bits_of_field, ext_bits}

-- ---- a number with w digits above its lowest k replaced

splice_high : (w k v x : ℕ) → splice w k v x / 2 ^ k ≡ x / 2 ^ (w + k) * 2 ^ w + v
unfolding splice
splice_high w k v x = high _ k (mod-lt x (pow_pos k))

splice_low : (w k v x : ℕ) → splice w k v x % 2 ^ k ≡ x % 2 ^ k
unfolding splice
splice_low w k v x = low _ k (mod-lt x (pow_pos k))

splice_top : (w k v x : ℕ) → v < 2 ^ w → splice w k v x / 2 ^ (w + k) ≡ x / 2 ^ (w + k)
splice_top w k v x h =
    ap (λ (n : ℕ). splice w k v x / 2 ^ n) (add_comm w k)
    ∙ sym (shr-shr (splice w k v x) k w)
    ∙ ap (λ (n : ℕ). n / 2 ^ w) (splice_high w k v x)
    ∙ high _ w h

splice_mid : (w k v x : ℕ) → v < 2 ^ w → splice w k v x / 2 ^ k % 2 ^ w ≡ v
splice_mid w k v x h = rw (splice_high w k v x, low (x / 2 ^ (w + k)) w h)

splice_none : (k x : ℕ) → splice 0 k 0 x ≡ x
unfolding splice
splice_none k x = rw (zero-add k, mul-one, add-zero) (split x k)

splice_step : (w k u c x b : ℕ) → b / 2 ^ (1 + k) ≡ x / 2 ^ (suc w + k) * 2 ^ w + u → b % 2 ^ k ≡ x % 2 ^ k →
    splice 1 k c b ≡ splice (suc w) k (u * 2 + c) x
unfolding splice
splice_step w k u c x b up down =
    let e : (x / 2 ^ (suc w + k) * 2 ^ w + u) * 2 + c ≡ x / 2 ^ (suc w + k) * 2 ^ suc w + (u * 2 + c) =
    rw (pow-suc 2 w, ← mul_assoc) (omega arith) in
    rw (up, down, e)

splice_whole : (v x : ℕ) → x < 256 → splice 8 0 v x ≡ v
unfolding splice
splice_whole v x h = omega arith

-- one digit more
splice_more : (w k u c x : ℕ) → splice 1 k c (splice w (suc k) u x) ≡ splice (suc w) k (u * 2 + c) x
splice_more w k u c x =
    let b = splice w (suc k) u x in
    let up : b / 2 ^ (1 + k) ≡ x / 2 ^ (suc w + k) * 2 ^ w + u =
    ap (λ (n : ℕ). b / 2 ^ n) (one-add k) ∙ splice_high w (suc k) u x
    ∙ ap (λ (n : ℕ). x / 2 ^ n * 2 ^ w + u) (add-suc w k ∙ sym (suc-add w k)) in
    let down : b % 2 ^ k ≡ x % 2 ^ k =
    sym (mod-mod-pow b 1 k) ∙ ap (λ (n : ℕ). b % 2 ^ n % 2 ^ k) (one-add k)
    ∙ ap (λ (n : ℕ). n % 2 ^ k) (splice_low w (suc k) u x)
    ∙ ap (λ (n : ℕ). x % 2 ^ n % 2 ^ k) (sym (one-add k)) ∙ mod-mod-pow x 1 k in
    splice_step w k u c x b up down

-- ---- a field within one byte

put_bit_byte : (s : List ℕ) (q j k c : ℕ) → j + k ≡ 7 → put_bit s (q * 8 + j) c ≡ set s q (splice 1 k c (get_or s q 0))
unfolding put_bit
put_bit_byte s q j k c e =
    let a : (q * 8 + j) / 8 ≡ q = omega arith in
    let b : 7 - (q * 8 + j) % 8 ≡ k = omega arith in
    rw (a, b)

-- a store of what a function makes of the entry, after a store at the same place
set_over : (s : List ℕ) (q b : ℕ) (f : ℕ → ℕ) → set (set s q b) q (f (get_or (set s q b) q 0)) ≡ set s q (f b)
set_over s q b f = go (dec_lt q (length s))
  where
    go : Dec (q < length s) → set (set s q b) q (f (get_or (set s q b) q 0)) ≡ set s q (f b)
    go (yes l) = rw (get_or-set_same s q b 0 l) (set-set s q b (f b))
    go (no n) =
        set-set s q b (f (get_or (set s q b) q 0)) ∙ set_out s q _ (omega arith) ∙ sym (set_out s q (f b) (omega arith))

pub put_byte : (s : List ℕ) (q r w k v : ℕ) → r + w + k ≡ 8 → v < 2 ^ w →
    put_field s (q * 8 + r) w v ≡ set s q (splice w k v (get_or s q 0))
unfolding put_field
put_byte s q r zero k v e h =
    let z : v ≡ 0 = omega arith in
    rw (z, splice_none k (get_or s q 0)) (sym (set-get_or s q 0))
put_byte s q r (suc w) k v e h =
    let v2 : v / 2 < 2 ^ w = omega (arith, pow-suc 2 w) in
    let v3 : v / 2 * 2 + v % 2 ≡ v = omega arith in
    rw (
      put_byte s q r w (suc k) (v / 2) (omega arith) v2,
      add_assoc (q * 8) r w,
      put_bit_byte _ q (r + w) k (v % 2) (omega arith),
    )
    (set_over s q (splice w (suc k) (v / 2) (get_or s q 0)) (splice 1 k (v % 2))
    ∙ ap (set s q) (splice_more w k (v / 2) (v % 2) (get_or s q 0) ∙ ap (λ (n : ℕ). splice (suc w) k n (get_or s q 0)) v3))

-- a byte as a whole
pub put_whole : (s : List ℕ) (q v : ℕ) → get_or s q 0 < 256 → v < 256 → put_field s (q * 8) 8 v ≡ set s q v
put_whole s q v h l =
    ap (λ (n : ℕ). put_field s n 8 v) (sym (add-zero (q * 8))) ∙ put_byte s q 0 8 0 v refl l
    ∙ ap (set s q) (splice_whole v (get_or s q 0) h)

-- ---- lengths

length-put_bit : (s : List ℕ) (k c : ℕ) → length (put_bit s k c) ≡ length s
unfolding put_bit
length-put_bit s k c = length-set s (k / 8) (splice 1 (7 - k % 8) c (get_or s (k / 8) 0))

pub length_put : (s : List ℕ) (at w v : ℕ) → length (put_field s at w v) ≡ length s
unfolding put_field
length_put s at zero v = refl
length_put s at (suc w) v = length-put_bit (put_field s at w (v / 2)) (at + w) (v % 2) ∙ length_put s at w (v / 2)

-- ---- a field is its first i bits and the w after them

pub put_split : (s : List ℕ) (at i w v : ℕ) →
    put_field s at (i + w) v ≡ put_field (put_field s at i (v / 2 ^ w)) (at + i) w (v % 2 ^ w)
unfolding put_field
put_split s at i zero v = rw (add-zero i, div-one v)
put_split s at i (suc w) v =
    let a : v / 2 / 2 ^ w ≡ v / 2 ^ suc w = shr-shr v 1 w ∙ ap (λ (n : ℕ). v / 2 ^ n) (one-add w) in
    let b : v / 2 % 2 ^ w ≡ v % 2 ^ suc w / 2 = sym (pow.field v w 1) ∙ ap (λ (n : ℕ). v % 2 ^ n / 2) (add-one w) in
    let c : v % 2 ≡ v % 2 ^ suc w % 2 = sym (mod-mod-pow v w 1) ∙ ap (λ (n : ℕ). v % 2 ^ n % 2) (add-one w) in
    rw (add-suc i w, put_split s at i w (v / 2), add_assoc at i w, a, b, ← c)

-- two neighbouring fields as one
pub put_two : (s : List ℕ) (at a b x y : ℕ) → y < 2 ^ b →
    put_field s at (a + b) (x * 2 ^ b + y) ≡ put_field (put_field s at a x) (at + a) b y
put_two s at a b x y h = rw (put_split s at a b (x * 2 ^ b + y), high x b h, low x b h)

-- and it fits
pub append_lt : (a b x y : ℕ) → x < 2 ^ a → y < 2 ^ b → x * 2 ^ b + y < 2 ^ (a + b)
append_lt a b x y h l =
    let k : suc x * 2 ^ b ≤ 2 ^ a * 2 ^ b = mul-le-mul_right (2 ^ b) h in
    rw (pow-add 2 a b) (omega (arith, suc-mul x (2 ^ b)))

-- three neighbouring fields as one
pub put_three : (s : List ℕ) (at a b c x y z : ℕ) → x < 2 ^ a → y < 2 ^ b → z < 2 ^ c →
    put_field s at (a + b + c) ((x * 2 ^ b + y) * 2 ^ c + z)
    ≡ put_field (put_field (put_field s at a x) (at + a) b y) (at + a + b) c z
put_three s at a b c x y z _ hy hz =
    rw (put_two s at (a + b) c (x * 2 ^ b + y) z hz, put_two s at a b x y hy, add_assoc at a b)

-- ---- one bit

bit_num_above : (a d c x : ℕ) → c < 2 → splice 1 a c x / 2 ^ (1 + a + d) % 2 ≡ x / 2 ^ (1 + a + d) % 2
bit_num_above a d c x h =
    ap (λ (n : ℕ). n % 2)
    (sym (shr-shr (splice 1 a c x) (1 + a) d) ∙ ap (λ (n : ℕ). n / 2 ^ d) (splice_top 1 a c x h) ∙ shr-shr x (1 + a) d)

bit_num_below : (b d c x : ℕ) → splice 1 (d + (1 + b)) c x / 2 ^ b % 2 ≡ x / 2 ^ b % 2
bit_num_below b d c x =
    let y = splice 1 (d + (1 + b)) c x in
    let e : y % 2 ^ (1 + b) ≡ x % 2 ^ (1 + b) =
    sym (mod-mod-pow y d (1 + b)) ∙ ap (λ (n : ℕ). n % 2 ^ (1 + b)) (splice_low 1 (d + (1 + b)) c x) ∙ mod-mod-pow x d (1 + b) in
    sym (pow.field y 1 b) ∙ ap (λ (n : ℕ). n / 2 ^ b) e ∙ pow.field x 1 b

bit_num_other : (a b c x : ℕ) → (a ≡ b → ⊥) → c < 2 → splice 1 a c x / 2 ^ b % 2 ≡ x / 2 ^ b % 2
bit_num_other a b c x n h = go (dec_lt a b)
  where
    go : Dec (a < b) → splice 1 a c x / 2 ^ b % 2 ≡ x / 2 ^ b % 2
    go (yes l) =
        let e : b ≡ 1 + a + (b - (1 + a)) = omega arith in
        ap (λ (n : ℕ). splice 1 a c x / 2 ^ n % 2) e ∙ bit_num_above a (b - (1 + a)) c x h ∙ ap (λ (n : ℕ). x / 2 ^ n % 2) (sym e)
    go (no m) =
        let e : a ≡ a - (1 + b) + (1 + b) = omega arith in
        ap (λ (n : ℕ). splice 1 n c x / 2 ^ b % 2) e ∙ bit_num_below b (a - (1 + b)) c x

pub bit_put_same : (s : List ℕ) (k c : ℕ) → k < length s * 8 → c < 2 → bit_at (put_bit s k c) k ≡ c
unfolding bit_at put_bit
bit_put_same s k c l h =
    rw (get_or-set_same s (k / 8) (splice 1 (7 - k % 8) c (get_or s (k / 8) 0)) 0 (omega arith)) (splice_mid 1 (7 - k % 8) c _ h)

pub bit_put_other : (s : List ℕ) (k j c : ℕ) → (j ≡ k → ⊥) → c < 2 → bit_at (put_bit s k c) j ≡ bit_at s j
unfolding bit_at put_bit
bit_put_other s k j c n h = go (ℕ_discrete (j / 8) (k / 8)) (dec_lt (k / 8) (length s))
  where
    v : ℕ
    v = splice 1 (7 - k % 8) c (get_or s (k / 8) 0)

    go : Dec (j / 8 ≡ k / 8) → Dec (k / 8 < length s) →
        get_or (set s (k / 8) v) (j / 8) 0 / 2 ^ (7 - j % 8) % 2 ≡ get_or s (j / 8) 0 / 2 ^ (7 - j % 8) % 2
    go (no m) d = rw (get_or-set_other s (k / 8) (j / 8) v 0 m)
    go (yes e) (no m) = rw (set_out s (k / 8) v (omega arith))
    go (yes e) (yes l) = rw (e, get_or-set_same s (k / 8) v 0 l) (bit_num_other (7 - k % 8) (7 - j % 8) c _ (omega arith) h)

-- ---- frame: all other bits are as they were

pub put_before : (s : List ℕ) (at w v j : ℕ) → j < at → bit_at (put_field s at w v) j ≡ bit_at s j
unfolding put_field
put_before s at zero v j h = refl
put_before s at (suc w) v j h = bit_put_other _ (at + w) j (v % 2) (omega arith) (omega arith) ∙ put_before s at w (v / 2) j h

pub put_after : (s : List ℕ) (at w v j : ℕ) → at + w ≤ j → bit_at (put_field s at w v) j ≡ bit_at s j
unfolding put_field
put_after s at zero v j h = refl
put_after s at (suc w) v j h = bit_put_other _ (at + w) j (v % 2) (omega arith) (omega arith)
    ∙ put_after s at w (v / 2) j (omega arith)

-- a field before, and one after, the written one
pub get-before : (s : List ℕ) (at w v b u : ℕ) → b + u ≤ at → field (put_field s at w v) b u ≡ field s b u
get-before s at w v b u h = field_cong _ _ b u (λ j l. put_before s at w v (b + j) (omega arith))

pub get_after : (s : List ℕ) (at w v b u : ℕ) → at + w ≤ b → field (put_field s at w v) b u ≡ field s b u
get_after s at w v b u h = field_cong _ _ b u (λ j l. put_after s at w v (b + j) (omega arith))

-- ---- the written field itself

pub get_put : (s : List ℕ) (at w v : ℕ) → at + w ≤ length s * 8 → v < 2 ^ w → field (put_field s at w v) at w ≡ v
unfolding put_field field
get_put s at zero v h l = omega arith
get_put s at (suc w) v h l =
    let t = put_field s at w (v / 2) in
    let a : field (put_bit t (at + w) (v % 2)) at w ≡ field t at w =
    field_cong _ _ at w (λ j m. bit_put_other t (at + w) (at + j) (v % 2) (omega arith) (omega arith)) in
    let b : bit_at (put_bit t (at + w) (v % 2)) (at + w) ≡ v % 2 =
    bit_put_same t (at + w) (v % 2) (omega (arith, length_put s at w (v / 2))) (omega arith) in
    rw (a, b, get_put s at w (v / 2) (omega arith) (omega (arith, pow-suc 2 w))) (omega arith)

-- ---- writing what is there changes nothing

bit_num_put_get : (a x : ℕ) → splice 1 a (x / 2 ^ a % 2) x ≡ x
unfolding splice
bit_num_put_get a x =
    let e : x / 2 ^ (1 + a) ≡ x / 2 ^ a / 2 = ap (λ (n : ℕ). x / 2 ^ n) (add_comm 1 a) ∙ sym (shr-shr x a 1) in
    let f : x / 2 ^ a / 2 * 2 + x / 2 ^ a % 2 ≡ x / 2 ^ a = omega arith in
    rw (e, f) (split x a)

put_get-bit : (s : List ℕ) (k : ℕ) → put_bit s k (bit_at s k) ≡ s
unfolding put_bit bit_at
put_get-bit s k = rw (bit_num_put_get (7 - k % 8) (get_or s (k / 8) 0)) (set-get_or s (k / 8) 0)

pub put_get : (s : List ℕ) (at w : ℕ) → put_field s at w (field s at w) ≡ s
unfolding put_field field
put_get s at zero = refl
put_get s at (suc w) =
    let f = field s at w in
    let b = bit_at s (at + w) in
    let e : (f * 2 + b) / 2 ≡ f = omega (arith, bit_lt s (at + w)) in
    let g : (f * 2 + b) % 2 ≡ b = omega (arith, bit_lt s (at + w)) in
    rw (e, g, put_get s at w) (put_get-bit s (at + w))

-- ---- a field within a field: only the bits of the inner one change

pub put_within : (s : List ℕ) (at i w k v : ℕ) → v < 2 ^ w →
    put_field s at (i + w + k) (splice w k v (field s at (i + w + k))) ≡ put_field s (at + i) w v
put_within s at i w k v h =
    let x = field s at (i + w + k) in
    let y = splice w k v x in
    let xk : x ≡ field s at (i + w) * 2 ^ k + field s (at + (i + w)) k = field-split s at (i + w) k in
    let lo : y % 2 ^ k ≡ field s (at + (i + w)) k =
    splice_low w k v x ∙ ap (λ (n : ℕ). n % 2 ^ k) xk ∙ low _ k (field_lt s (at + (i + w)) k) in
    let xw : x / 2 ^ (w + k) ≡ field s at i =
    ap (λ (n : ℕ). x / 2 ^ n) (add_comm w k) ∙ sym (shr-shr x k w)
    ∙ ap (λ (n : ℕ). n / 2 ^ k / 2 ^ w) xk ∙ ap (λ (n : ℕ). n / 2 ^ w) (high _ k (field_lt s (at + (i + w)) k))
    ∙ ap (λ (n : ℕ). n / 2 ^ w) (field-split s at i w) ∙ high _ w (field_lt s (at + i) w) in
    let up : y / 2 ^ k ≡ field s at i * 2 ^ w + v = splice_high w k v x ∙ ap (λ (n : ℕ). n * 2 ^ w + v) xw in
    put_split s at (i + w) k y
    ∙ rw (lo, up, put_split s at i w (field s at i * 2 ^ w + v), high (field s at i) w h, low (field s at i) w h, put_get s at i)
    (ap (put_field (put_field s (at + i) w v) (at + (i + w)) k) (sym (get_after s (at + i) w v (at + (i + w)) k (omega arith)))
    ∙ put_get (put_field s (at + i) w v) (at + (i + w)) k)

-- ---- a list of bytes stays one

pub bytes-set : (s : List ℕ) (q b : ℕ) → Bytes s → b < 256 → Bytes (set s q b)
bytes-set s q b h l i = go (ℕ_discrete i q) (dec_lt q (length s))
  where
    go : Dec (i ≡ q) → Dec (q < length s) → get_or (set s q b) i 0 < 256
    go (no n) d = rw (get_or-set_other s q i b 0 n) (h i)
    go (yes e) (no n) = rw (set_out s q b (omega arith)) (h i)
    go (yes e) (yes m) = rw (e, get_or-set_same s q b 0 m) l

pub splice_lt : (n w k v x : ℕ) → w + k ≤ n → v < 2 ^ w → x < 2 ^ n → splice w k v x < 2 ^ n
splice_lt n w k v x a h l =
    let i : n - (w + k) + (w + k) ≡ n = omega arith in
    let e : 2 ^ n ≡ 2 ^ (n - (w + k)) * 2 ^ (w + k) = ap (λ (m : ℕ). 2 ^ m) (sym i) ∙ pow-add 2 (n - (w + k)) (w + k) in
    rw e
    ((div-lt_iff_lt-mul (pow_pos (w + k))).0 (rw (splice_top w k v x h) ((div-lt_iff_lt-mul (pow_pos (w + k))).1 (rw e at l))))

-- a splice within four bytes loses nothing in a machine's 64 bits
pub record Spliced (w k v x : ℕ) : Type 0 where
  pub high : x / 2 ^ (w + k) * 2 ^ w % 2 ^ 64 ≡ x / 2 ^ (w + k) * 2 ^ w
  pub sum : x / 2 ^ (w + k) * 2 ^ w + v < 2 ^ 32
  pub shifted : (x / 2 ^ (w + k) * 2 ^ w + v) * 2 ^ k % 2 ^ 64 ≡ (x / 2 ^ (w + k) * 2 ^ w + v) * 2 ^ k
  pub mask : 1 * 2 ^ k % 2 ^ 64 ≡ 2 ^ k
  pub whole : (x / 2 ^ (w + k) * 2 ^ w + v) * 2 ^ k + x % 2 ^ k < 2 ^ 32

pub in_64 : (w k v x : ℕ) → w + k ≤ 32 → v < 2 ^ w → x < 2 ^ 32 → Spliced w k v x
unfolding splice
in_64 w k v x a h l =
    let all : (x / 2 ^ (w + k) * 2 ^ w + v) * 2 ^ k + x % 2 ^ k < 2 ^ 32 = splice_lt 32 w k v x a h l in
    let le : (x / 2 ^ (w + k) * 2 ^ w + v) * 1 ≤ (x / 2 ^ (w + k) * 2 ^ w + v) * 2 ^ k =
    mul-le-mul_left (x / 2 ^ (w + k) * 2 ^ w + v) (pow_pos k) in
    let le2 : x / 2 ^ (w + k) * 2 ^ w + v < 2 ^ 32 = omega arith in
    record {
      high = mod-eq_of_lt (omega arith);
      sum = le2;
      shifted = mod-eq_of_lt (omega arith);
      mask = one_shl k (omega arith);
      whole = all;
    }

bytes-put_bit : (s : List ℕ) (k c : ℕ) → Bytes s → c < 2 → Bytes (put_bit s k c)
unfolding put_bit
bytes-put_bit s k c h l = bytes-set s (k / 8) _ h (splice_lt 8 1 (7 - k % 8) c (get_or s (k / 8) 0) (omega arith) l (h (k / 8)))

pub bytes_put : (s : List ℕ) (at w v : ℕ) → Bytes s → Bytes (put_field s at w v)
unfolding put_field
bytes_put s at zero v h = h
bytes_put s at (suc w) v h = bytes-put_bit (put_field s at w (v / 2)) (at + w) (v % 2) (bytes_put s at w (v / 2) h) (omega arith)

-- ---- four bytes

pub put_window : (s : List ℕ) (q y : ℕ) → Bytes s → y < 4294967296 →
    put_field s (q * 8) 32 y
    ≡ set (set (set (set s q (y / 16777216)) (q + 1) (y / 65536 % 256)) (q + 2) (y / 256 % 256)) (q + 3) (y % 256)
put_window s q y h l =
    let a : q * 8 + 24 ≡ (q + 3) * 8 = omega arith in
    let b : q * 8 + 16 ≡ (q + 2) * 8 = omega arith in
    let c : q * 8 + 8 ≡ (q + 1) * 8 = omega arith in
    let d : y / 256 / 256 ≡ y / 65536 = omega arith in
    let e : y / 65536 / 256 ≡ y / 16777216 = omega arith in
    let s1 = set s q (y / 16777216) in
    let h1 : Bytes s1 = bytes-set s q (y / 16777216) h (omega arith) in
    let s2 = set s1 (q + 1) (y / 65536 % 256) in
    let h2 : Bytes s2 = bytes-set s1 (q + 1) (y / 65536 % 256) h1 (omega arith) in
    let s3 = set s2 (q + 2) (y / 256 % 256) in
    let h3 : Bytes s3 = bytes-set s2 (q + 2) (y / 256 % 256) h2 (omega arith) in
    rw (
      put_split s (q * 8) 24 8 y,
      put_split s (q * 8) 16 8 (y / 256),
      d,
      put_split s (q * 8) 8 8 (y / 65536),
      e,
      a,
      b,
      c,
      put_whole s q (y / 16777216) (h q) (omega arith),
      put_whole s1 (q + 1) (y / 65536 % 256) (h1 (q + 1)) (omega arith),
      put_whole s2 (q + 2) (y / 256 % 256) (h2 (q + 2)) (omega arith),
      put_whole s3 (q + 3) (y % 256) (h3 (q + 3)) (omega arith),
    )

-- a field into the four bytes that it may touch
pub put_of_window : (s : List ℕ) (at w k v : ℕ) → at % 8 + w + k ≡ 32 → v < 2 ^ w →
    put_field s at w v ≡ put_field s (at / 8 * 8) 32 (splice w k v (field s (at / 8 * 8) 32))
put_of_window s at w k v e l =
    let a : at ≡ at / 8 * 8 + at % 8 = omega arith in
    ap (λ (n : ℕ). put_field s n w v) a
    ∙ sym (put_within s (at / 8 * 8) (at % 8) w k v l)
    ∙ rw e

-- ---- fields apart

pub bits_put : (s t : List ℕ) (at w v : ℕ) → at + w ≤ length s * 8 → length s ≡ length t → v < 2 ^ w →
    (j : ℕ) → at ≤ j → j < at + w → bit_at (put_field s at w v) j ≡ bit_at (put_field t at w v) j
bits_put s t at w v h e l j a b =
    let z : at + (j - at) ≡ j = omega arith in
    rw z at (bits_of_field (put_field s at w v) (put_field t at w v) at w
    (get_put s at w v h l ∙ sym (get_put t at w v (omega arith) l)) (j - at) (omega arith))

-- writing the field again
pub put_put : (s : List ℕ) (at w v u : ℕ) → Bytes s → at + w ≤ length s * 8 → u < 2 ^ w →
    put_field (put_field s at w v) at w u ≡ put_field s at w u
put_put s at w v u h r l =
    let t = put_field s at w v in
    let n : length t ≡ length s = length_put s at w v in
    let n1 : length (put_field t at w u) ≡ length t = length_put t at w u in
    let n2 : length (put_field s at w u) ≡ length s = length_put s at w u in
    ext_bits (put_field t at w u) (put_field s at w u) (bytes_put t at w u (bytes_put s at w v h)) (bytes_put s at w u h)
    (omega arith)
    (λ k _. go k (dec_lt k at) (dec_lt k (at + w)))
  where
    go : (k : ℕ) → Dec (k < at) → Dec (k < at + w) →
        bit_at (put_field (put_field s at w v) at w u) k ≡ bit_at (put_field s at w u) k
    go k (yes a) d = put_before _ at w u k a ∙ put_before s at w v k a ∙ sym (put_before s at w u k a)
    go k (no a) (yes b) = bits_put (put_field s at w v) s at w u (omega (arith, length_put s at w v)) (length_put s at w v) l k
        (omega arith) b
    go k (no a) (no b) = put_after _ at w u k (omega arith) ∙ put_after s at w v k (omega arith)
        ∙ sym (put_after s at w u k (omega arith))

-- two fields, the first before the second, in either order
pub put_comm : (s : List ℕ) (at w v b u x : ℕ) → Bytes s → at + w ≤ b → b + u ≤ length s * 8 → v < 2 ^ w → x < 2 ^ u →
    put_field (put_field s at w v) b u x ≡ put_field (put_field s b u x) at w v
put_comm s at w v b u x h o r l m =
    let s1 = put_field s at w v in
    let s2 = put_field s b u x in
    let n1 : length s1 ≡ length s = length_put s at w v in
    let n2 : length s2 ≡ length s = length_put s b u x in
    let n3 : length (put_field s1 b u x) ≡ length s1 = length_put s1 b u x in
    let n4 : length (put_field s2 at w v) ≡ length s2 = length_put s2 at w v in
    ext_bits (put_field s1 b u x) (put_field s2 at w v) (bytes_put s1 b u x (bytes_put s at w v h))
    (bytes_put s2 at w v (bytes_put s b u x h)) (omega arith)
    (λ k _. go k (dec_lt k at) (dec_lt k (at + w)) (dec_lt k b) (dec_lt k (b + u)))
  where
    go : (k : ℕ) → Dec (k < at) → Dec (k < at + w) → Dec (k < b) → Dec (k < b + u) →
        bit_at (put_field (put_field s at w v) b u x) k ≡ bit_at (put_field (put_field s b u x) at w v) k
    go k (yes i) _ _ _ =
        put_before _ b u x k (omega arith) ∙ put_before s at w v k i
        ∙ sym (put_before _ at w v k i ∙ put_before s b u x k (omega arith))
    go k (no i) (yes j) _ _ =
        put_before _ b u x k (omega arith)
        ∙ bits_put s (put_field s b u x) at w v (omega arith) (sym (length_put s b u x)) l k (omega arith) j
    go k (no i) (no j) (yes c) _ =
        put_before _ b u x k c ∙ put_after s at w v k (omega arith)
        ∙ sym (put_after _ at w v k (omega arith) ∙ put_before s b u x k c)
    go k (no i) (no j) (no c) (yes d) =
        bits_put (put_field s at w v) s b u x (omega (arith, length_put s at w v)) (length_put s at w v) m k (omega arith) d
        ∙ sym (put_after _ at w v k (omega arith))
    go k (no i) (no j) (no c) (no d) =
        put_after _ b u x k (omega arith) ∙ put_after s at w v k (omega arith)
        ∙ sym (put_after _ at w v k (omega arith) ∙ put_after s b u x k (omega arith))
