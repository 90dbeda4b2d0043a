-- Runs of fields in a part of a list that starts at a byte, and runs that cover whole bytes.
-- Assumes nothing.
use mathlib.Core.Path.{◌≡◌, refl, sym, ap, ◌∙◌}
use mathlib.Core.List.{List, [], ◌∷◌, ◌++◌}
use Prim.Native.Nat.{ℕ, ◌+◌, ◌*◌, ◌-◌, ◌≤◌, ◌<◌}
use native.Mathlib.Nat.{add_assoc}
use native.Mathlib.Decide.{dec_lt}
use native.Mathlib.Omega.{arith}
use lib.ListN.{length, take, drop, replicate, length-replicate, length-append, length-drop, take-append-drop}
use lib.Seq.{length-take-le, take_at, drop_at}
use Rattle.bits.specs.Bits.{Bytes, bit_at, put_field}
use Rattle.bits.proofs.Reading.{field_cong, ext_bits}
use Rattle.bits.proofs.Parts.{bit-drop, bit_front, bit-behind, field-drop, put_drop, bytes-replicate, bytes-append, bytes_drop}
use Rattle.pen.specs.Runs.{total, fields, put_fields, Fit}
use Rattle.pen.proofs.Runs.{read_written, fields_bits, length_puts, bytes_puts, puts_after}

pub fields-drop : (s : List ℕ) (a b : ℕ) (ws : List ℕ) → fields (drop a s) b ws ≡ fields s (a * 8 + b) ws
unfolding fields
fields-drop s a b [] = refl
fields-drop s a b (w ∷ ws) = rw (field-drop s a b w, fields-drop s a (b + w) ws, add_assoc (a * 8) b w)

pub puts_drop : (s : List ℕ) (a b : ℕ) (ws vs : List ℕ) → a ≤ length s →
    put_fields s (a * 8 + b) ws vs ≡ take a s ++ put_fields (drop a s) b ws vs
unfolding put_fields
puts_drop s a b [] vs h = sym (take-append-drop a s)
puts_drop s a b (w ∷ ws) [] h = sym (take-append-drop a s)
puts_drop s a b (w ∷ ws) (v ∷ vs) h =
    let p = take a s in
    let t = put_field (drop a s) b w v in
    let n : length p ≡ a = length-take-le a s h in
    rw (
      put_drop s a b w v h,
      add_assoc (a * 8) b w,
      puts_drop (p ++ t) a (b + w) ws vs (omega (arith, length-append p t)),
      take_at p t a n,
      drop_at p t a n,
    )

pub fields_front : (s t : List ℕ) (at : ℕ) (ws : List ℕ) → at + total ws ≤ length s * 8 → fields (s ++ t) at ws ≡ fields s at ws
unfolding fields total
fields_front s t at [] h = refl
fields_front s t at (w ∷ ws) h =
    rw (field_cong (s ++ t) s at w (λ j l. bit_front s t (at + j) (omega arith)), fields_front s t (at + w) ws (omega arith))

-- fields that cover the first n bytes of s make them what they make of n zero bytes, and leave the rest
pub cover : (s : List ℕ) (n : ℕ) (ws vs : List ℕ) → Bytes s → n ≤ length s → total ws ≡ n * 8 → Fit ws vs →
    put_fields s 0 ws vs ≡ put_fields (replicate n 0) 0 ws vs ++ drop n s
cover s n ws vs h l c f =
    ext_bits x (a ++ r) (bytes_puts s 0 ws vs h)
    (bytes-append a r (bytes_puts z 0 ws vs (bytes-replicate n 0 (omega arith))) (bytes_drop s n h)) len bits
  where
    z : List ℕ
    z = replicate n 0

    zn : length z ≡ n
    zn = length-replicate n 0

    x : List ℕ
    x = put_fields s 0 ws vs

    xn : length x ≡ length s
    xn = length_puts s 0 ws vs

    a : List ℕ
    a = put_fields z 0 ws vs

    an : length a ≡ n
    an = length_puts z 0 ws vs ∙ zn

    r : List ℕ
    r = drop n s

    len : length x ≡ length (a ++ r)
    len = omega (arith, length-append a r, length-drop n s, an, xn)

    same : fields x 0 ws ≡ fields (a ++ r) 0 ws
    same =
        read_written s 0 ws vs (omega arith) f
        ∙ sym (fields_front a r 0 ws (omega (arith, an)) ∙ read_written z 0 ws vs (omega (arith, zn)) f)

    bits : (k : ℕ) → k < length x * 8 → bit_at x k ≡ bit_at (a ++ r) k
    bits k b = go (dec_lt k (n * 8))
      where
        go : Dec (k < n * 8) → bit_at x k ≡ bit_at (a ++ r) k
        go (yes m) = fields_bits x (a ++ r) 0 ws same k (omega arith) (omega arith)
        go (no m) =
            let e : length a * 8 + (k - n * 8) ≡ k = omega (arith, an) in
            let e2 : n * 8 + (k - n * 8) ≡ k = omega arith in
            puts_after s 0 ws vs k (omega arith)
            ∙ sym (ap (bit_at (a ++ r)) (sym e) ∙ bit-behind a r (k - n * 8) ∙ bit-drop s n (k - n * 8) ∙ ap (bit_at s) e2)
