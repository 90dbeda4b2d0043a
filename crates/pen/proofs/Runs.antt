-- Laws of runs of fields: reading and writing undo each other.
-- Assumes nothing.
use mathlib.Core.Path.{◌≡◌, refl, sym, ap, ◌∙◌}
use mathlib.Core.List.{List, [], ◌∷◌, ◌++◌}
use Prim.Native.Nat.{ℕ, zero, suc, ◌+◌, ◌*◌, ◌-◌, ◌^◌, ◌≤◌, ◌<◌}
use native.Mathlib.Nat.{zero-add, add-zero, suc-mul, zero-mul, add-mul, add_assoc, mul-le-mul_right}
use native.Mathlib.Decide.{dec_lt}
use native.Mathlib.Omega.{arith}
use lib.ListN.{length, get_or, replicate, replicate-append-replicate}
use Rattle.bits.specs.Bits.{Bytes, bit_at, field, put_field}
use Rattle.bits.proofs.Reading.{field_lt, field_cong, bits_of_field, ext_bits}
use Rattle.bits.proofs.Writing.{length_put, bytes_put, get_put, put_before, put_after}
use Rattle.pen.specs.Runs.{total, fields, put_fields, Fit}

-- ---- widths, and values that fit them

pub total-append : (us ws : List ℕ) → total (us ++ ws) ≡ total us + total ws
unfolding total
total-append [] ws = sym (zero-add (total ws))
total-append (u ∷ us) ws = rw (total-append us ws) (sym (add_assoc u (total us) (total ws)))

pub total-replicate : (n w : ℕ) → total (replicate n w) ≡ n * w
unfolding total
total-replicate zero w = sym (zero-mul w)
total-replicate (suc n) w = rw (total-replicate n w, suc-mul n w) (omega arith)

pub fit_length : (ws vs : List ℕ) → Fit ws vs → length ws ≡ length vs
unfolding Fit
fit_length [] [] f = refl
fit_length [] (v ∷ vs) f = absurd f
fit_length (w ∷ ws) [] f = absurd f
fit_length (w ∷ ws) (v ∷ vs) f = ap suc (fit_length ws vs f.1)

pub fit_append : (us ws vs xs : List ℕ) → Fit us vs → Fit ws xs → Fit (us ++ ws) (vs ++ xs)
unfolding Fit
fit_append [] ws [] xs f g = g
fit_append [] ws (v ∷ vs) xs f g = absurd f
fit_append (u ∷ us) ws [] xs f g = absurd f
fit_append (u ∷ us) ws (v ∷ vs) xs f g = (f.0, fit_append us ws vs xs f.1 g)

pub fit_run : (n w : ℕ) (vs : List ℕ) → length vs ≡ n → ((i : ℕ) → get_or vs i 0 < 2 ^ w) → Fit (replicate n w) vs
unfolding Fit
fit_run zero w [] e h = tt
fit_run zero w (v ∷ vs) e h = absurd (omega arith)
fit_run (suc n) w [] e h = absurd (omega arith)
fit_run (suc n) w (v ∷ vs) e h = (h 0, fit_run n w vs (omega arith) (λ i. h (suc i)))

-- ---- reading

pub fields-append : (s : List ℕ) (at : ℕ) (us ws : List ℕ) →
    fields s at (us ++ ws) ≡ fields s at us ++ fields s (at + total us) ws
unfolding fields total
fields-append s at [] ws = rw (add-zero at)
fields-append s at (u ∷ us) ws =
    ap {B = List ℕ} (λ r. field s at u ∷ r) (fields-append s (at + u) us ws ∙ rw (add_assoc at u (total us)))

pub length_fields : (s : List ℕ) (at : ℕ) (ws : List ℕ) → length (fields s at ws) ≡ length ws
unfolding fields
length_fields s at [] = refl
length_fields s at (w ∷ ws) = ap suc (length_fields s (at + w) ws)

-- what is read fits
pub fields_fit : (s : List ℕ) (at : ℕ) (ws : List ℕ) → Fit ws (fields s at ws)
unfolding fields Fit
fields_fit s at [] = tt
fields_fit s at (w ∷ ws) = (field_lt s at w, fields_fit s (at + w) ws)

-- ---- writing

pub length_puts : (s : List ℕ) (at : ℕ) (ws vs : List ℕ) → length (put_fields s at ws vs) ≡ length s
unfolding put_fields
length_puts s at [] vs = refl
length_puts s at (w ∷ ws) [] = refl
length_puts s at (w ∷ ws) (v ∷ vs) = length_puts (put_field s at w v) (at + w) ws vs ∙ length_put s at w v

pub bytes_puts : (s : List ℕ) (at : ℕ) (ws vs : List ℕ) → Bytes s → Bytes (put_fields s at ws vs)
unfolding put_fields
bytes_puts s at [] vs h = h
bytes_puts s at (w ∷ ws) [] h = h
bytes_puts s at (w ∷ ws) (v ∷ vs) h = bytes_puts (put_field s at w v) (at + w) ws vs (bytes_put s at w v h)

pub puts_append : (s : List ℕ) (at : ℕ) (us ws vs xs : List ℕ) → length us ≡ length vs →
    put_fields s at (us ++ ws) (vs ++ xs) ≡ put_fields (put_fields s at us vs) (at + total us) ws xs
unfolding put_fields total
puts_append s at [] ws [] xs e = rw (add-zero at)
puts_append s at [] ws (v ∷ vs) xs e = absurd (omega arith)
puts_append s at (u ∷ us) ws [] xs e = absurd (omega arith)
puts_append s at (u ∷ us) ws (v ∷ vs) xs e = puts_append (put_field s at u v) (at + u) us ws vs xs (omega arith)
    ∙ rw (add_assoc at u (total us))

-- ---- frame: all other bits are as they were

pub puts_before : (s : List ℕ) (at : ℕ) (ws vs : List ℕ) (j : ℕ) → j < at → bit_at (put_fields s at ws vs) j ≡ bit_at s j
unfolding put_fields
puts_before s at [] vs j h = refl
puts_before s at (w ∷ ws) [] j h = refl
puts_before s at (w ∷ ws) (v ∷ vs) j h = puts_before (put_field s at w v) (at + w) ws vs j (omega arith) ∙ put_before s at w v j h

pub puts_after : (s : List ℕ) (at : ℕ) (ws vs : List ℕ) (j : ℕ) → at + total ws ≤ j → bit_at (put_fields s at ws vs) j ≡ bit_at s j
unfolding put_fields total
puts_after s at [] vs j h = refl
puts_after s at (w ∷ ws) [] j h = refl
puts_after s at (w ∷ ws) (v ∷ vs) j h = puts_after (put_field s at w v) (at + w) ws vs j (omega arith)
    ∙ put_after s at w v j (omega arith)

-- ---- reading and writing undo each other

-- what was written is read
pub read_written : (s : List ℕ) (at : ℕ) (ws vs : List ℕ) → at + total ws ≤ length s * 8 → Fit ws vs →
    fields (put_fields s at ws vs) at ws ≡ vs
unfolding put_fields fields total Fit
read_written s at [] [] h f = refl
read_written s at [] (v ∷ vs) h f = absurd f
read_written s at (w ∷ ws) [] h f = absurd f
read_written s at (w ∷ ws) (v ∷ vs) h f =
    let t = put_field s at w v in
    let a : field (put_fields t (at + w) ws vs) at w ≡ v =
    field_cong _ _ at w (λ j l. puts_before t (at + w) ws vs (at + j) (omega arith)) ∙ get_put s at w v (omega arith) f.0 in
    let b : fields (put_fields t (at + w) ws vs) (at + w) ws ≡ vs =
    read_written t (at + w) ws vs (omega (arith, length_put s at w v)) f.1 in
    rw (a, b)

-- equal fields, equal bits
pub fields_bits : (s t : List ℕ) (at : ℕ) (ws : List ℕ) → fields s at ws ≡ fields t at ws →
    (j : ℕ) → at ≤ j → j < at + total ws → bit_at s j ≡ bit_at t j
unfolding fields total
fields_bits s t at [] e j a b = absurd (omega arith)
fields_bits s t at (w ∷ ws) e j a b =
    go (dec_lt j (at + w)) (λ h. fields_bits s t (at + w) ws rest j h (omega arith))
  where
    one : field s at w ≡ field t at w
    one = cc

    rest : fields s (at + w) ws ≡ fields t (at + w) ws
    rest = cc

    go : Dec (j < at + w) → (at + w ≤ j → bit_at s j ≡ bit_at t j) → bit_at s j ≡ bit_at t j
    go (yes l) r =
        let z : at + (j - at) ≡ j = omega arith in
        rw z at (bits_of_field s t at w one (j - at) (omega arith))
    go (no n) r = r (omega arith)

-- two lists of bytes of one length, with equal fields that cover all bits, are equal
pub ext_fields : (s t : List ℕ) (ws : List ℕ) → Bytes s → Bytes t → length s ≡ length t → total ws ≡ length s * 8 →
    fields s 0 ws ≡ fields t 0 ws → s ≡ t
ext_fields s t ws hs ht e c h = ext_bits s t hs ht e (λ k l. fields_bits s t 0 ws h k (omega arith) (omega arith))

-- what was read is written: over any list of bytes of that length
pub write_read : (s t : List ℕ) (ws : List ℕ) → Bytes s → Bytes t → length s ≡ length t → total ws ≡ length s * 8 →
    put_fields t 0 ws (fields s 0 ws) ≡ s
write_read s t ws hs ht e c =
    ext_fields (put_fields t 0 ws (fields s 0 ws)) s ws (bytes_puts t 0 ws _ ht) hs
    (length_puts t 0 ws _ ∙ sym e) (omega (arith, length_puts t 0 ws (fields s 0 ws)))
    (read_written t 0 ws (fields s 0 ws) (omega arith) (fields_fit s 0 ws))

-- ---- runs of one width, one field more

pub run_more : (s : List ℕ) (at w n : ℕ) →
    fields s at (replicate (n + 1) w) ≡ fields s at (replicate n w) ++ (field s (at + n * w) w ∷ [])
unfolding fields
run_more s at w n =
    rw (← replicate-append-replicate n 1 w, fields-append s at (replicate n w) (replicate 1 w), total-replicate n w)

-- one entry of a run
pub run_at : (s : List ℕ) (at w n i : ℕ) → i < n → get_or (fields s at (replicate n w)) i 0 ≡ field s (at + i * w) w
unfolding fields
run_at s at w zero i h = absurd (omega arith)
run_at s at w (suc n) zero h = rw (zero-mul w, add-zero at)
run_at s at w (suc n) (suc i) h =
    let e : at + w + i * w ≡ at + suc i * w = omega (arith, suc-mul i w) in
    run_at s (at + w) w n i (omega arith) ∙ ap (λ (k : ℕ). field s k w) e

-- k fields more end before the run does
pub room_more : (at w i k n m : ℕ) → i + k ≤ n → at + n * w < m → at + i * w + k * w < m
room_more at w i k n m h l =
    let e : (i + k) * w ≡ i * w + k * w = add-mul i k w in
    let le = mul-le-mul_right w h in
    omega (arith, e, le)
