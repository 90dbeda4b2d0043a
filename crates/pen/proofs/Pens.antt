-- Laws of a pen: what is drawn behind what is drawn, a field joined to the bits that a pen holds, and four bytes of them stored.
-- Assumes nothing.
use mathlib.Core.Path.{◌≡◌, refl, sym, ap, ◌∙◌}
use mathlib.Core.List.{List, [], ◌∷◌, ◌++◌}
use Prim.Native.Nat.{ℕ, ◌+◌, ◌*◌, ◌/◌, ◌%◌, ◌^◌, ◌≤◌, ◌<◌}
use native.Mathlib.Nat.{mod-eq_of_lt}
use native.Mathlib.Omega.{arith}
use lib.ListN.{length}
use lib.Pow.{pow_mono}
use Rattle.bits.specs.Bits.{put_field}
use Rattle.bits.proofs.Writing.{length_put, put_split, put_three, append_lt}
use Rattle.pen.specs.declared.Pen.{Pen}
use Rattle.pen.specs.Runs.{total, put_fields, Fit, inked, place_of, Ready, Drawn}
use Rattle.pen.proofs.Runs.{total-append, fit_length, fit_append, length_puts, puts_append}

-- ---- loops that draw

-- before the first field
pub drawn_none : (s : List ℕ) (pen : Pen) → Ready pen → Drawn (inked s pen) (place_of pen) [] [] s pen
unfolding total put_fields Fit
drawn_none s pen h = record { ink = refl; place = omega arith; fit = tt; ready = h }

-- fields drawn behind fields
pub drawn-behind : {s₀ : List ℕ} {at : ℕ} {us vs : List ℕ} {s : List ℕ} {pen : Pen} {ws xs s' : List ℕ} {pen' : Pen} →
    Drawn s₀ at us vs s pen → Drawn (inked s pen) (place_of pen) ws xs s' pen' → Drawn s₀ at (us ++ ws) (vs ++ xs) s' pen'
drawn-behind {s₀} {at} {us} {vs} {s} {pen} {ws} {xs} d e = record {
  ink = e.ink ∙ rw (d.ink, d.place) (sym (puts_append s₀ at us ws vs xs (fit_length us vs d.fit)));
  place = omega (arith, d.place, e.place, total-append us ws);
  fit = fit_append us ws vs xs d.fit e.fit;
  ready = e.ready;
}

-- drawing keeps the length
pub drawn-length : {s₀ : List ℕ} {at : ℕ} {ws vs s : List ℕ} {pen : Pen} → Drawn s₀ at ws vs s pen → length s ≡ length s₀
unfolding inked
drawn-length {s₀} {at} {ws} {vs} {s} {pen} d =
    sym (length_put s (pen.at * 8) pen.bits pen.held) ∙ ap length d.ink ∙ length_puts s₀ at ws vs

-- three fields drawn as one
pub drawn_three : {s₀ : List ℕ} {at : ℕ} {s : List ℕ} {pen : Pen} (a b c x y z : ℕ) → x < 2 ^ a → y < 2 ^ b → z < 2 ^ c →
    Drawn s₀ at ((a + b + c) ∷ []) (((x * 2 ^ b + y) * 2 ^ c + z) ∷ []) s pen →
    Drawn s₀ at (a ∷ b ∷ c ∷ []) (x ∷ y ∷ z ∷ []) s pen
unfolding total put_fields Fit
drawn_three {s₀} {at} a b c x y z hx hy hz d = record {
  ink = d.ink ∙ put_three s₀ at a b c x y z hx hy hz;
  place = omega (arith, d.place);
  fit = (hx, (hy, (hz, tt)));
  ready = d.ready;
}

-- ---- one push

-- a field of b bits behind a held ones loses nothing in a machine's 64 bits
pub record Joined (a b x y : ℕ) : Type 0 where
  pub shifted : x * 2 ^ b % 2 ^ 64 ≡ x * 2 ^ b
  pub whole : x * 2 ^ b + y < 2 ^ (a + b)
  pub sum : x * 2 ^ b + y < 2 ^ 64

pub joined : (a b x y : ℕ) → a < 32 → b ≤ 24 → x < 2 ^ a → y < 2 ^ b → Joined a b x y
joined a b x y ha hb hx hy =
    let all : x * 2 ^ b + y < 2 ^ (a + b) = append_lt a b x y hx hy in
    let p : 2 ^ (a + b) ≤ 2 ^ 64 = pow_mono {j = 64} (omega arith) in
    record { shifted = mod-eq_of_lt (omega arith); whole = all; sum = omega arith }

-- the first 32 of the held bits stored, the rest held on
pub put_first : (s : List ℕ) (q r v : ℕ) →
    put_field (put_field s (q * 8) 32 (v / 2 ^ r)) ((q + 4) * 8) r (v % 2 ^ r) ≡ put_field s (q * 8) (32 + r) v
put_first s q r v =
    let e : (q + 4) * 8 ≡ q * 8 + 32 = omega arith in
    rw e (sym (put_split s (q * 8) 32 r v))
