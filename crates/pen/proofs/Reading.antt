-- Loops that read a run of fields of one width into a list: one field more, three that are read as one, and the rest of a run.
-- Assumes nothing.
use mathlib.Core.Path.{◌≡◌, refl, sym, ap, ◌∙◌}
use mathlib.Core.List.{List, ◌++◌, append_assoc}
use Prim.Native.Nat.{ℕ, ◌+◌, ◌*◌, ◌-◌, ◌/◌, ◌%◌, ◌^◌, ◌≤◌, ◌<◌}
use native.Mathlib.Nat.{add-mul, le_antisymm}
use native.Mathlib.Omega.{arith}
use lib.ListN.{length, set, take, drop, replicate, length-set, length-replicate, replicate-append-replicate}
use lib.Pow.{high, low}
use lib.Seq.{take_at, drop_at, drop-drop}
use Rattle.bits.specs.Bits.{field}
use Rattle.bits.proofs.Reading.{field_lt, field-split}
use Rattle.bits.proofs.Parts.{store_more}
use Rattle.pen.specs.Runs.{fields}
use Rattle.pen.proofs.Runs.{length_fields, fields-append, total-replicate, run_more, room_more}

length_run : (s : List ℕ) (at w n : ℕ) → length (fields s at (replicate n w)) ≡ n
length_run s at w n = length_fields s at (replicate n w) ∙ length-replicate n w

-- the first i of n fields stand in front of what d has behind them, and the next begins at bit p
pub record Read (s : List ℕ) (at w n : ℕ) (d out : List ℕ) (i p : ℕ) : Type 0 where
  pub few : i ≤ n
  pub place : p ≡ at + i * w
  pub long : length out ≡ length d
  pub made : out ≡ fields s at (replicate i w) ++ drop i d

pub read_none : (s : List ℕ) (at w n : ℕ) (d : List ℕ) → Read s at w n d d 0 at
unfolding fields
read_none s at w n d = record { few = omega arith; place = omega arith; long = refl; made = refl }

pub read_one : {s : List ℕ} {at w n : ℕ} {d out : List ℕ} {i p : ℕ} (v : ℕ) → Read s at w n d out i p → i < n → n ≤ length d →
    v ≡ field s p w → Read s at w n d (set out i v) (i + 1) (p + w)
read_one {s} {at} {w} {n} {d} {out} {i} v r h l e = record {
  few = omega arith;
  place = omega (arith, r.place, add-mul i 1 w);
  long = length-set out i v ∙ r.long;
  made = ap (λ (k : List ℕ). set k i v) r.made
      ∙ store_more (fields s at (replicate i w)) d i v (length_run s at w i) (omega arith) ∙ rw (e, r.place, run_more s at w i);
}

pub read_all : {s : List ℕ} {at w n : ℕ} {d out : List ℕ} {i p : ℕ} → Read s at w n d out i p → n ≤ i →
    out ≡ fields s at (replicate n w) ++ drop n d
read_all {s} {at} {w} {n} {d} r h = r.made ∙ ap (λ (k : ℕ). fields s at (replicate k w) ++ drop k d) (le_antisymm r.few h)

-- k fields more end before the run does
pub read_near : {s : List ℕ} {at w n : ℕ} {d out : List ℕ} {i p : ℕ} (k m : ℕ) → Read s at w n d out i p → i + k ≤ n →
    at + n * w < m → p + k * w < m
read_near {s} {at} {w} {n} {d} {out} {i} k m r h l = rw r.place (room_more at w i k n m h l)

-- three fields of one width that are read as one
pub record Three (s : List ℕ) (at w v : ℕ) : Type 0 where
  pub first : v / 2 ^ w / 2 ^ w ≡ field s at w
  pub second : v / 2 ^ w % 2 ^ w ≡ field s (at + w) w
  pub third : v % 2 ^ w ≡ field s (at + w + w) w

pub three : (s : List ℕ) (at w v : ℕ) → v ≡ field s at (3 * w) → Three s at w v
three s at w v h =
    let e : 3 * w ≡ w + w + w = omega arith in
    let place : at + (w + w) ≡ at + w + w = omega arith in
    let all : v ≡ field s at (w + w) * 2 ^ w + field s (at + w + w) w = h ∙ ap (field s at) e ∙ field-split s at (w + w) w
    ∙ rw place in
    let both = field-split s at w w in
    rw all record {
      first = rw (high (field s at (w + w)) w (field_lt s (at + w + w) w), both) (high (field s at w) w (field_lt s (at + w) w));
      second = rw (high (field s at (w + w)) w (field_lt s (at + w + w) w), both) (low (field s at w) w (field_lt s (at + w) w));
      third = low (field s at (w + w)) w (field_lt s (at + w + w) w);
    }

pub read_three : {s : List ℕ} {at w n : ℕ} {d out : List ℕ} {i p : ℕ} (v : ℕ) → Read s at w n d out i p → i + 3 ≤ n →
    n ≤ length d → Three s p w v →
    Read s at w n d (set (set (set out i (v / 2 ^ w / 2 ^ w)) (i + 1) (v / 2 ^ w % 2 ^ w)) (i + 2) (v % 2 ^ w)) (i + 3)
    (p + 3 * w)
read_three {s} {at} {w} {n} {d} {out} {i} {p} v r h l t =
    let i2 : i + 2 ≡ i + 1 + 1 = omega arith in
    let i3 : i + 3 ≡ i + 1 + 1 + 1 = omega arith in
    let far : p + 3 * w ≡ p + w + w + w = omega arith in
    rw (i2, i3, far)
    (read_one _ (read_one _ (read_one _ r (omega arith) l t.first) (omega arith) l t.second) (omega arith) l t.third)

-- the rest of a run read into the part behind its first r fields
pub run_rest : (s d out t : List ℕ) (at w r n : ℕ) → r ≤ n → out ≡ fields s at (replicate r w) ++ drop r d →
    t ≡ fields s (at + r * w) (replicate (n - r) w) ++ drop (n - r) (drop r out) →
    take r out ++ t ≡ fields s at (replicate n w) ++ drop n d
run_rest s d out t at w r n h e f =
    let xs = fields s at (replicate r w) in
    let l = length_run s at w r in
    let all : r + (n - r) ≡ n = omega arith in
    let whole : fields s at (replicate n w) ≡ xs ++ fields s (at + r * w) (replicate (n - r) w) =
    ap (λ (k : ℕ). fields s at (replicate k w)) (sym all)
    ∙ rw (
      ← replicate-append-replicate r (n - r) w,
      fields-append s at (replicate r w) (replicate (n - r) w),
      total-replicate r w,
    ) in
    rw (f, e, take_at xs (drop r d) r l, drop_at xs (drop r d) r l, drop-drop (n - r) r d, all, whole)
    (sym (append_assoc xs (fields s (at + r * w) (replicate (n - r) w)) (drop n d)))
