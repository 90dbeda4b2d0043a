-- Laws of edges: read as one field, and listed as bytes.
-- Assumes nothing.
use mathlib.Core.Path.{◌≡◌, refl, sym, ap, ◌∙◌}
use mathlib.Core.Bool.{Bool, true}
use mathlib.Core.List.{List, [], ◌∷◌, ◌++◌, map, append_assoc}
use Prim.Native.Nat.{ℕ, zero, suc, ◌+◌, ◌*◌, ◌-◌, ◌/◌, ◌%◌, ◌^◌, ◌≤◌, ◌<◌}
use native.Mathlib.Nat.{add_assoc, add-zero, mul-zero, mul-suc, suc-add, zero-add, mod-eq_of_lt}
use native.Mathlib.Numerals.{add-one}
use native.Mathlib.Omega.{arith}
use lib.ListN.{length, get_or, set, take, drop, length-append, length-drop}
use lib.Pow.{high, low, pow_mono}
use lib.Seq.{drop-cons, take-add, length-take-le}
use Rattle.bits.specs.Bits.{field, put_field}
use Rattle.pen.specs.Runs.{fields, put_fields, total, Fit}
use Rattle.bits.proofs.Reading.{field_lt, field-split, field-within}
use Rattle.bits.proofs.Writing.{put_three, append_lt}
use Rattle.pen.proofs.Runs.{puts_append}
use Rattle.bits.proofs.Parts.{store_more}
use Rattle.meaning.specs.Cases.{and_left, and_right}
use Rattle.meaning.specs.Filter.{Edge, each}
use Rattle.layout.specs.declared.profile.Profile.{Profile}
use Rattle.layout.specs.Layout.{edge_bits, edge_widths, flat, put_edges, threes}
use Rattle.layout.specs.declared.edge.Edge as layout
use Rattle.layout.specs.declared.edge.Placed.{Placed}
use Rattle.layout.specs.Code.{edge_of, edge_in, bare}
use Rattle.layout.specs.Contents.{placed_at, placed_from, values, edge_at, edges_from}

-- ---- as bytes, three an edge

pub flat_append : (es fs : List Edge) → flat (es ++ fs) ≡ flat es ++ flat fs
unfolding flat
flat_append [] fs = refl
flat_append (e ∷ es) fs = rw (flat_append es fs)

pub length-flat : (es : List Edge) → length (flat es) ≡ 3 * length es
unfolding flat
length-flat [] = refl
length-flat (e ∷ es) = rw (length-flat es) (omega arith)

pub threes-flat : (es : List Edge) → threes (flat es) ≡ es
unfolding threes flat
threes-flat [] = refl
threes-flat (e ∷ es) = rw (threes-flat es)

-- whole edges come back
pub flat-threes : (e : ℕ) (vs : List ℕ) → length vs ≡ 3 * e → flat (threes vs) ≡ vs
unfolding threes flat
flat-threes e [] h = refl
flat-threes zero (a ∷ vs) h = absurd (omega arith)
flat-threes (suc e) (a ∷ []) h = absurd (omega arith)
flat-threes (suc e) (a ∷ b ∷ []) h = absurd (omega arith)
flat-threes (suc e) (a ∷ b ∷ c ∷ vs) h = rw (flat-threes e vs (omega arith))

pub length-threes : (e : ℕ) (vs : List ℕ) → length vs ≡ 3 * e → length (threes vs) ≡ e
length-threes e vs h = omega (arith, length-flat (threes vs), ap length (flat-threes e vs h))

drop_three : (vs : List ℕ) (o : ℕ) → o + 2 < length vs → drop o vs ≡ get_or vs o 0 ∷ get_or vs (o + 1) 0 ∷ get_or vs (o + 2) 0 ∷ drop (o + 3) vs
drop_three vs o h =
    let a : suc o ≡ o + 1 = omega arith in
    let b : suc (o + 1) ≡ o + 2 = omega arith in
    let c : suc (o + 2) ≡ o + 3 = omega arith in
    rw (drop-cons vs o 0 (omega arith), a, drop-cons vs (o + 1) 0 (omega arith), b, drop-cons vs (o + 2) 0 h, c)

-- the edges from place o on begin with the one that stands there
pub threes-cons : (vs : List ℕ) (o : ℕ) → o + 2 < length vs →
    threes (drop o vs) ≡ record { source = get_or vs o 0; label = get_or vs (o + 1) 0; target = get_or vs (o + 2) 0 } ∷ threes (drop (o + 3) vs)
unfolding threes
threes-cons vs o h = rw (drop_three vs o h)

-- fewer than three bytes are no edge
few : (vs : List ℕ) → length vs < 3 → threes vs ≡ []
unfolding threes
few [] h = refl
few (a ∷ []) h = refl
few (a ∷ b ∷ []) h = refl
few (a ∷ b ∷ c ∷ vs) h = absurd (omega arith)

pub threes_end : (vs : List ℕ) (o : ℕ) → length vs < o + 3 → threes (drop o vs) ≡ []
threes_end vs o h = few (drop o vs) (rw (length-drop o vs) (omega arith))

-- ---- in a file

pub length_edges : (P : Profile) (s : List ℕ) (at e : ℕ) → length (edges_from P s at e) ≡ e
unfolding edges_from placed_from
length_edges P s at zero = refl
length_edges P s at (suc e) = ap suc (length_edges P s (at + edge_bits P) e)

-- the edges from index i on begin with the one that stands there
pub placed_cons : (P : Profile) (s : List ℕ) (at e i : ℕ) → i < e →
    placed_from P s at (e - i) ≡ placed_at P s at ∷ placed_from P s (at + edge_bits P) (e - (i + 1))
unfolding placed_from
placed_cons P s at e i h = let k : e - i ≡ suc (e - (i + 1)) = omega arith in rw k

edges_cons : (P : Profile) (s : List ℕ) (at e i : ℕ) → i < e →
    edges_from P s at (e - i) ≡ edge_at P s at ∷ edges_from P s (at + edge_bits P) (e - (i + 1))
unfolding edges_from edge_at
edges_cons P s at e i h = ap (map values) (placed_cons P s at e i h)

-- what holds of each edge holds of the one that begins at its bit
pub each_at : (P : Profile) (p : Edge → Bool) (s : List ℕ) (at e : ℕ) → each p (edges_from P s at e) ≡ true → (i : ℕ) → i < e → p (edge_at P s (at + edge_bits P * i)) ≡ true
unfolding each edges_from placed_from edge_at
each_at P p s at zero h i l = absurd (omega arith)
each_at P p s at (suc e) h zero l =
    rw (mul-zero (edge_bits P), add-zero at) (and_left (p (edge_at P s at)) (each p (edges_from P s (at + edge_bits P) e)) h)
each_at P p s at (suc e) h (suc i) l =
    let next : at + edge_bits P + edge_bits P * i ≡ at + edge_bits P * suc i = omega (arith, mul-suc (edge_bits P) i) in
    rw (← next) (each_at P p s (at + edge_bits P) e (and_right (p (edge_at P s at)) (each p (edges_from P s (at + edge_bits P) e)) h) i (omega arith))

-- the first edges, and those behind them
edges_append : (P : Profile) (s : List ℕ) (at i k : ℕ) → edges_from P s at (i + k) ≡ edges_from P s at i ++ edges_from P s (at + edge_bits P * i) k
unfolding edges_from placed_from
edges_append P s at zero k = rw (zero-add k, mul-zero (edge_bits P), add-zero at)
edges_append P s at (suc i) k =
    let h : at + edge_bits P + edge_bits P * i ≡ at + edge_bits P * suc i = omega (arith, mul-suc (edge_bits P) i) in
    rw (suc-add i k, edges_append P s (at + edge_bits P) i k, h)

-- edge i between those before it and those behind it
pub edges_around : (P : Profile) (s : List ℕ) (at e i : ℕ) → i < e →
    edges_from P s at e ≡ edges_from P s at i ++ (edge_at P s (at + edge_bits P * i) ∷ edges_from P s (at + edge_bits P * i + edge_bits P) (e - (i + 1)))
edges_around P s at e i h =
    let k : i + (e - i) ≡ e = omega arith in
    ap (edges_from P s at) (sym k) ∙ edges_append P s at i (e - i) ∙ rw (edges_cons P s (at + edge_bits P * i) e i h)

-- one edge more, at the end
edges_snoc : (P : Profile) (s : List ℕ) (at e : ℕ) →
    edges_from P s at (suc e) ≡ edges_from P s at e ++ (edge_at P s (at + edge_bits P * e) ∷ [])
unfolding edges_from placed_from edge_at
edges_snoc P s at zero = rw (mul-zero (edge_bits P), add-zero at)
edges_snoc P s at (suc e) =
    let h : at + edge_bits P + edge_bits P * e ≡ at + edge_bits P * suc e = omega (arith, mul-suc (edge_bits P) e) in
    ap {B = List Edge} (λ r. edge_at P s at ∷ r) (edges_snoc P s (at + edge_bits P) e ∙ rw h)

pub edges_more : (P : Profile) (s : List ℕ) (at e : ℕ) →
    edges_from P s at (e + 1) ≡ edges_from P s at e ++ (edge_at P s (at + edge_bits P * e) ∷ [])
edges_more P s at e = ap (edges_from P s at) (add-one e) ∙ edges_snoc P s at e

-- the edges as fields
pub fields_edges : (P : Profile) (s : List ℕ) (at e : ℕ) → fields s at (edge_widths P e) ≡ flat (edges_from P s at e)
unfolding fields edge_widths flat edges_from placed_from edge_at placed_at edge_bits
fields_edges P s at zero = refl
fields_edges P s at (suc e) =
    rw (← fields_edges P s (at + (P.states + P.labels + P.states)) e, ← add_assoc at (P.states + P.labels) P.states, ← add_assoc at P.states P.labels)

pub length_widths : (P : Profile) (e : ℕ) → length (edge_widths P e) ≡ 3 * e
unfolding edge_widths
length_widths P zero = refl
length_widths P (suc e) = rw (length_widths P e) (omega arith)

pub total_edges : (P : Profile) (e : ℕ) → total (edge_widths P e) ≡ edge_bits P * e
unfolding total edge_widths edge_bits
total_edges P zero = omega arith
total_edges P (suc e) = rw (total_edges P e, mul-suc (P.states + P.labels + P.states) e) (omega arith)

-- an edge that was read, without its places
pub bare_read : (P : Profile) (s : List ℕ) (at : ℕ) (q : Placed) (e : layout.Edge) → q ≡ placed_at P s at → e ≡ bare q → edge_of e ≡ edge_at P s at
unfolding edge_at
bare_read P s at q e read is = ap edge_of is ∙ ap values read

-- ---- in a room

-- three stores behind the edges that are there
pub store_edge : (es : List Edge) (e : Edge) (room : List ℕ) (o : ℕ) → length (flat es) ≡ o → o + 2 < length room →
    set (set (set (flat es ++ drop o room) o e.source) (o + 1) e.label) (o + 2) e.target ≡ flat (es ++ (e ∷ [])) ++ drop (o + 3) room
unfolding flat
store_edge es e room o h l =
    let x = flat es in
    let x1 = x ++ (e.source ∷ []) in
    let x2 = x1 ++ (e.label ∷ []) in
    let h1 : length x1 ≡ o + 1 = length-append x (e.source ∷ []) ∙ ap (λ (k : ℕ). k + 1) h in
    let h2 : length x2 ≡ o + 1 + 1 = length-append x1 (e.label ∷ []) ∙ ap (λ (k : ℕ). k + 1) h1 in
    let a : o + 1 + 1 ≡ o + 2 = omega arith in
    let b : o + 1 + 1 + 1 ≡ o + 3 = omega arith in
    rw (
      store_more x room o e.source h (omega arith),
      store_more x1 room (o + 1) e.label h1 (omega arith),
      ← a,
      store_more x2 room (o + 1 + 1) e.target h2 (omega arith),
      b,
      flat_append es (e ∷ []),
      append_assoc x (e.source ∷ []) (e.label ∷ []),
      append_assoc x (e.source ∷ e.label ∷ []) (e.target ∷ []),
    )

-- ---- an edge as one field

-- what is above, between and below in a field of three parts
pub record Parts (s : List ℕ) (at a b v : ℕ) : Type 0 where
  pub first : v / 2 ^ (b + a) ≡ field s at a
  pub second : v / 2 ^ a % 2 ^ b ≡ field s (at + a) b
  pub third : v % 2 ^ a ≡ field s (at + a + b) a

pub parts : (s : List ℕ) (at a b : ℕ) → Parts s at a b (field s at (a + b + a))
parts s at a b =
    record {
      first = rw (add_assoc a b a, field-split s at a (b + a)) (high (field s at a) (b + a) (field_lt s (at + a) (b + a)));
      second = sym (field-within s at a b a);
      third = rw (field-split s at (a + b) a, ← add_assoc at a b) (low (field s at (a + b)) a (field_lt s (at + a + b) a));
    }

-- three parts joined to a field, within a machine's 64 bits
pub record Joined (a b x y z : ℕ) : Type 0 where
  pub upper_shift : x * 2 ^ b % 2 ^ 64 ≡ x * 2 ^ b
  pub upper_lt : x * 2 ^ b + y < 65536
  pub whole_shift : (x * 2 ^ b + y) * 2 ^ a % 2 ^ 64 ≡ (x * 2 ^ b + y) * 2 ^ a
  pub whole_fit : (x * 2 ^ b + y) * 2 ^ a + z < 2 ^ (a + b + a)
  pub whole_lt : (x * 2 ^ b + y) * 2 ^ a + z < 16777216

pub joined : (a b x y z : ℕ) → a ≤ 8 → b ≤ 8 → x < 2 ^ a → y < 2 ^ b → z < 2 ^ a → Joined a b x y z
joined a b x y z ha hb hx hy hz =
    let up : x * 2 ^ b + y < 2 ^ (a + b) = append_lt a b x y hx hy in
    let all : (x * 2 ^ b + y) * 2 ^ a + z < 2 ^ (a + b + a) = append_lt (a + b) a (x * 2 ^ b + y) z up hz in
    let p1 : 2 ^ (a + b) ≤ 65536 = pow_mono {j = 16} (omega arith) in
    let p2 : 2 ^ (a + b + a) ≤ 16777216 = pow_mono {j = 24} (omega arith) in
    record {
      upper_shift = mod-eq_of_lt (omega arith);
      upper_lt = omega arith;
      whole_shift = mod-eq_of_lt (omega arith);
      whole_fit = all;
      whole_lt = omega arith;
    }

-- ---- edges written

-- each part of an edge fits its width
pub record Fits (P : Profile) (vs : List ℕ) (o : ℕ) : Type 0 where
  pub source : get_or vs o 0 < 2 ^ P.states
  pub label : get_or vs (o + 1) 0 < 2 ^ P.labels
  pub target : get_or vs (o + 2) 0 < 2 ^ P.states

fits-cons : (P : Profile) (a b c : ℕ) (vs : List ℕ) (i : ℕ) → Fits P vs (3 * i) → Fits P (a ∷ b ∷ c ∷ vs) (3 * suc i)
fits-cons P a b c vs i h =
    let z : 3 * suc i ≡ suc (suc (suc (3 * i))) = omega arith in
    let z1 : 3 * suc i + 1 ≡ suc (suc (suc (3 * i + 1))) = omega arith in
    let z2 : 3 * suc i + 2 ≡ suc (suc (suc (3 * i + 2))) = omega arith in
    record { source = rw z h.source; label = rw z1 h.label; target = rw z2 h.target }

pub fit_edge : (P : Profile) (e : ℕ) (vs : List ℕ) (i : ℕ) → Fit (edge_widths P e) vs → i < e → Fits P vs (3 * i)
unfolding Fit edge_widths
fit_edge P zero vs i f l = absurd (omega arith)
fit_edge P (suc e) [] i f l = absurd f
fit_edge P (suc e) (a ∷ []) i f l = absurd f.1
fit_edge P (suc e) (a ∷ b ∷ []) i f l = absurd f.1.1
fit_edge P (suc e) (a ∷ b ∷ c ∷ vs) zero f l = record { source = f.0; label = f.1.0; target = f.1.1.0 }
fit_edge P (suc e) (a ∷ b ∷ c ∷ vs) (suc i) f l = fits-cons P a b c vs i (fit_edge P e vs i f.1.1.1 (omega arith))

pub take_three : (vs : List ℕ) (o : ℕ) → o + 2 < length vs → take (o + 3) vs ≡ take o vs ++ (get_or vs o 0 ∷ get_or vs (o + 1) 0 ∷ get_or vs (o + 2) 0 ∷ [])
take_three vs o h = rw (take-add o 3 vs, drop_three vs o h)

-- an edge's three parts joined to one field
pub put_joined : (P : Profile) (s : List ℕ) (at : ℕ) (e : Edge) → e.source < 2 ^ P.states → e.label < 2 ^ P.labels → e.target < 2 ^ P.states →
    put_field s at (edge_bits P) ((e.source * 2 ^ P.labels + e.label) * 2 ^ P.states + e.target) ≡ put_edges P s at (e ∷ [])
unfolding edge_bits edge_widths flat put_fields
put_joined P s at e hs hl ht = put_three s at P.states P.labels P.states e.source e.label e.target hs hl ht

pub widths_append : (P : Profile) (i k : ℕ) → edge_widths P (i + k) ≡ edge_widths P i ++ edge_widths P k
unfolding edge_widths
widths_append P zero k = ap (edge_widths P) (zero-add k)
widths_append P (suc i) k = rw (suc-add i k) (ap {B = List ℕ} (λ r. P.states ∷ P.labels ∷ P.states ∷ r) (widths_append P i k))

-- edges written behind edges
pub puts_edges : (P : Profile) (s : List ℕ) (at i k : ℕ) (vs ws : List ℕ) → length vs ≡ 3 * i →
    put_fields (put_fields s at (edge_widths P i) vs) (at + edge_bits P * i) (edge_widths P k) ws ≡ put_fields s at (edge_widths P (i + k)) (vs ++ ws)
puts_edges P s at i k vs ws h =
    rw (widths_append P i k, puts_append s at (edge_widths P i) (edge_widths P k) vs ws (length_widths P i ∙ sym h), total_edges P i)

pub edges_behind : (P : Profile) (s : List ℕ) (at : ℕ) (es fs : List Edge) →
    put_edges P (put_edges P s at es) (at + edge_bits P * length es) fs ≡ put_edges P s at (es ++ fs)
edges_behind P s at es fs =
    rw (length-append es fs, flat_append es fs) (puts_edges P s at (length es) (length fs) (flat es) (flat fs) (length-flat es))

-- the next edge of a list is written behind those before it
pub puts_listed : (P : Profile) (s : List ℕ) (at i : ℕ) (vs : List ℕ) → 3 * i + 2 < length vs →
    put_edges P (put_fields s at (edge_widths P i) (take (3 * i) vs)) (at + edge_bits P * i) (edge_in vs (3 * i) ∷ [])
    ≡ put_fields s at (edge_widths P (i + 1)) (take (3 * (i + 1)) vs)
unfolding flat
puts_listed P s at i vs l =
    let next : 3 * (i + 1) ≡ 3 * i + 3 = omega arith in
    rw (next, take_three vs (3 * i) l)
    (puts_edges P s at i 1 (take (3 * i) vs) (get_or vs (3 * i) 0 ∷ get_or vs (3 * i + 1) 0 ∷ get_or vs (3 * i + 2) 0 ∷ []) (length-take-le (3 * i) vs (omega arith)))
