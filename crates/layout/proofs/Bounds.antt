-- Sizes that the code meets: what the widths of a usable profile bound, and that a file's length is the least.
-- Assumes nothing.
use mathlib.Core.List.{List}
use Prim.Native.Nat.{ℕ, ◌+◌, ◌*◌, ◌^◌, ◌≤◌, ◌<◌}
use native.Mathlib.Nat.{mul-le-mul, lt_of_lt_of_le}
use native.Mathlib.Omega.{arith}
use lib.Pow.{pow_mono}
use Rattle.bits.proofs.Reading.{field_lt}
use Rattle.layout.specs.declared.profile.Profile.{Profile}
use Rattle.layout.specs.Layout.{large, pocket, header_bits, edge_bits, edges_begin, file_bits, bytes_for, file_length, fill_bits}
use Rattle.layout.specs.Code.{Usable}
use Rattle.layout.specs.Contents.{states_in, labels_in, start_in, count_in}

pub large_usable : Usable large
large_usable = large.usable

pub pocket_usable : Usable pocket
pocket_usable = pocket.usable

-- ---- the length is the least whole number of bytes that holds the bits

pub length-holds : (b : ℕ) → b ≤ bytes_for b * 8
unfolding bytes_for
length-holds b = omega arith

pub length-least : (b k : ℕ) → b ≤ k * 8 → bytes_for b ≤ k
unfolding bytes_for
length-least b k h = omega arith

pub fill_lt : (P : Profile) (n e : ℕ) → fill_bits P n e < 8
unfolding fill_bits file_length bytes_for
fill_lt P n e = omega arith

pub states_low : (P : Profile) (s : List ℕ) → 1 ≤ states_in P s
unfolding states_in
states_low P s = omega arith

pub labels_low : (P : Profile) (s : List ℕ) → 1 ≤ labels_in P s
unfolding labels_in
labels_low P s = omega arith

-- ---- a usable profile

module _ (P : Profile) (ok : Usable P) where
  pub states_fit : (s : List ℕ) → states_in P s ≤ 2 ^ P.states
  unfolding states_in
  states_fit s = omega (arith, field_lt s 0 P.states)

  pub labels_fit : (s : List ℕ) → labels_in P s ≤ 2 ^ P.labels
  unfolding labels_in
  labels_fit s = omega (arith, field_lt s P.states P.labels)

  pub states-pow : 2 ^ P.states ≤ 256
  states-pow = pow_mono {j = 8} ok.states≤

  pub labels_pow : 2 ^ P.labels ≤ 256
  labels_pow = pow_mono {j = 8} ok.labels≤

  pub states_high : (s : List ℕ) → states_in P s ≤ 256
  states_high s = omega (arith, states_fit s, states-pow)

  pub labels_high : (s : List ℕ) → labels_in P s ≤ 256
  labels_high s = omega (arith, labels_fit s, labels_pow)

  pub start_high : (s : List ℕ) → start_in P s < 65536
  unfolding start_in
  start_high s = lt_of_lt_of_le (field_lt s (P.states + P.labels) P.start) (pow_mono {j = 16} ok.start≤)

  pub count_high : (s : List ℕ) → count_in P s < 32768
  unfolding count_in
  count_high s = lt_of_lt_of_le (field_lt s (P.states + P.labels + P.start) P.edges) (pow_mono {j = 15} ok.edges≤)

  pub header_high : header_bits P ≤ 48
  unfolding header_bits
  header_high = omega (arith, ok.states≤, ok.labels≤, ok.start≤, ok.edges≤)

  pub edge_high : edge_bits P ≤ 24
  unfolding edge_bits
  edge_high = omega (arith, ok.states≤, ok.labels≤)

  pub colours_high : (n : ℕ) → n ≤ 256 → P.colour * n ≤ 2048
  colours_high n h = mul-le-mul ok.colour≤ h

  pub begin_high : (n : ℕ) → n ≤ 256 → edges_begin P n ≤ 2096
  unfolding edges_begin
  begin_high n h = omega (arith, header_high, colours_high n h)

  pub edges_high : (e : ℕ) → e ≤ 65536 → edge_bits P * e ≤ 1572864
  edges_high e h = mul-le-mul edge_high h

  -- where edge i begins, if the first begins at `at`
  pub place_high : (at i : ℕ) → at ≤ 2096 → i ≤ 65536 → at + edge_bits P * i ≤ 1574960
  place_high at i h l = omega (arith, edges_high i l)

  pub file_high : (n e : ℕ) → n ≤ 256 → e ≤ 65536 → file_bits P n e ≤ 1574960
  unfolding file_bits
  file_high n e h l = place_high (edges_begin P n) e (begin_high n h) l
