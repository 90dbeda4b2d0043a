-- `checking::headed` meets its contract: past each test its condition is false in the definition too, and the first that is true
-- is the answer. Assumes nothing.
use mathlib.Core.Path.{◌≡◌, ap, sym, ◌∙◌}
use mathlib.Core.Bool.{false}
use mathlib.Core.List.{List}
use Prim.Native.Nat.{ℕ, ◌*◌, ◌-◌, ◌≤◌, ◌<◌}
use native.Mathlib.Nat.{mul-le-mul}
use native.Mathlib.Omega.{arith}
use borrow.Author.Tests.{lt-ltb, le-ltb, le-leb, lt-leb, eq-eqb, ne_eqb}
use lib.Dec.{leb, ltb}
use lib.ListN.{length}
use Rattle.bits.specs.Bits.{field}
use Rattle.layout.specs.declared.profile.Profile.{Profile}
use Rattle.layout.specs.declared.Reading.{Reading}
use Rattle.layout.specs.Layout.{header_bits, bytes_for, file_bits, file_length, fill_bits}
use Rattle.layout.specs.Contents.{states_in, labels_in, start_in, count_in, length_in, filling_in, reading_in}
use Rattle.layout.specs.Code.{Usable}
use Rattle.files.specs.Files.{file_tests, head_of, reading_outcome}
use Rattle.layout.proofs.Bounds.{states_high, labels_high, count_high}
use Rattle.checking.proofs.headed.Goals as goal

-- numbers small enough for the sums and products of the code
record Small (r : Reading) : Type 0 where
  states≤ : r.states ≤ 256
  labels≤ : r.labels ≤ 256
  count≤ : r.edges ≤ 65536

-- ---- what is read is what the definitions read

module _ (P : Profile) (file : List ℕ) (r : Reading) (is : r ≡ reading_in P file) where
  states_are : r.states ≡ states_in P file
  states_are = ap (λ (r : Reading). r.states) is

  labels_are : r.labels ≡ labels_in P file
  labels_are = ap (λ (r : Reading). r.labels) is

  start_is : r.start ≡ start_in P file
  start_is = ap (λ (r : Reading). r.start) is

  count_is : r.edges ≡ count_in P file
  count_is = ap (λ (r : Reading). r.edges) is

  product_is : r.states * r.labels ≡ states_in P file * labels_in P file
  product_is = ap (λ (n : ℕ). n * r.labels) states_are ∙ ap (λ (m : ℕ). states_in P file * m) labels_are

  small : Usable P → Small r
  small ok = record {
    states≤ = rw states_are (states_high P ok file);
    labels≤ = rw labels_are (labels_high P ok file);
    count≤ = rw count_is (omega (arith, count_high P ok file));
  }

  bits_are : (bits : ℕ) → bits ≡ file_bits P r.states r.edges → bits ≡ file_bits P (states_in P file) (count_in P file)
  bits_are bits b = b ∙ ap (λ (n : ℕ). file_bits P n r.edges) states_are ∙ ap (file_bits P (states_in P file)) count_is

  length_is : (bits bytes : ℕ) → bits ≡ file_bits P r.states r.edges → bytes ≡ bytes_for bits → bytes ≡ length_in P file
  unfolding length_in file_length
  length_is bits bytes b l = l ∙ ap bytes_for (bits_are bits b)

  filling_is : (bits bytes filling : ℕ) → bits ≡ file_bits P r.states r.edges → bytes ≡ bytes_for bits →
      filling ≡ field file bits (bytes * 8 - bits) → filling ≡ filling_in P file
  unfolding filling_in fill_bits file_length
  filling_is bits bytes filling b l f =
      f
      ∙ ap (λ (l : ℕ). field file bits (l * 8 - bits)) l
      ∙ ap (λ (k : ℕ). field file k (bytes_for k * 8 - k)) (bits_are bits b)

  -- ---- the tests that were passed

  passed_2 : r.start < r.states → leb (states_in P file) (start_in P file) ≡ false
  passed_2 less = lt-leb (states_in P file) (start_in P file) (omega (arith, less, states_are, start_is))

  passed_3 : r.edges ≤ r.states * r.labels → ltb (states_in P file * labels_in P file) (count_in P file) ≡ false
  passed_3 few = le-ltb (states_in P file * labels_in P file) (count_in P file) (omega (arith, few, product_is, count_is))

passed_1 : (P : Profile) (file : List ℕ) (bits bytes : ℕ) → bits ≡ header_bits P → bytes ≡ bytes_for bits → bytes ≤ length file →
    ltb (length file) (bytes_for (header_bits P)) ≡ false
passed_1 P file bits bytes b l enough = rw (← b, ← l) (le-ltb _ _ enough)

passed_4 : (P : Profile) (file : List ℕ) (bytes : ℕ) → bytes ≡ length_in P file → bytes ≤ length file →
    ltb (length file) (length_in P file) ≡ false
passed_4 P file bytes l enough = le-ltb (length file) (length_in P file) (omega (arith, l, enough))

passed_5 : (P : Profile) (file : List ℕ) (bytes : ℕ) → bytes ≡ length_in P file → length file ≤ bytes →
    ltb (length_in P file) (length file) ≡ false
passed_5 P file bytes l enough = le-ltb (length_in P file) (length file) (omega (arith, l, enough))

-- ---- the needs

pub returns-then-file-bytes_for : goal.returns-then-file-bytes_for
unfolding head_of file_tests
returns-then-file-bytes_for c =
    let short = lt-ltb _ _ (rw (c.bytes_for.ensures, c.header_bits.ensures.0) at c.if-file-bytes_for.true) in
    rw (c.refused.ensures, short)

pub returns-then-n-reading : goal.returns-then-n-reading
unfolding head_of file_tests
returns-then-n-reading c =
    let P = c.args.p in
    let file = c.args.file.now in
    let r = c.read-reading.result in
    let is = c.read-reading.ensures in
    let early = le-leb (states_in P file) (start_in P file) (omega (arith, c.if-n-reading.true, states_are P file r is, start_is P file r is)) in
    rw (
      c.refused-then-n-reading.ensures,
      passed_1 P file _ _ c.header_bits.ensures.0 c.bytes_for.ensures c.if-file-bytes_for.false,
      early,
    )

pub overflow_mul-n : goal.overflow_mul-n
overflow_mul-n c =
    let s = small c.args.p c.args.file.now c.read-reading.result c.read-reading.ensures c.args.p.usable in
    omega (arith, mul-le-mul s.states≤ s.labels≤)

pub returns-then-n-m : goal.returns-then-n-m
unfolding head_of file_tests
returns-then-n-m c =
    let P = c.args.p in
    let file = c.args.file.now in
    let r = c.read-reading.result in
    let is = c.read-reading.ensures in
    let many = lt-ltb (states_in P file * labels_in P file) (count_in P file) (omega (arith, c.if-n-m.true, product_is P file r is, count_is P file r is)) in
    rw (
      c.refused-then-n-m.ensures,
      passed_1 P file _ _ c.header_bits.ensures.0 c.bytes_for.ensures c.if-file-bytes_for.false,
      passed_2 P file r is c.if-n-reading.false,
      many,
    )

pub file_bits-bits-requires : goal.file_bits-bits-requires
file_bits-bits-requires c =
    let s = small c.args.p c.args.file.now c.read-reading.result c.read-reading.ensures c.args.p.usable in
    (s.states≤, s.count≤)

pub returns-then-file-length : goal.returns-then-file-length
unfolding head_of file_tests
returns-then-file-length c =
    let P = c.args.p in
    let file = c.args.file.now in
    let r = c.read-reading.result in
    let is = c.read-reading.ensures in
    let l = length_is P file r is _ _ c.file_bits-bits.ensures.0 c.bytes_for-length.ensures in
    let short = lt-ltb (length file) (length_in P file) (omega (arith, c.if-file-length.true, l)) in
    rw (
      c.refused-then-file-length.ensures,
      passed_1 P file _ _ c.header_bits.ensures.0 c.bytes_for.ensures c.if-file-bytes_for.false,
      passed_2 P file r is c.if-n-reading.false,
      passed_3 P file r is c.if-n-m.false,
      short,
    )

pub returns-then-length-file : goal.returns-then-length-file
unfolding head_of file_tests
returns-then-length-file c =
    let P = c.args.p in
    let file = c.args.file.now in
    let r = c.read-reading.result in
    let is = c.read-reading.ensures in
    let l = length_is P file r is _ _ c.file_bits-bits.ensures.0 c.bytes_for-length.ensures in
    let long = lt-ltb (length_in P file) (length file) (omega (arith, c.if-length-file.true, l)) in
    rw (
      c.refused-then-length-file.ensures,
      passed_1 P file _ _ c.header_bits.ensures.0 c.bytes_for.ensures c.if-file-bytes_for.false,
      passed_2 P file r is c.if-n-reading.false,
      passed_3 P file r is c.if-n-m.false,
      passed_4 P file _ l c.if-file-length.false,
      long,
    )

pub overflow_mul-length : goal.overflow_mul-length
unfolding bytes_for
overflow_mul-length c = omega (arith, c.bytes_for-length.ensures, c.file_bits-bits.ensures.1)

pub overflow_sub-length : goal.overflow_sub-length
unfolding bytes_for
overflow_sub-length c = omega (arith, c.bytes_for-length.ensures)

pub get-requires : goal.get-requires
unfolding bytes_for
get-requires c = omega (arith, c.bytes_for-length.ensures)

pub returns-then-get-ne0 : goal.returns-then-get-ne0
unfolding head_of file_tests
returns-then-get-ne0 c =
    let P = c.args.p in
    let file = c.args.file.now in
    let r = c.read-reading.result in
    let is = c.read-reading.ensures in
    let l = length_is P file r is _ _ c.file_bits-bits.ensures.0 c.bytes_for-length.ensures in
    let f = filling_is P file r is _ _ _ c.file_bits-bits.ensures.0 c.bytes_for-length.ensures c.get.ensures.0 in
    let filled = ne_eqb (filling_in P file) 0 (λ z. c.if-get-ne0.true (f ∙ z)) in
    rw (
      c.refused-then-get-ne0.ensures,
      passed_1 P file _ _ c.header_bits.ensures.0 c.bytes_for.ensures c.if-file-bytes_for.false,
      passed_2 P file r is c.if-n-reading.false,
      passed_3 P file r is c.if-n-m.false,
      passed_4 P file _ l c.if-file-length.false,
      passed_5 P file _ l c.if-length-file.false,
      filled,
    )

pub returns : goal.returns
unfolding head_of file_tests
returns c =
    let P = c.args.p in
    let file = c.args.file.now in
    let r = c.read-reading.result in
    let is = c.read-reading.ensures in
    let l = length_is P file r is _ _ c.file_bits-bits.ensures.0 c.bytes_for-length.ensures in
    let f = filling_is P file r is _ _ _ c.file_bits-bits.ensures.0 c.bytes_for-length.ensures c.get.ensures.0 in
    let filled = eq-eqb (filling_in P file) 0 (sym f ∙ c.if-get-ne0.false) in
    rw (
      passed_1 P file _ _ c.header_bits.ensures.0 c.bytes_for.ensures c.if-file-bytes_for.false,
      passed_2 P file r is c.if-n-reading.false,
      passed_3 P file r is c.if-n-m.false,
      passed_4 P file _ l c.if-file-length.false,
      passed_5 P file _ l c.if-length-file.false,
      filled,
    ) (ap reading_outcome is)
