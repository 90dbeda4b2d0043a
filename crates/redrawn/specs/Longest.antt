-- No drawing of an accepted file is longer than 371,230 bytes: 256 states of a colour of two digits, and an edge from each of them for
-- each of 64 labels, to a state of three digits.
-- Assumes nothing.
use Rattle.std.specs.Prelude.{ℕ, suc, ◌+◌, ◌*◌, ◌-◌, ◌≤◌, ◌<◌, ◌≡◌, refl, true, ◌&&◌, List, [], ◌∷◌, ◌++◌, eqb, ltb, length}
use Rattle.std.proofs.Common.{zero-add, suc-mul, mul-le-mul_right, arith, length-append, ltb-true, ltb-false, eqb-true}
use Rattle.meaning.specs.Pick.{pick}
use Rattle.meaning.specs.Cases.{cases_of, and_left, and_right}
use Rattle.meaning.specs.Filter.{Edge, Filter, states, inside, comes_before, each, leads, ascending}
use Rattle.refusals.specs.Refusals.{accepted}
use Rattle.layout.specs.Layout.{large}
use Rattle.layout.specs.Contents.{filter_in}
use Rattle.layout.proofs.Bounds.{large_usable}
use Rattle.files.specs.Files.{check_of, all_below}
use Rattle.files.specs.Tests.{check_sound, Writable, writable_edges}
use Rattle.files.specs.Written.{read_writable}
use Rattle.text.specs.Decimal.{decimal}
use Rattle.text.proofs.Laws.{decimal_most}
use Rattle.drawing.specs.Profile.{opening, closing, state_line, edge_line, state_lines, edge_lines, drawn}
use Rattle.lettering.proofs.Laws.{state_length_is, edge-length_is}
use Rattle.plotting.specs.Plot.{text_of}

-- ---- digits

-- the digits of a number below 1,000
unfoldable width : ℕ → ℕ
width n = pick (ltb n 10) 1 (pick (ltb n 100) 2 3)

-- the digits of all numbers below one
unfoldable below : ℕ → ℕ
below n = n + (n - 10) + (n - 100)

width_is : (n : ℕ) → n < 1000 → (length (decimal n) ≤ width n) × (below n + width n ≡ below (suc n))
unfolding width below
width_is n h = cases_of (ltb n 10)
    (λ p. let l = ltb-true n 10 p in rw p (decimal_most 0 n l, omega arith))
    (λ p. let l = ltb-false n 10 p in
    cases_of (ltb n 100)
    (λ q. let k = ltb-true n 100 q in rw (p, q) (decimal_most 1 n k, omega arith))
    (λ q. let k = ltb-false n 100 q in rw (p, q) (decimal_most 2 n h, omega arith)))

below_up : (a b : ℕ) → a ≤ b → below a ≤ below b
unfolding below
below_up a b h = omega arith

-- ---- states

states_most : (s end : ℕ) (colours : List ℕ) → s + length colours ≡ end → end ≤ 1000 → all_below 64 colours ≡ true →
    length (state_lines s colours) + 13 * s + below s ≤ 13 * end + below end
unfolding state_lines all_below
states_most s end [] e h k = omega (arith, below_up s end (omega arith))
states_most s end (c ∷ cs) e h k =
    let small = ltb-true c 64 (and_left (ltb c 64) (all_below 64 cs) k) in
    let rest = states_most (suc s) end cs (omega arith) h (and_right (ltb c 64) (all_below 64 cs) k) in
    let w = width_is s (omega arith) in
    omega (arith, length-append (state_line s c) (state_lines (suc s) cs), state_length_is s c, w.0, w.1, decimal_most 1 c (omega arith), rest)

-- ---- edges

-- the bytes of all edges of the sources below one: 64 labels each
abbrev sources : ℕ → ℕ
sources s = 1270 * s + 64 * below s

-- and of those of this source with lower labels
abbrev before : ℕ → ℕ → ℕ
before s l = sources s + l * (18 + width s) + below l

label_more : (e : Edge) (k : ℕ) → e.source < 1000 → e.target < 1000 → e.label < k → k ≤ 64 →
    length (edge_line e) + before e.source e.label ≤ before e.source k
label_more e k hs ht l h =
    let w = width_is e.source hs in
    let v = width_is e.label (omega arith) in
    let step : suc e.label * (18 + width e.source) ≤ k * (18 + width e.source) = mul-le-mul_right (18 + width e.source) l in
    omega (
      arith,
      edge-length_is e,
      w.0,
      v.0,
      v.1,
      below_up (suc e.label) k l,
      decimal_most 2 e.target ht,
      suc-mul e.label (18 + width e.source),
      step,
    )

labels_all : below 64 ≡ 118
unfolding below
labels_all = refl

source_more : (e : Edge) (n : ℕ) → n ≤ 1000 → e.source < n → e.target < 1000 → e.label < 64 →
    length (edge_line e) + before e.source e.label ≤ sources n
source_more e n hn hs ht l =
    omega (
      arith,
      label_more e 64 (omega arith) ht l (omega arith),
      labels_all,
      (width_is e.source (omega arith)).1,
      below_up (suc e.source) n hs,
    )

-- an edge and the one behind it
next_more : (e f : Edge) → e.source < 1000 → e.target < 1000 → e.label < 64 → f.source < 1000 → f.label < 64 → comes_before e f ≡ true →
    length (edge_line e) + before e.source e.label ≤ before f.source f.label
unfolding comes_before
next_more e f hs ht hl fs fl h = cases_of (ltb e.source f.source)
    (λ q. omega (arith, source_more e f.source (omega arith) (ltb-true e.source f.source q) ht hl))
    (λ q. let r : eqb e.source f.source && ltb e.label f.label ≡ true = rw q at h in
    let s = eqb-true e.source f.source (and_left (eqb e.source f.source) (ltb e.label f.label) r) in
    let l = ltb-true e.label f.label (and_right (eqb e.source f.source) (ltb e.label f.label) r) in
    rw (← s) (label_more e f.label hs ht l (omega arith)))

-- the parts of an edge that is inside
parts : (n m : ℕ) (e : Edge) → inside n m e ≡ true → (e.source < n) × (e.label < m) × (e.target < n)
unfolding inside
parts n m e h =
    let rest = and_right (ltb e.source n) (ltb e.label m && ltb e.target n) h in (
      ltb-true e.source n (and_left (ltb e.source n) (ltb e.label m && ltb e.target n) h),
      ltb-true e.label m (and_left (ltb e.label m) (ltb e.target n) rest),
      ltb-true e.target n (and_right (ltb e.label m) (ltb e.target n) rest),
    )

-- edges that ascend, from the first one on
behind_most : (n m : ℕ) (e : Edge) (es : List Edge) → n ≤ 1000 → m ≤ 64 → inside n m e ≡ true → each (inside n m) es ≡ true → leads e es ≡ true → ascending es ≡ true →
    length (edge_line e) + length (edge_lines es) + before e.source e.label ≤ sources n
unfolding each leads ascending edge_lines
behind_most n m e [] hn hm h hs l a =
    let p = parts n m e h in
    omega (arith, source_more e n hn p.0 (omega (arith, p.2)) (omega (arith, p.1)))
behind_most n m e (f ∷ fs) hn hm h hs l a =
    let p = parts n m e h in
    let hf = and_left (inside n m f) (each (inside n m) fs) hs in
    let q = parts n m f hf in
    let rest = behind_most n m f fs hn hm hf (and_right (inside n m f) (each (inside n m) fs) hs) (and_left (leads f fs) (ascending fs) a) (and_right (leads f fs) (ascending fs) a) in
    let next = next_more e f (omega (arith, p.0)) (omega (arith, p.2)) (omega (arith, p.1)) (omega (arith, q.0)) (omega (arith, q.1)) l in
    omega (arith, length-append (edge_line f) (edge_lines fs), next, rest)

edges_most : (n m : ℕ) (es : List Edge) → n ≤ 1000 → m ≤ 64 → each (inside n m) es ≡ true → ascending es ≡ true → length (edge_lines es) ≤ sources n
unfolding each ascending edge_lines
edges_most n m [] hn hm h a = omega arith
edges_most n m (e ∷ es) hn hm h a =
    let most = behind_most n m e es hn hm (and_left (inside n m e) (each (inside n m) es) h) (and_right (inside n m e) (each (inside n m) es) h) (and_left (leads e es) (ascending es) a) (and_right (leads e es) (ascending es) a) in
    omega (arith, length-append (edge_line e) (edge_lines es), most)

-- ---- the whole text

states-all : below 256 ≡ 658
unfolding below
states-all = refl

filter_most : (F : Filter) → Writable large F → length (drawn F.colours F.edges) ≤ 371230
unfolding drawn
filter_most F w =
    let few : states F ≤ 256 = w.states_high in
    let order = writable_edges large F w in
    let first = states_most 0 (states F) F.colours (zero-add (states F)) (omega arith) w.colours_below in
    let second = edges_most (states F) F.labels F.edges (omega arith) w.labels_high order.all_inside order.ascend in
    omega (
      arith,
      length-append opening (state_lines 0 F.colours ++ (edge_lines F.edges ++ closing)),
      length-append (state_lines 0 F.colours) (edge_lines F.edges ++ closing),
      length-append (edge_lines F.edges) closing,
      first,
      second,
      below_up (states F) 256 few,
      states-all,
    )

-- no drawing of an accepted file is longer than this: a room of 371,230 bytes holds each
pub largest_drawing : (file vs : List ℕ) → check_of large file ≡ accepted vs → length (text_of large file) ≤ 371230
unfolding text_of filter_in
largest_drawing file vs h = filter_most (filter_in large file) (read_writable large large_usable file (check_sound large file vs h).0)
