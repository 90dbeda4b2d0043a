-- Laws of a drawing's statements: those of the first states or edges, one more behind them, and that they fit where all do.
-- Assumes nothing.
use mathlib.Core.Path.{◌≡◌, refl, sym, ap, ap₂, ◌∙◌}
use mathlib.Core.List.{List, [], ◌∷◌, ◌++◌, append-nil, append_assoc}
use Prim.Native.Nat.{ℕ, ◌+◌, ◌*◌, ◌-◌, ◌≤◌, ◌<◌}
use native.Mathlib.Nat.{zero-add, mul-suc}
use native.Mathlib.Numerals.{add-one}
use native.Mathlib.Omega.{arith}
use lib.ListN.{length, get_or, take, drop, length-append}
use lib.Seq.{length-take-le, take-suc, take-add}
use Rattle.std.proofs.lemmas.List.{get_or-take}
use Rattle.meaning.specs.Filter.{Edge}
use Rattle.layout.specs.declared.profile.Profile.{Profile}
use Rattle.layout.specs.Layout.{edge_bits, edges_begin}
use Rattle.layout.specs.Contents.{states_in, count_in, colours_in, placed_in, edge_at, edges_from, edges_in}
use Rattle.layout.proofs.Bounds.{states_high, count_high}
use Rattle.layout.proofs.EdgeLists.{edges_more, edges_around}
use Rattle.drawing.specs.Profile.{opening, closing, state_line, edge_line, state_lines, edge_lines, drawn, larger, labels_of}
use Rattle.drawing.specs.More.{states-append, states_one, labels_more}
use Rattle.plotting.specs.declared.Extent.{Extent}
use Rattle.plotting.specs.Plot.{text_of, extent_of, Plottable}

-- ---- states

-- one state's statement behind those of the states before it
pub states_more : (cs : List ℕ) (i : ℕ) → i < length cs → state_lines 0 (take i cs) ++ state_line i (get_or cs i 0) ≡ state_lines 0 (take (i + 1) cs)
states_more cs i h =
    let c = get_or cs i 0 in
    let first : take (i + 1) cs ≡ take i cs ++ (c ∷ []) = ap (λ (k : ℕ). take k cs) (add-one i) ∙ take-suc cs i 0 h in
    let count : 0 + length (take i cs) ≡ i = zero-add _ ∙ length-take-le i cs (omega arith) in
    sym
    (ap (state_lines 0) first ∙ states-append 0 (take i cs) (c ∷ [])
    ∙ ap (λ (l : List ℕ). state_lines 0 (take i cs) ++ l) (ap (λ (t : ℕ). state_lines t (c ∷ [])) count ∙ states_one i c))

pub states_longer : (cs : List ℕ) (i : ℕ) → i < length cs →
    length (state_lines 0 (take (i + 1) cs)) ≡ length (state_lines 0 (take i cs)) + length (state_line i (get_or cs i 0))
states_longer cs i h = sym (ap length (states_more cs i h)) ∙ length-append (state_lines 0 (take i cs)) (state_line i (get_or cs i 0))

-- and it ends where all end, or before
pub states_fit : (cs : List ℕ) (i n : ℕ) → i < n → n ≤ length cs →
    length (state_lines 0 (take i cs)) + length (state_line i (get_or cs i 0)) ≤ length (state_lines 0 (take n cs))
states_fit cs i n h l =
    let k : i + 1 + (n - (i + 1)) ≡ n = omega arith in
    let first = take (i + 1) cs in
    let rest = take (n - (i + 1)) (drop (i + 1) cs) in
    let whole : take n cs ≡ first ++ rest = ap (λ (j : ℕ). take j cs) (sym k) ∙ take-add (i + 1) (n - (i + 1)) cs in
    let lines = ap (λ (ds : List ℕ). length (state_lines 0 ds)) whole ∙ ap length (states-append 0 first rest)
    ∙ length-append (state_lines 0 first) (state_lines (0 + length first) rest) in
    omega (arith, lines, states_longer cs i (omega arith))

-- what a turn over the first n colours has in hand: one of all of them
pub colour_in_hand : (cs : List ℕ) (i n colour : ℕ) → n ≤ length cs → i < length (take n cs) → colour ≡ get_or (take n cs) i 0 →
    (i < n) × (colour ≡ get_or cs i 0)
colour_in_hand cs i n colour long h is =
    let k : length (take n cs) ≡ n = length-take-le n cs long in
    let lt : i < n = omega arith in
    (lt, is ∙ get_or-take n cs i 0 lt)

-- ---- edges

edge_lines-append : (ds es : List Edge) → edge_lines (ds ++ es) ≡ edge_lines ds ++ edge_lines es
unfolding edge_lines
edge_lines-append [] es = refl
edge_lines-append (d ∷ ds) es =
    ap (λ (l : List ℕ). edge_line d ++ l) (edge_lines-append ds es) ∙ sym (append_assoc (edge_line d) (edge_lines ds) (edge_lines es))

edge_lines_one : (e : Edge) → edge_lines (e ∷ []) ≡ edge_line e
unfolding edge_lines
edge_lines_one e = append-nil (edge_line e)

-- one width further
pub next_place : {at bits : ℕ} (first w i : ℕ) → at ≡ first + w * i → bits ≡ w → at + bits ≡ first + w * (i + 1)
next_place first w i p q = rw (p, q, add-one i, mul-suc w i) (omega arith)

module _ (P : Profile) (file : List ℕ) (first : ℕ) where
  -- one edge's statement behind those of the edges before it
  pub edge_lines_more : (i : ℕ) →
      edge_lines (edges_from P file first i) ++ edge_line (edge_at P file (first + edge_bits P * i)) ≡ edge_lines (edges_from P file first (i + 1))
  edge_lines_more i =
      let es = edges_from P file first i in
      let e = edge_at P file (first + edge_bits P * i) in
      sym
      (ap edge_lines (edges_more P file first i) ∙ edge_lines-append es (e ∷ []) ∙ ap (λ (l : List ℕ). edge_lines es ++ l) (edge_lines_one e))

  pub edge_lines_longer : (i : ℕ) → length (edge_lines (edges_from P file first (i + 1)))
      ≡ length (edge_lines (edges_from P file first i)) + length (edge_line (edge_at P file (first + edge_bits P * i)))
  edge_lines_longer i =
      sym (ap length (edge_lines_more i)) ∙ length-append (edge_lines (edges_from P file first i)) (edge_line (edge_at P file (first + edge_bits P * i)))

  -- and it ends where all end, or before
  pub edge_lines_fit : (i e : ℕ) → i < e → length (edge_lines (edges_from P file first i)) + length (edge_line (edge_at P file (first + edge_bits P * i)))
      ≤ length (edge_lines (edges_from P file first e))
  unfolding edge_lines
  edge_lines_fit i e h =
      let es = edges_from P file first i in
      let d = edge_at P file (first + edge_bits P * i) in
      let rest = edges_from P file (first + edge_bits P * i + edge_bits P) (e - (i + 1)) in
      let lines = ap (λ (fs : List Edge). length (edge_lines fs)) (edges_around P file first e i h) ∙ ap length (edge_lines-append es (d ∷ rest))
      ∙ length-append (edge_lines es) (edge_line d ++ edge_lines rest) in
      omega (arith, lines, length-append (edge_line d) (edge_lines rest))

  pub labels_longer : (i : ℕ) → labels_of (edges_from P file first (i + 1))
      ≡ larger (labels_of (edges_from P file first i)) ((edge_at P file (first + edge_bits P * i)).label + 1)
  labels_longer i =
      let es = edges_from P file first i in
      let e = edge_at P file (first + edge_bits P * i) in
      ap labels_of (edges_more P file first i) ∙ labels_more es e ∙ ap (larger (labels_of es)) (sym (add-one e.label))

-- ---- a file

module _ (P : Profile) (file : List ℕ) where
  -- the text's pieces, one behind another
  pub text_pieces : ((opening ++ state_lines 0 (colours_in P file)) ++ edge_lines (edges_in P file)) ++ closing ≡ text_of P file
  unfolding text_of drawn
  text_pieces =
      let states = state_lines 0 (colours_in P file) in
      let edges = edge_lines (edges_in P file) in
      append_assoc (opening ++ states) edges closing ∙ append_assoc opening states (edges ++ closing)

  pub text_length : length (text_of P file) ≡ 10 + length (state_lines 0 (colours_in P file)) + length (edge_lines (edges_in P file)) + 2
  text_length =
      let states = state_lines 0 (colours_in P file) in
      let edges = edge_lines (edges_in P file) in
      omega (
        arith,
        ap length text_pieces,
        length-append ((opening ++ states) ++ edges) closing,
        length-append (opening ++ states) edges,
        length-append opening states,
      )

  -- the edges from where the code begins, as many as it reads
  pub edges_are : (n e begin : ℕ) → n ≡ states_in P file → e ≡ count_in P file → begin ≡ edges_begin P n → edges_from P file begin e ≡ edges_in P file
  unfolding edges_in placed_in edges_from
  edges_are n e begin h l b = ap₂ (edges_from P file) (b ∙ ap (edges_begin P) h) l

  pub extent_is : {long labels : ℕ} → long ≡ length (text_of P file) → labels ≡ labels_of (edges_in P file) →
      ◌≡◌ {A = Extent} (record { length = long; labels = labels }) (extent_of P file)
  extent_is h l = rw (h, l)

  pub few : {colours : List ℕ} {n e : ℕ} → Plottable P file colours n e → (n ≤ 256) × (e ≤ 65536)
  few ok = (omega (arith, ok.states, states_high P P.usable file), omega (arith, ok.edges, count_high P P.usable file))
