-- A text of the profile with its survey: what stands at a statement's place, and the place behind it.
-- Assumes nothing.
use Prim.Native.Nat.{ℕ, zero, suc, ◌+◌, ◌*◌, ◌^◌, ◌≤◌, ◌<◌}
use mathlib.Core.Path.{◌≡◌, refl, sym, ap, ◌∙◌}
use mathlib.Core.Bool.{Bool, true}
use mathlib.Core.List.{List, [], ◌∷◌, ◌++◌, append_assoc}
use native.Mathlib.Numerals.{add-one}
use native.Mathlib.Omega.{arith}
use lib.Dec.{ltb}
use lib.ListN.{length, take, drop, get_or, length-append}
use lib.Seq.{drop-cons, take-suc}
use borrow.Author.Tests.{ltb-true}
use Rattle.meaning.specs.Cases.{and_left, and_right}
use Rattle.meaning.specs.Filter.{Edge, each}
use Rattle.bits.specs.Bits.{put_field}
use Rattle.pen.specs.Runs.{put_fields, Fit}
use Rattle.pen.proofs.Runs.{puts_append}
use Rattle.layout.specs.declared.profile.Profile.{Profile}
use Rattle.layout.specs.Layout.{edges_begin, file_bits, fill_bits, edge_widths, flat}
use Rattle.layout.specs.Code.{Usable, edge_of}
use Rattle.layout.proofs.EdgeLists.{flat_append, total_edges, length_widths, length-flat}
use Rattle.files.specs.Files.{all_below}
use Rattle.files.specs.Tests.{below_at, Writable}
use Rattle.files.specs.Written.{states≤256, count≤65536}
use Rattle.text.specs.Decimal.{decimal}
use Rattle.spelling.specs.Spelling.{number_at}
use Rattle.spelling.specs.Words.{behind_of, stands_of, stands-split}
use Rattle.spelling.specs.Numbers.{Digits, one, two, three, digits_of_lem, number_end, number-drawn}
use Rattle.drawing.specs.Profile.{label_word, line_end, closing, labelled, state_line, edge_line, state_lines, edge_lines, drawn, short_edge, labels_of}
use Rattle.drawing.specs.Reader.{colours_of, edges_of, read_of, line_at}
use Rattle.drawing.specs.Lines.{line_drawn}
use Rattle.drawing.specs.Exact.{read_sound}
use Rattle.surveying.specs.declared.Survey.{Survey}
use Rattle.surveying.specs.Surveys.{Known}
use Rattle.inking.specs.Inking.{filter_read}

-- ---- lists of edges

-- the edge behind a list's end
abbrev pub nowhere : Edge
nowhere = record { source = 0; label = 0; target = 0 }

each_at : (p : Edge → Bool) (es : List Edge) (i : ℕ) → each p es ≡ true → i < length es → p (get_or es i nowhere) ≡ true
unfolding each
each_at p [] i h l = absurd (omega arith)
each_at p (e ∷ es) zero h l = and_left (p e) (each p es) h
each_at p (e ∷ es) (suc i) h l = each_at p es i (and_right (p e) (each p es) h) (omega arith)

pub flat_more : (es : List Edge) (i : ℕ) → i < length es → flat (take (i + 1) es) ≡ flat (take i es) ++ flat (get_or es i nowhere ∷ [])
flat_more es i h = ap (λ (k : ℕ). flat (take k es)) (add-one i) ∙ ap flat (take-suc es i nowhere h) ∙ flat_append (take i es) (get_or es i nowhere ∷ [])

pub edge_fit : (P : Profile) (es : List Edge) (i : ℕ) → Fit (edge_widths P (length es)) (flat es) → i < length es → let e = get_or es i nowhere in
    (e.source < 2 ^ P.states) × (e.label < 2 ^ P.labels) × (e.target < 2 ^ P.states)
unfolding Fit edge_widths flat
edge_fit P [] i f l = absurd (omega arith)
edge_fit P (e ∷ es) zero f l = (f.0, f.1.0, f.1.1.0)
edge_fit P (e ∷ es) (suc i) f l = edge_fit P es i f.1.1.1 (omega arith)

-- edges and the filling behind them
pub edges_filled : (P : Profile) (r : List ℕ) (n : ℕ) (es : List Edge) →
    put_fields r (edges_begin P n) (edge_widths P (length es) ++ (fill_bits P n (length es) ∷ [])) (flat es ++ (0 ∷ []))
    ≡ put_field (put_fields r (edges_begin P n) (edge_widths P (length es)) (flat es)) (file_bits P n (length es)) (fill_bits P n (length es)) 0
unfolding put_fields file_bits
edges_filled P r n es =
    let e = length es in
    let edges = put_fields r (edges_begin P n) (edge_widths P e) (flat es) in
    puts_append r (edges_begin P n) (edge_widths P e) (fill_bits P n e ∷ []) (flat es) (0 ∷ []) (length_widths P e ∙ sym (length-flat es))
    ∙ ap (λ (k : ℕ). put_field edges (edges_begin P n + k) (fill_bits P n e) 0) (total_edges P e)

-- ---- how long statements are

digits_few : {n : ℕ} {ds : List ℕ} → Digits n ds → length ds ≤ 3
digits_few (one a h) = omega arith
digits_few (two a b p h l) = omega arith
digits_few (three a b c p h l m) = omega arith

state_long : (s c : ℕ) → s < 1000 → c < 1000 → length (state_line s c) ≤ 17
unfolding state_line
state_long s c h k = omega (
  arith,
  length-append (decimal s) (labelled c),
  length-append (decimal c) line_end,
  digits_few (digits_of_lem s h),
  digits_few (digits_of_lem c k),
)

states_long : (s : ℕ) (cs : List ℕ) → s + length cs ≤ 1000 → all_below 1000 cs ≡ true → length (state_lines s cs) ≤ 17 * length cs
unfolding state_lines all_below
states_long s [] h k = omega arith
states_long s (c ∷ cs) h k =
    let small = ltb-true c 1000 (and_left (ltb c 1000) (all_below 1000 cs) k) in
    omega (
      arith,
      length-append (state_line s c) (state_lines (suc s) cs),
      state_long s c (omega arith) small,
      states_long (suc s) cs (omega arith) (and_right (ltb c 1000) (all_below 1000 cs) k),
    )

line_long : (text : List ℕ) (at : ℕ) → (line_at text at).end ≤ at + 24
unfolding line_at
line_long text at =
    let source = number_at text at in
    let target = number_at text (source.end + 4) in
    omega (arith, (number_end text at).1, (number_end text (source.end + 4)).1, (number_end text (target.end + 8)).1)

-- ---- places

-- State i's statement begins at a place; behind the last state, the first edge's.
pub record AtState (text : List ℕ) (i at : ℕ) : Type 0 where
  pub near : at ≤ 10 + 17 * i
  pub rest : drop at text ≡ state_lines i (drop i (colours_of (read_of text))) ++ (edge_lines (edges_of (read_of text)) ++ closing)

-- Edge i's statement begins at a place; behind the last edge, the closing line.
pub record AtEdge (text : List ℕ) (i at : ℕ) : Type 0 where
  pub near : at ≤ 17010 + 24 * i
  pub rest : drop at text ≡ edge_lines (drop i (edges_of (read_of text))) ++ closing

-- a state's statement that stands there is read, and the rest follows
state_read : (text : List ℕ) (at s c : ℕ) (rest : List ℕ) → drop at text ≡ state_line s c ++ rest → s < 1000 → c < 1000 →
    let state = number_at text at in
    let colour = number_at text (state.end + 8) in
    (colour.value ≡ c) × (drop (colour.end + 3) text ≡ rest) × (colour.end + 3 ≤ at + 17)
unfolding state_line
state_read text at s c rest e h k =
    let x = stands-split (decimal s) (labelled c) (stands_of text at (decimal s ++ labelled c) rest e) in
    let y = stands-split label_word (decimal c ++ line_end) x.1 in
    let z = stands-split (decimal c) line_end y.1 in
    let first = number-drawn text at s _ x.0.is h (rw x.1.is) in
    let second = number-drawn text (at + length (decimal s) + 8) c _ z.0.is k (rw z.1.is) in
    rw (first, second) (
      refl,
      ap (λ (k : ℕ). drop k text) (sym z.1.ends) ∙ behind_of text at (decimal s ++ labelled c) rest e,
      omega (arith, digits_few (digits_of_lem s h), digits_few (digits_of_lem c k)),
    )

states-cons : (i : ℕ) (cs rest : List ℕ) → i < length cs →
    state_lines i (drop i cs) ++ rest ≡ state_line i (get_or cs i 0) ++ (state_lines (suc i) (drop (suc i) cs) ++ rest)
unfolding state_lines
states-cons i cs rest h = rw (drop-cons cs i 0 h) (append_assoc (state_line i (get_or cs i 0)) (state_lines (suc i) (drop (suc i) cs)) rest)

edges_cons : (i : ℕ) (es : List Edge) (rest : List ℕ) → i < length es →
    edge_lines (drop i es) ++ rest ≡ edge_line (get_or es i nowhere) ++ (edge_lines (drop (suc i) es) ++ rest)
unfolding edge_lines
edges_cons i es rest h = rw (drop-cons es i nowhere h) (append_assoc (edge_line (get_or es i nowhere)) (edge_lines (drop (suc i) es)) rest)

-- ---- a text and its survey

module _ (text : List ℕ) (s : Survey) (known : Known text s) where
  abbrev colours : List ℕ
  colours = colours_of (read_of text)

  abbrev edges : List Edge
  edges = edges_of (read_of text)

  pub states_are : s.states ≡ length colours
  states_are = ap (λ (x : Survey). x.states) known.survey ∙ rw known.read

  pub edges_are : s.edges ≡ length edges
  edges_are = ap (λ (x : Survey). x.edges) known.survey ∙ rw known.read

  pub labels_are : s.labels ≡ labels_of edges
  labels_are = ap (λ (x : Survey). x.labels) known.survey ∙ rw known.read

  begin_is : s.begin ≡ 10 + length (state_lines 0 colours)
  begin_is = ap (λ (x : Survey). x.begin) known.survey ∙ rw known.read

  sound : (length colours ≤ 1000) × (all_below 1000 colours ≡ true) × (each short_edge edges ≡ true) × (text ≡ drawn colours edges)
  sound = rw known.read (read_sound text known.colours known.edges known.read)

  opened : drop 10 text ≡ state_lines 0 colours ++ (edge_lines edges ++ closing)
  unfolding drawn
  opened = ap (drop 10) sound.3

  pub first_state : AtState text 0 10
  first_state = record { near = omega arith; rest = opened }

  pub first_edge : AtEdge text 0 s.begin
  first_edge = rw begin_is (record {
    near = omega (arith, sound.0, states_long 0 colours (omega (arith, sound.0)) sound.1);
    rest = behind_of text 10 (state_lines 0 colours) (edge_lines edges ++ closing) opened;
  })

  -- State i's colour, read where its statement begins, and the place behind that.
  pub next_state : (i at : ℕ) → i < s.states → AtState text i at →
      let state = number_at text at in
      let colour = number_at text (state.end + 8) in
      (colour.value ≡ get_or colours i 0) × AtState text (i + 1) (colour.end + 3)
  next_state i at h a =
      let l : i < length colours = omega (arith, states_are) in
      let r = state_read text at i (get_or colours i 0) _ (a.rest ∙ states-cons i colours (edge_lines edges ++ closing) l)
      (omega (arith, sound.0)) (below_at 1000 colours (omega arith) sound.1 i) in
      (r.0, record { near = omega (arith, a.near, r.2); rest = r.1 ∙ rw (add-one i) })

  -- Edge i, read where its statement begins, and the place behind that.
  pub next_edge : (i at : ℕ) → i < s.edges → AtEdge text i at →
      (edge_of (line_at text at).edge ≡ get_or edges i nowhere) × AtEdge text (i + 1) (line_at text at).end
  next_edge i at h a =
      let l : i < length edges = omega (arith, edges_are) in
      let e = get_or edges i nowhere in
      let is = a.rest ∙ edges_cons i edges closing l in
      let line = line_drawn text at e _ is (each_at short_edge edges i sound.2 l) in
      (rw line, record { near = omega (arith, a.near, line_long text at); rest = rw (line, add-one i) (behind_of text at (edge_line e) _ is) })

  -- so few that every place and every bit has a number
  pub states_few : (P : Profile) → Usable P → Writable P (filter_read (read_of text)) → s.states ≤ 256
  states_few P ok w = rw states_are (states≤256 P ok (filter_read (read_of text)) w)

  pub edges_few : (P : Profile) → Usable P → Writable P (filter_read (read_of text)) → s.edges ≤ 65536
  edges_few P ok w = rw edges_are (count≤65536 P ok (filter_read (read_of text)) w)
