-- What a text of the profile is (document 02, wish 1): a list of colours and a list of edges, and the bytes that they are drawn
-- as. Bytes are ASCII.
-- Assumes nothing.
use Rattle.std.specs.Prelude.{ℕ, suc, ◌≤◌, ◌<◌, ◌≡◌, Bool, true, ◌&&◌, List, [], ◌∷◌, ◌++◌, ltb, length, take}
use Rattle.meaning.specs.Pick.{pick}
use Rattle.meaning.specs.Filter.{Edge, Filter, each}
use Rattle.files.specs.Files.{all_below}
use Rattle.text.specs.Decimal.{decimal}

-- "digraph {" and the newline
abbrev pub opening : List ℕ
opening = 100 ∷ 105 ∷ 103 ∷ 114 ∷ 97 ∷ 112 ∷ 104 ∷ 32 ∷ 123 ∷ 10 ∷ []

-- " -> "
abbrev pub arrow : List ℕ
arrow = 32 ∷ 45 ∷ 62 ∷ 32 ∷ []

-- " [label="
abbrev pub label_word : List ℕ
label_word = 32 ∷ 91 ∷ 108 ∷ 97 ∷ 98 ∷ 101 ∷ 108 ∷ 61 ∷ []

-- "];" and the newline
abbrev pub line_end : List ℕ
line_end = 93 ∷ 59 ∷ 10 ∷ []

-- "}" and the newline
abbrev pub closing : List ℕ
closing = 125 ∷ 10 ∷ []

-- The end of a statement: ` [label=1];`
abbrev pub labelled : ℕ → List ℕ
labelled value = label_word ++ (decimal value ++ line_end)

-- `3 [label=1];` with the colour
unfoldable pub state_line : ℕ → ℕ → List ℕ
state_line s colour = decimal s ++ labelled colour

-- `0 -> 2 [label=1];`
unfoldable pub edge_line : Edge → List ℕ
edge_line e = decimal e.source ++ (arrow ++ (decimal e.target ++ labelled e.label))

-- A statement for each state from s on.
unfoldable pub state_lines : ℕ → List ℕ → List ℕ
state_lines s [] = []
state_lines s (colour ∷ colours) = state_line s colour ++ state_lines (suc s) colours

unfoldable pub edge_lines : List Edge → List ℕ
edge_lines [] = []
edge_lines (e ∷ es) = edge_line e ++ edge_lines es

-- The text of a list of colours and a list of edges: states from 0, then edges.
unfoldable pub drawn : List ℕ → List Edge → List ℕ
drawn colours edges = opening ++ (state_lines 0 colours ++ (edge_lines edges ++ closing))

-- A number of one to three digits.
abbrev pub short : ℕ → Bool
short n = ltb n 1000

abbrev pub short_edge : Edge → Bool
short_edge e = short e.source && (short e.label && short e.target)

-- Some text of the profile: every number is one of 0 to 999, a state's too.
pub record InProfile (text : List ℕ) : Type 0 where
  pub colours : List ℕ
  pub edges : List Edge
  pub few : length colours ≤ 1000
  pub short_colours : all_below 1000 colours ≡ true
  pub short_edges : each short_edge edges ≡ true
  pub is_drawn : text ≡ drawn colours edges

-- Some text of a set begins so.
pub record Begins (Texts : List ℕ → Type 0) (beginning : List ℕ) : Type 0 where
  pub rest : List ℕ
  pub whole : Texts (beginning ++ rest)

-- k is the length of the longest beginning of a text that some text of a set also has: one begins with these k bytes, and none
-- with one byte more, where there is one.
pub record Longest (Texts : List ℕ → Type 0) (text : List ℕ) (k : ℕ) : Type 0 where
  pub inside : k ≤ length text
  pub begins : Begins Texts (take k text)
  pub no_more : k < length text → Begins Texts (take (suc k) text) → ⊥

-- ---- filters

abbrev pub larger : ℕ → ℕ → ℕ
larger a b = pick (ltb a b) b a

-- m is the largest label plus one, or 1 without edges.
unfoldable pub labels_of : List Edge → ℕ
labels_of [] = 1
labels_of (e ∷ es) = larger (suc e.label) (labels_of es)

-- The filter that is drawn so: its start is state 0.
abbrev pub filter_of : List ℕ → List Edge → Filter
filter_of colours edges = record { colours = colours; labels = labels_of edges; start = 0; edges = edges }
