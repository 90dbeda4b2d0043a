-- What has to be known of a drawing before its file is written.
-- Assumes nothing.
use Rattle.std.specs.Prelude as rust
use Rattle.std.specs.Prelude.{Result, Ok, Err, ℕ, suc, ◌+◌, ◌<◌, ◌^◌, ◌≡◌, Bool, false, not, ◌&&◌, List, [], ◌∷◌, ◌++◌, eqb, ltb, length}
use Rattle.std.proofs.Math.Option.{Option, none, some}
use Rattle.meaning.specs.Pick.{pick}
use Rattle.meaning.specs.Search.{at}
use Rattle.meaning.specs.Filter as meaning
use Rattle.sets.specs.Sets.{contains}
use Rattle.layout.specs.declared.edge.Edge.{Edge}
use Rattle.layout.specs.Code.{edge_of}
use Rattle.edges.specs.Faults.{listed_from, Fault, or_else, first_fault, first_leaving}
use Rattle.edges.specs.Walk.{Verdict, fault_of, Ranked}
use Rattle.drawing.specs.declared.Outside.{Outside}
use Rattle.drawing.specs.Profile.{larger, state_lines, labels_of}
use Rattle.drawing.specs.Reader.{Read, drawing, outside, read_of, no_state}
use Rattle.surveying.specs.declared.Survey.{Survey}
use Rattle.surveying.specs.declared.Testing.{Testing}

-- The largest of some numbers plus one; 0 where there is none.
unfoldable pub bound : List ℕ → ℕ
bound [] = 0
bound (x ∷ xs) = larger (suc x) (bound xs)

-- The number that the next state would have: none, once there is an edge.
abbrev pub next_of : List ℕ → List meaning.Edge → ℕ
next_of colours [] = length colours
next_of colours (e ∷ es) = no_state

abbrev pub survey_of : List ℕ → List meaning.Edge → Survey
survey_of colours edges = record {
  states = length colours;
  colours = bound colours;
  begin = 10 + length (state_lines 0 colours);
  edges = length edges;
  labels = labels_of edges;
  next = next_of colours edges;
}

abbrev pub smaller : ℕ → ℕ → ℕ
smaller a b = pick (ltb a b) a b

-- 7, 8 and 9 of a drawing's edges, among at most 256 states and labels. With more of them a text is 14, whatever its edges are.
abbrev pub fault_among : ℕ → List meaning.Edge → Option Fault
fault_among n edges = first_fault (smaller n 256) 256 none (listed_from 0 edges)

-- The fault of a drawing's edges: the first of 7, 8 and 9; without one, the first 17.
abbrev pub fault_in : Option ℕ → List ℕ → List meaning.Edge → Option Fault
fault_in fault colours edges =
    or_else (fault_among (length colours) edges) (first_leaving fault colours (listed_from 0 edges))

-- What is found of a text: its survey and the fault of its edges; or the place at which it leaves the profile.
pub data Found : Type 0 where
  inside : Survey → Option Fault → Found
  leaves : ℕ → Found

abbrev pub Surveyed : Type 0
Surveyed = Result (Survey × Verdict) Outside

abbrev pub found_of : Surveyed → Found
found_of (Ok (s, verdict)) = inside s (fault_of verdict)
found_of (Err left) = leaves left.place

-- `fault` is the fault colour, if there is one.
abbrev pub surveyed : Option ℕ → Read → Found
surveyed fault (drawing colours edges) = inside (survey_of colours edges) (fault_in fault colours edges)
surveyed fault (outside place) = leaves place

-- A text of the profile and its survey.
pub record Known (text : List ℕ) (s : Survey) : Type 0 where
  pub colours : List ℕ
  pub edges : List meaning.Edge
  pub read : read_of text ≡ drawing colours edges
  pub survey : s ≡ survey_of colours edges

-- ---- one statement more

-- What is asked for it: the counts can grow, and its number is short.
pub record Countable (s : Survey) (number : ℕ) : Type 0 where
  pub states : s.states < 2 ^ 63
  pub edges : s.edges < 2 ^ 63
  pub next : s.next < 2 ^ 63
  pub short : number < 1000

-- All three numbers of an edge are bytes.
abbrev pub bytes : Edge → Bool
bytes e = ltb e.source 256 && (ltb e.label 256 && ltb e.target 256)

-- The last of some edges; `before` where there is none.
unfoldable pub last_of : Option meaning.Edge → List meaning.Edge → Option meaning.Edge
last_of before [] = before
last_of before (e ∷ es) = last_of (some e) es

-- State k has the fault colour.
unfoldable pub has_fault_colour : Option ℕ → List ℕ → ℕ → Bool
has_fault_colour none colours k = false
has_fault_colour (some fault) colours k = ltb k (length colours) && eqb (at colours k) fault

-- Four words in which the states of the fault colour are marked, as far as a file can have them.
pub record Marked (fault : Option ℕ) (colours words : List ℕ) : Type 0 where
  pub long : length words ≡ 4
  pub says : (k : ℕ) → k < 256 → contains words k ≡ has_fault_colour fault colours k

-- The state behind the first k was marked too, if it has the fault colour.
abbrev pub MarkedOn : Option ℕ → ℕ → ℕ → List ℕ → List ℕ → Type 0
MarkedOn fault k colour words words' =
    (colours : List ℕ) → length colours ≡ k → Marked fault colours words → Marked fault (colours ++ (colour ∷ [])) words'

-- 17 of an edge, if there is one.
abbrev pub leaving_is : rust.Option ℕ → Option Fault
leaving_is rust.None = none
leaving_is (rust.Some i) = some (record { number = 17; place = i })

-- 17 of edge i, as marks tell it.
abbrev pub leaving_by : List ℕ → ℕ → Edge → Option Fault
leaving_by words i e =
    pick (contains words e.source && not (contains words e.target)) (leaving_is (rust.Some i)) none

-- Edges that were tested: their own first fault; without one, the rank of the last of them, and the first that gets 17.
pub record Judged (fault : Option ℕ) (colours : List ℕ) (es : List meaning.Edge) (t : Testing) : Type 0 where
  pub own : fault_of t.verdict ≡ fault_among (length colours) es
  pub ranked : fault_of t.verdict ≡ none → Ranked t.last (last_of none es)
  pub leaving : fault_of t.verdict ≡ none → leaving_is t.leaving ≡ first_leaving fault colours (listed_from 0 es)

-- The edge behind the first i was tested too, among n states with their marks.
abbrev pub JudgedOn : ℕ → List ℕ → ℕ → Edge → Testing → Testing → Type 0
JudgedOn n words i e t t' =
    (fault : Option ℕ) (colours : List ℕ) (es : List meaning.Edge) → length colours ≡ n → Marked fault colours words → length es ≡ i →
    Judged fault colours es t → Judged fault colours (es ++ (edge_of e ∷ [])) t'
