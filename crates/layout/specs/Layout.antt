-- How a filter stands in a file: widths, positions, length, and the bytes that are written (document 01, "The filter file"; document 02, "The
-- pocket profile", "A fault stays a fault").
-- Assumes nothing.
use Rattle.std.specs.Prelude.{ℕ, zero, suc, ◌+◌, ◌*◌, ◌-◌, ◌/◌, List, [], ◌∷◌, ◌++◌, length, replicate}
use Rattle.std.specs.Prelude as rust
use Rattle.std.proofs.Math.Option.{Option, none, some}
use Rattle.pen.specs.Runs.{put_fields}
use Rattle.meaning.specs.Filter.{Edge, Filter, states}
use Rattle.layout.specs.declared.profile.Profile.{Profile}
use Rattle.layout.specs.Widths.{large_usable, pocket_usable}

-- The large file: its widths in bits, of the fields for states, labels, start and edges, and of a colour; and its fault colour, 63.
abbrev pub large : Profile
large = record { states = 8; labels = 6; start = 8; edges = 15; colour = 6; fault = rust.Some 63; usable = large_usable }

-- The pocket file. Its colours end at 15, and none of them is a fault.
abbrev pub pocket : Profile
pocket = record { states = 4; labels = 3; start = 4; edges = 8; colour = 4; fault = rust.None; usable = pocket_usable }

-- The colour that the code's value names, if it names one.
abbrev pub colour_of : rust.Option ℕ → Option ℕ
colour_of rust.None = none
colour_of (rust.Some colour) = some colour

-- The fault colour of a profile, if it has one.
abbrev pub fault_colour : Profile → Option ℕ
fault_colour P = colour_of P.fault

-- The widths and the values of the four numbers that stand before the colours: n - 1, m - 1, start, e.
abbrev pub header_widths : Profile → List ℕ
header_widths P = P.states ∷ P.labels ∷ P.start ∷ P.edges ∷ []

abbrev pub header_values : ℕ → ℕ → ℕ → ℕ → List ℕ
header_values n m start e = (n - 1) ∷ (m - 1) ∷ start ∷ e ∷ []

-- Bits of the four numbers that stand before the colours.
unfoldable pub header_bits : Profile → ℕ
header_bits P = P.states + P.labels + P.start + P.edges

-- Bits of an edge: source, label, target.
unfoldable pub edge_bits : Profile → ℕ
edge_bits P = P.states + P.labels + P.states

-- The position of the first edge's first bit, behind n colours.
unfoldable pub edges_begin : Profile → ℕ → ℕ
edges_begin P n = header_bits P + P.colour * n

-- Bits of n states and e edges: 37 + 6n + 22e in the large file, 19 + 4n + 11e in the pocket file.
unfoldable pub file_bits : Profile → ℕ → ℕ → ℕ
file_bits P n e = edges_begin P n + edge_bits P * e

-- The least whole number of bytes that holds b bits.
unfoldable pub bytes_for : ℕ → ℕ
bytes_for b = (b + 7) / 8

-- The length of a file of n states and e edges.
unfoldable pub file_length : Profile → ℕ → ℕ → ℕ
file_length P n e = bytes_for (file_bits P n e)

-- Zero bits to the end of the byte: how many.
unfoldable pub fill_bits : Profile → ℕ → ℕ → ℕ
fill_bits P n e = file_length P n e * 8 - file_bits P n e

-- The widths of e edges.
unfoldable pub edge_widths : Profile → ℕ → List ℕ
edge_widths P zero = []
edge_widths P (suc e) = P.states ∷ P.labels ∷ P.states ∷ edge_widths P e

-- The widths of all fields of a file, one after another.
unfoldable pub file_widths : Profile → ℕ → ℕ → List ℕ
file_widths P n e = header_widths P ++ (replicate n P.colour ++ (edge_widths P e ++ (fill_bits P n e ∷ [])))

-- An edge list as bytes, three an edge: source, label, target.
unfoldable pub flat : List Edge → List ℕ
flat [] = []
flat (e ∷ es) = e.source ∷ e.label ∷ e.target ∷ flat es

-- The edges of a list of bytes, three an edge.
unfoldable pub threes : List ℕ → List Edge
threes [] = []
threes (s ∷ []) = []
threes (s ∷ l ∷ []) = []
threes (s ∷ l ∷ t ∷ rest) = record { source = s; label = l; target = t } ∷ threes rest

-- The filter of a colour list, an edge list, m and a start.
abbrev pub from_lists : List ℕ → List ℕ → ℕ → ℕ → Filter
from_lists colours edges m start = record { colours = colours; labels = m; start = start; edges = threes edges }

-- A room with edges written one after another from bit `at` on.
abbrev pub put_edges : Profile → List ℕ → ℕ → List Edge → List ℕ
put_edges P room at es = put_fields room at (edge_widths P (length es)) (flat es)

-- What the fields hold: n - 1, m - 1, start, e, the colours, the edges, and 0 to fill.
unfoldable pub file_values : Filter → List ℕ
file_values F =
    header_values (states F) F.labels F.start (length F.edges) ++ (F.colours ++ (flat F.edges ++ (0 ∷ [])))

-- The length of a filter's file.
unfoldable pub length_of : Profile → Filter → ℕ
length_of P F = file_length P (states F) (length F.edges)

-- A filter's file.
unfoldable pub written : Profile → Filter → List ℕ
written P F =
    put_fields (replicate (length_of P F) 0) 0 (file_widths P (states F) (length F.edges)) (file_values F)
