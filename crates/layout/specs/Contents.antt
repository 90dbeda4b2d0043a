-- What the bytes of a file hold, read at their positions (document 01, "The filter file"). Bits past the end count as 0.
-- Assumes nothing.
use Rattle.std.specs.Prelude.{ℕ, zero, suc, ◌+◌, ◌*◌, List, [], ◌∷◌, map, replicate}
use Rattle.bits.specs.Bits.{field}
use Rattle.pen.specs.Runs.{fields}
use Rattle.meaning.specs.Filter.{Edge, Filter}
use Rattle.layout.specs.declared.profile.Profile.{Profile}
use Rattle.layout.specs.declared.Field.{Field}
use Rattle.layout.specs.declared.edge.Placed.{Placed}
use Rattle.layout.specs.declared.Reading.{Reading}
use Rattle.layout.specs.Layout.{header_bits, edge_bits, edges_begin, file_bits, file_length, fill_bits}

-- n, for the field holds n - 1.
unfoldable pub states_in : Profile → List ℕ → ℕ
states_in P file = field file 0 P.states + 1

-- m, for the field holds m - 1.
unfoldable pub labels_in : Profile → List ℕ → ℕ
labels_in P file = field file P.states P.labels + 1

unfoldable pub start_in : Profile → List ℕ → ℕ
start_in P file = field file (P.states + P.labels) P.start

-- e
unfoldable pub count_in : Profile → List ℕ → ℕ
count_in P file = field file (P.states + P.labels + P.start) P.edges

-- The four numbers: n, m, start and e.
abbrev pub reading_in : Profile → List ℕ → Reading
reading_in P file = record { states = states_in P file; labels = labels_in P file; start = start_in P file; edges = count_in P file }

-- The colours, state 0 first.
unfoldable pub colours_in : Profile → List ℕ → List ℕ
colours_in P file = fields file (header_bits P) (replicate (states_in P file) P.colour)

-- The colour of a state, at its position.
unfoldable pub colour_at : Profile → List ℕ → ℕ → ℕ
colour_at P file s = field file (header_bits P + P.colour * s) P.colour

-- A field that is read: its value, and as its place the position of its first bit, counted from 0.
abbrev pub field_in_file : List ℕ → ℕ → ℕ → Field
field_in_file file at width = record { value = field file at width; place = at }

-- The fields of the edge whose first bit is at `at`: source, label, target.
unfoldable pub placed_at : Profile → List ℕ → ℕ → Placed
placed_at P file at = record {
  source = field_in_file file at P.states;
  label = field_in_file file (at + P.states) P.labels;
  target = field_in_file file (at + P.states + P.labels) P.states;
}

-- Those of e edges, one after another from `at` on.
unfoldable pub placed_from : Profile → List ℕ → ℕ → ℕ → List Placed
placed_from P file at zero = []
placed_from P file at (suc e) = placed_at P file at ∷ placed_from P file (at + edge_bits P) e

-- Those of all edges of the file.
unfoldable pub placed_in : Profile → List ℕ → List Placed
placed_in P file = placed_from P file (edges_begin P (states_in P file)) (count_in P file)

-- The edge that the fields' values are.
abbrev pub values : Placed → Edge
values e = record { source = e.source.value; label = e.label.value; target = e.target.value }

-- The edge whose first bit is at `at`.
unfoldable pub edge_at : Profile → List ℕ → ℕ → Edge
edge_at P file at = values (placed_at P file at)

-- e edges, one after another from `at` on.
unfoldable pub edges_from : Profile → List ℕ → ℕ → ℕ → List Edge
edges_from P file at e = map values (placed_from P file at e)

-- All edges of the file.
unfoldable pub edges_in : Profile → List ℕ → List Edge
edges_in P file = map values (placed_in P file)

-- The filter in the file.
unfoldable pub filter_in : Profile → List ℕ → Filter
filter_in P file = record {
  colours = colours_in P file;
  labels = labels_in P file;
  start = start_in P file;
  edges = edges_in P file;
}

-- The length that the file must have, by its own n and e.
unfoldable pub length_in : Profile → List ℕ → ℕ
length_in P file = file_length P (states_in P file) (count_in P file)

-- The number that the filling bits write.
unfoldable pub filling_in : Profile → List ℕ → ℕ
filling_in P file =
    field file (file_bits P (states_in P file) (count_in P file)) (fill_bits P (states_in P file) (count_in P file))
