-- A filter in a table: its states are rows in an order of their own, and a list leads their targets to new numbers.
-- Assumes nothing.
use Rattle.std.specs.Prelude.{ℕ, ◌+◌, ◌≤◌, ◌<◌, ◌^◌, ◌≡◌, true, List, [], ◌∷◌, length}
use Rattle.std.proofs.Math.Option.{Option, none, some}
use Rattle.meaning.specs.Search.{at}
use Rattle.meaning.specs.Filter.{Edge, Filter}
use Rattle.meaning.specs.Reduced.{listed}
use Rattle.pen.specs.declared.Pen.{Pen}
use Rattle.pen.specs.Runs.{place_of, Ready, Drawn}
use Rattle.refusals.specs.Refusals.{accepted}
use Rattle.layout.specs.declared.profile.Profile.{Profile}
use Rattle.layout.specs.Layout.{edge_widths, flat, length_of}
use Rattle.files.specs.Files.{write_of}
use Rattle.table.specs.Table.{Table, look, Rows}

-- An edge led to the number of its target.
unfoldable pub led : List ℕ → Option ℕ → Option ℕ
led list none = none
led list (some t) = some (at list t)

-- The edge of state k at a label: that of row `order k`.
abbrev pub row_edge : Table → List ℕ → List ℕ → ℕ → ℕ → Option ℕ
row_edge T order list k y = led list (look T (at order k) y)

-- The edges of all rows at the labels below m, in file order.
abbrev pub edges_of : Table → List ℕ → List ℕ → ℕ → List Edge
edges_of T order list m = listed (row_edge T order list) (length order) m

-- The filter with a row for each of its colours.
abbrev pub stored : Table → List ℕ → List ℕ → List ℕ → ℕ → ℕ → Filter
stored T order list colours m start = record { colours = colours; labels = m; start = start; edges = edges_of T order list m }

-- s₀ with the edges written from bit `at` on is what s and the pen hold together.
abbrev pub EdgesDrawn : Profile → List ℕ → ℕ → List Edge → List ℕ → Pen → Type 0
EdgesDrawn p s₀ at es s pen = Drawn s₀ at (edge_widths p (length es)) (flat es) s pen

-- Pack would accept the filter for a room of so many bytes. The edges are no list of bytes, so that its test of whole edges is
-- passed.
abbrev pub Packable : Profile → Filter → ℕ → Type 0
Packable p F room = write_of p F true room ≡ accepted (length_of p F ∷ [])

-- The rows in their order can be written: they stand in the table, labels are below a limit, and numbers fit their fields.
pub record Storable (p : Profile) (T : Table) (order list : List ℕ) (limit : ℕ) : Type 0 where
  pub states : length order ≤ 2 ^ p.states
  pub rows : (k : ℕ) → k < length order → Rows T (at order k + 1)
  pub label : (k y t : ℕ) → k < length order → look T (at order k) y ≡ some t → y < limit
  pub in_list : (k y t : ℕ) → k < length order → look T (at order k) y ≡ some t → t < length list
  pub target : (k y t : ℕ) → k < length order → look T (at order k) y ≡ some t → at list t < 2 ^ p.states

-- What is asked for drawing the row of state k behind what a pen holds.
pub record Drawable (p : Profile) (T : Table) (order list : List ℕ) (k : ℕ) (pen : Pen) : Type 0 where
  pub rows : Storable p T order list (2 ^ p.labels)
  pub state : k < length order
  pub ready : Ready pen
  pub near : place_of pen ≤ 2 ^ 32

-- The rows, with a colour each, are a file that a room of so many bytes holds.
pub record Fileable (p : Profile) (T : Table) (order list colours : List ℕ) (m start room : ℕ) : Type 0 where
  pub rows : Storable p T order list m
  pub labels : m ≤ 64
  pub coloured : length order ≡ length colours
  pub packable : Packable p (stored T order list colours m start) room
