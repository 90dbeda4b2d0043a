-- What the code's own types stand for, and the widths that it can use. No public call's promise speaks of these.
-- Assumes nothing.
use Rattle.std.specs.Prelude.{ℕ, ◌+◌, ◌≤◌, ◌<◌, ◌^◌, List, get_or}
use Rattle.meaning.specs.Filter as meaning
use Rattle.pen.specs.Runs.{Fit, Ready, place_of}
use Rattle.pen.specs.declared.Pen.{Pen}
use Rattle.layout.specs.declared.profile.Profile.{Profile}
use Rattle.layout.specs.Widths as widths
use Rattle.layout.specs.declared.edge.Edge.{Edge}
use Rattle.layout.specs.declared.edge.Placed.{Placed}
use Rattle.layout.specs.Layout.{header_widths, header_values}

-- The widths of a profile are such that the code can use.
abbrev pub Usable : Profile → Type 0
Usable P = widths.Usable P.states P.labels P.start P.edges P.colour P.fault

-- What is asked for writing the four numbers before the colours.
pub record Heading (P : Profile) (n m start e : ℕ) : Type 0 where
  pub fit : Fit (header_widths P) (header_values n m start e)
  pub states : 1 ≤ n
  pub labels : 1 ≤ m

abbrev pub edge_of : Edge → meaning.Edge
edge_of e = record { source = e.source; label = e.label; target = e.target }

-- The values of an edge's fields, without their places.
abbrev pub bare : Placed → Edge
bare e = record { source = e.source.value; label = e.label.value; target = e.target.value }

-- The edge that begins at place o of a list of bytes: source, label, target.
abbrev pub edge_in : List ℕ → ℕ → meaning.Edge
edge_in bytes o = record { source = get_or bytes o 0; label = get_or bytes (o + 1) 0; target = get_or bytes (o + 2) 0 }

-- Source, label and target are bytes.
pub record Small (e : Edge) : Type 0 where
  pub source : e.source < 256
  pub label : e.label < 256
  pub target : e.target < 256

-- What is asked for writing an edge behind what a pen holds: its parts fit their widths.
pub record Pushable (P : Profile) (pen : Pen) (e : Edge) : Type 0 where
  pub ready : Ready pen
  pub near : place_of pen < 2 ^ 63
  pub source : e.source < 2 ^ P.states
  pub label : e.label < 2 ^ P.labels
  pub target : e.target < 2 ^ P.states
