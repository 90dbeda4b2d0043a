-- The table of edges: a row a state, with 64 targets, one a label, and the set of the labels that the state has an edge for.
-- Assumes nothing.
use Rattle.std.specs.Prelude.{ℕ, ◌≤◌, ◌≡◌, ◌&&◌, List, eqb, ltb, length, replicate, slice_index_or}
use Rattle.std.proofs.Math.Option.{Option, none, some}
use Rattle.meaning.specs.Pick.{pick}
use Rattle.meaning.specs.Search.{at}
use Rattle.sets.specs.Sets.{holds}
use Rattle.table.specs.declared.Row.{Row}

abbrev pub Table : Type 0
Table = List Row

-- A row without edges.
abbrev pub blank : Row
blank = record { labels = 0; targets = replicate 64 0 }

-- The row with 255, which few filters have as a state, as each target.
abbrev pub marked : Row → Row
marked r = record { labels = r.labels; targets = replicate 64 255 }

-- The row of a state. A state past the table's end has no edge.
abbrev pub row : Table → ℕ → Row
row T s = slice_index_or T s blank

-- The edge of a state at a label. A label past the 64 has none.
unfoldable pub look : Table → ℕ → ℕ → Option ℕ
look T s y = pick (ltb y 64 && holds (row T s).labels y) (some (at (row T s).targets y)) none

-- The table has a row for each of n states.
pub record Rows (T : Table) (n : ℕ) : Type 0 where
  pub long : n ≤ length T

-- The edges `next`, and the edge (s, y, t) before them.
unfoldable pub with_edge : (ℕ → ℕ → Option ℕ) → ℕ → ℕ → ℕ → ℕ → ℕ → Option ℕ
with_edge next s y t a b = pick (eqb s a && eqb y b) (some t) (next a b)

-- What putting an edge leaves.
pub record Put (T T' : Table) (s y t : ℕ) : Type 0 where
  pub edges : look T' ≡ with_edge (look T) s y t
  pub rows : length T' ≡ length T

-- The first of two edges, where there is one.
abbrev pub or : Option ℕ → Option ℕ → Option ℕ
or (some t) o = some t
or none o = o

-- The edges `next`, and for state `to` those of state `from` at the labels where it has none itself.
unfoldable pub given : (ℕ → ℕ → Option ℕ) → ℕ → ℕ → ℕ → ℕ → Option ℕ
given next from to s y = pick (eqb s to) (or (next to y) (next from y)) (next s y)

-- What giving leaves.
pub record Gave (T T' : Table) (from to : ℕ) : Type 0 where
  pub edges : look T' ≡ given (look T) from to
  pub rows : length T' ≡ length T
