-- The filter of classes as the code makes it, from a table and a name for each state. Assumes nothing.
use Rattle.std.specs.Prelude.{ℕ, ◌≤◌, ◌<◌, ◌≡◌, ◌&&◌, List, eqb, length, take}
use Rattle.std.proofs.Math.Option.{Option, some}
use Rattle.meaning.specs.Search.{least, at}
use Rattle.meaning.specs.Filter.{Filter}
use Rattle.meaning.specs.Reduced.{has, merged_over}
use Rattle.layout.specs.declared.profile.Profile.{Profile}
use Rattle.layout.specs.declared.Reading.{Reading}
use Rattle.table.specs.Table.{Table, look, Rows}
use Rattle.storing.specs.Stored.{Packable}
use Rattle.numbering.specs.Names.{Names}

-- Edges begin and end at one of n states, and their labels are below m.
abbrev pub Within : (ℕ → ℕ → Option ℕ) → ℕ → ℕ → Type 0
Within next n m = (s y t : ℕ) → next s y ≡ some t → (s < n) × (y < m) × (t < n)

-- What gathering leaves: the state that names a class has at each label the edge of the first member that has one.
pub record Gathered (T T' : Table) (n : ℕ) (P : List ℕ) : Type 0 where
  pub edges : (c y : ℕ) → c < n → at P c ≡ c →
      look T' c y ≡ look T (least (λ s. eqb (at P s) c && has (look T s y)) n) y
  pub rows : length T' ≡ length T

-- The filter of the classes of a reading, by its table, its colours and the names of its states.
abbrev pub merged_by : Table → List ℕ → List ℕ → Reading → Filter
merged_by T colours names r =
    merged_over (look T) (at colours) r.states r.labels r.start (take r.states names)

-- Table, colours and names fit a reading, the start is in a class and edges lead from classes to classes, and the rooms hold what is
-- written.
pub record Foldable (p : Profile) (T : Table) (colours names : List ℕ) (r : Reading) (answer list : ℕ) : Type 0 where
  pub labels : r.labels ≤ 64
  pub begins : r.start < r.states
  pub begins_in : at (take r.states names) r.start < r.states
  pub rows : Rows T r.states
  pub within : Within (look T) r.states r.labels
  pub leads : (s y t : ℕ) → look T s y ≡ some t → at (take r.states names) s < r.states → at (take r.states names) t < r.states
  pub colours_long : length colours ≡ 256
  pub named : Names r.states names
  pub list_room : r.states ≤ list
  pub answer_room : Packable p (merged_by T colours names r) answer
