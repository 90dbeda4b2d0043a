-- What reducing an accepted file gives: the counts, the reduced file and the class list (document 01, "Reducing").
-- Assumes nothing.
use Rattle.std.specs.Prelude.{ℕ, ◌≤◌, ◌≡◌, List, [], ◌∷◌, length}
use Rattle.meaning.specs.Filter.{Filter, states}
use Rattle.meaning.specs.Trace.{edge}
use Rattle.meaning.specs.Reduced.{reduce, reduced, class_list, distinct}
use Rattle.refusals.specs.Refusals.{Outcome, accepted, laid}
use Rattle.layout.specs.declared.profile.Profile.{Profile}
use Rattle.layout.specs.declared.Reading.{Reading}
use Rattle.layout.specs.Layout.{length_of, written}
use Rattle.layout.specs.Contents.{filter_in}
use Rattle.files.specs.Files.{reading_outcome, check_of}
use Rattle.table.specs.Table.{Table, look, Rows}
use Rattle.folding.specs.declared.Counts.{Counts}

-- States, distinct colours, rounds, and the length in bytes.
unfoldable pub counts_of : Profile → Filter → List ℕ
counts_of P F = states (reduced F) ∷ distinct F ∷ (reduce F).rounds ∷ length_of P (reduced F) ∷ []

-- states, distinct colours, rounds and length
abbrev pub counts_outcome : Counts → Outcome
counts_outcome c = accepted (c.states ∷ c.colours ∷ c.rounds ∷ c.length ∷ [])

-- The rooms that reduce is lent.
pub record Rooms : Type 0 where
  pub answer : List ℕ
  pub classes : List ℕ

abbrev pub rooms : List ℕ → List ℕ → Rooms
rooms answer classes = record { answer = answer; classes = classes }

abbrev pub both : Rooms → List (List ℕ)
both room = room.answer ∷ room.classes ∷ []

-- What is asked for reducing an accepted file: its edges are in the table, a row has 64 labels, and the rooms are long enough.
pub record Foldable (P : Profile) (file : List ℕ) (r : Reading) (T : Table) (room : Rooms) : Type 0 where
  pub labels≤6 : P.labels ≤ 6
  pub answer : check_of P file ≡ reading_outcome r
  pub edges : look T ≡ edge (filter_in P file)
  pub rows : Rows T r.states
  pub answer_room : length file ≤ length room.answer
  pub class_room : r.states ≤ length room.classes

-- What reducing it leaves.
pub record Folded (P : Profile) (file : List ℕ) (found : Rooms) (c : Counts) (left : Rooms) : Type 0 where
  pub counts : counts_outcome c ≡ accepted (counts_of P (filter_in P file))
  pub answer : left.answer ≡ laid (written P (reduced (filter_in P file))) found.answer
  pub classes : left.classes ≡ laid (class_list (filter_in P file)) found.classes
