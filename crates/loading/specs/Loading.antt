-- What is asked for putting a file into a table, and what is left there.
-- Assumes nothing.
use Rattle.std.specs.Prelude.{ℕ, ◌≤◌, ◌≡◌, List, length}
use Rattle.std.proofs.Math.Option.{none}
use Rattle.meaning.specs.Search.{at}
use Rattle.meaning.specs.Trace.{edge, colour}
use Rattle.refusals.specs.Refusals.{accepted}
use Rattle.layout.specs.declared.profile.Profile.{Profile}
use Rattle.layout.specs.Contents.{states_in, filter_in}
use Rattle.files.specs.Files.{check_of}
use Rattle.checking.specs.Promise.{Checked, CheckPromise}
use Rattle.table.specs.Table.{Table, look, Rows}

-- A table without edges, with a row for each state of the file; a row has 64 labels.
pub record Loadable (P : Profile) (file : List ℕ) (T : Table) : Type 0 where
  pub labels≤6 : P.labels ≤ 6
  pub empty : (s y : ℕ) → look T s y ≡ none
  pub rows : Rows T (states_in P file)

-- The file is checked, and of an accepted file the table has every edge.
pub record Loaded (P : Profile) (file : List ℕ) (r : Checked) (T T' : Table) : Type 0 where
  pub answer : CheckPromise P file r
  pub edges : (numbers : List ℕ) → check_of P file ≡ accepted numbers → look T' ≡ edge (filter_in P file)
  pub rows : length T' ≡ length T

-- The answer of a file's check, and a table that has every edge of an accepted file, with a row for each of its states.
pub record Tabled (P : Profile) (file : List ℕ) (r : Checked) (T : Table) : Type 0 where
  pub labels≤6 : P.labels ≤ 6
  pub answer : CheckPromise P file r
  pub edges : (numbers : List ℕ) → check_of P file ≡ accepted numbers → look T ≡ edge (filter_in P file)
  pub rows : Rows T (states_in P file)

-- 256 bytes that begin with the colours of the file.
pub record Coloured (P : Profile) (file hues : List ℕ) : Type 0 where
  pub colours : at hues ≡ colour (filter_in P file)
  pub long : length hues ≡ 256
