-- What pack answers, and what it promises of its answer and of every byte that it is lent to write. What is lent to be read
-- cannot change.
-- Assumes nothing.
use Rattle.std.specs.Prelude.{Result, Ok, Err, ℕ, ◌%◌, ◌/◌, ◌≤◌, List, [], ◌∷◌, eqb, length}
use Rattle.pen.specs.Runs.{Fit}
use Rattle.refusals.specs.declared.Refusal.{Refusal}
use Rattle.refusals.specs.Refusals.{Outcome, accepted, refusal_outcome, Lent, lent, Promise}
use Rattle.layout.specs.declared.profile.Profile.{Profile}
use Rattle.layout.specs.Layout.{edge_widths, from_lists, written}
use Rattle.files.specs.Files.{write_of}

-- the length
abbrev pub Packed : Type 0
Packed = Result ℕ Refusal

abbrev pub packed_outcome : Packed → Outcome
packed_outcome (Ok n) = accepted (n ∷ [])
packed_outcome (Err r) = refusal_outcome r

-- 14, 2, 3, the edges, 17, 10; the edge list's length is a multiple of 3
unfoldable pub pack_of : Profile → List ℕ → List ℕ → ℕ → ℕ → ℕ → Outcome
pack_of P colours edges m start room = write_of P (from_lists colours edges m start) (eqb (length edges % 3) 0) room

-- What is written: the file of the filter from_lists.
abbrev pub pack_lent : Profile → List ℕ → List ℕ → ℕ → ℕ → List ℕ → List Lent
pack_lent P colours edges m start room = lent (written P (from_lists colours edges m start)) room ∷ []

-- Accepted: the room begins with the file, the rest is as found. Refused: the room is as found.
abbrev pub PackPromise : Profile → List ℕ → List ℕ → ℕ → ℕ → List ℕ → Packed → List ℕ → Type 0
PackPromise P colours edges m start room r room' =
    Promise (packed_outcome r) (pack_of P colours edges m start (length room)) (pack_lent P colours edges m start room) (room' ∷ [])

-- What is asked for writing e edges of a list from bit `at` on into a room.
pub record Placeable (P : Profile) (at : ℕ) (edges : List ℕ) (e : ℕ) (room : List ℕ) : Type 0 where
  pub begin : at ≤ 2096
  pub few : e ≤ 65536
  pub fit : Fit (edge_widths P e) edges
  pub reaches : at / 8 ≤ length room
