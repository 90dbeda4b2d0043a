-- What unpack answers, and what it promises of its answer and of every byte that it is lent to write. What is lent to be read
-- cannot change.
-- Assumes nothing.
use Rattle.std.specs.Prelude.{Result, Ok, Err, ℕ, ◌*◌, ◌≤◌, ◌||◌, List, [], ◌∷◌, ltb, length}
use Rattle.refusals.specs.declared.Refusal.{Refusal}
use Rattle.refusals.specs.Refusals.{Outcome, accepted, refusal_outcome, Test, test, first_of, onward, Lent, lent, Promise}
use Rattle.layout.specs.declared.profile.Profile.{Profile}
use Rattle.layout.specs.declared.Reading.{Reading}
use Rattle.layout.specs.Layout.{flat}
use Rattle.layout.specs.Contents.{states_in, count_in, colours_in, edges_in}
use Rattle.files.specs.Files.{reading_outcome, numbers_in, check_of}

abbrev pub Unpacked : Type 0
Unpacked = Result Reading Refusal

abbrev pub unpacked_outcome : Unpacked → Outcome
unpacked_outcome (Ok r) = reading_outcome r
unpacked_outcome (Err r) = refusal_outcome r

-- The rooms that unpack is lent.
pub record Rooms : Type 0 where
  pub colours : List ℕ
  pub edges : List ℕ

abbrev pub rooms : List ℕ → List ℕ → Rooms
rooms colours edges = record { colours = colours; edges = edges }

abbrev pub both : Rooms → List (List ℕ)
both room = room.colours ∷ room.edges ∷ []

-- 12: the colour room is below n, or the edge room below 3e.
abbrev pub unpack_tests : Profile → List ℕ → Rooms → List Test
unpack_tests P file room =
    test 12 (ltb (length room.colours) (states_in P file) || ltb (length room.edges) (3 * count_in P file)) ∷ []

unfoldable pub unpack_of : Profile → List ℕ → Rooms → Outcome
unpack_of P file room = onward (check_of P file) (first_of (unpack_tests P file room) (accepted (numbers_in P file)))

-- What is written: the n colours, and the 3e bytes of the edges.
abbrev pub unpack_lent : Profile → List ℕ → Rooms → List Lent
unpack_lent P file found = lent (colours_in P file) found.colours ∷ lent (flat (edges_in P file)) found.edges ∷ []

-- Accepted: the first n and the first 3e bytes of the two rooms are filled, the rest is as found. Refused: both are as found.
abbrev pub UnpackPromise : Profile → List ℕ → Rooms → Unpacked → Rooms → Type 0
UnpackPromise P file found r left =
    Promise (unpacked_outcome r) (unpack_of P file found) (unpack_lent P file found) (both left)

-- What is asked for reading e edges from bit `at` on into a room.
pub record Readable (P : Profile) (at e : ℕ) (room : List ℕ) : Type 0 where
  pub begin : at ≤ 2096
  pub few : e ≤ 65536
  pub holds : 3 * e ≤ length room
