-- Refusals and their numbers, tests in a row, and what a call promises of its answer and of the rooms that it is lent (document 01,
-- "Numbers of refusal").
-- Assumes nothing.
use Rattle.std.specs.Prelude.{ℕ, ◌≡◌, Bool, List, [], ◌∷◌, ◌++◌, ltb, length, drop, replicate}
use Rattle.meaning.specs.Pick.{pick}
use Rattle.refusals.specs.declared.Kind.{Kind}
use Rattle.refusals.specs.declared.Kind.TheVariants as kind
use Rattle.refusals.specs.declared.Refusal.{Refusal}

-- This paper's number of each kind of refusal.
abbrev pub number_of : Kind → ℕ
number_of kind.TooShort = 1
number_of kind.Start = 2
number_of kind.EdgeCount = 3
number_of kind.Missing = 4
number_of kind.Excess = 5
number_of kind.Filling = 6
number_of kind.Outside = 7
number_of kind.Order = 8
number_of kind.Repeated = 9
number_of kind.AnswerRoom = 10
number_of kind.ClassRoom = 11
number_of kind.Room = 12
number_of kind.Observation = 13
number_of kind.Lists = 14
number_of kind.Drawing = 15
number_of kind.Pocket = 16
number_of kind.Leaving = 17

-- What a call answers: the values that come back, or a refusal's number and place. With a refusal no other number comes back.
pub data Outcome : Type 0 where
  accepted : List ℕ → Outcome
  refused : ℕ → ℕ → Outcome

-- The refusal's number and place, 0 and 0 where the call accepts; and the k values that it has then. With a refusal each is 0.
abbrev pub number_in : Outcome → ℕ
number_in (accepted vs) = 0
number_in (refused number place) = number

abbrev pub place_in : Outcome → ℕ
place_in (accepted vs) = 0
place_in (refused number place) = place

abbrev pub values_of : ℕ → Outcome → List ℕ
values_of k (accepted vs) = vs
values_of k (refused number place) = replicate k 0

abbrev pub refusal_outcome : Refusal → Outcome
refusal_outcome r = refused (number_of r.kind) r.place

-- ---- tests in a row

-- A refusal's number, and whether it is given. Its place is 0.
pub record Test : Type 0 where
  pub number : ℕ
  pub given : Bool

abbrev pub test : ℕ → Bool → Test
test k b = record { number = k; given = b }

-- The first test that is given decides; where none is, what follows.
abbrev pub first_of : List Test → Outcome → Outcome
first_of [] next = next
first_of (t ∷ ts) next = pick t.given (refused t.number 0) (first_of ts next)

-- A file that is refused ends the call with that same refusal; an accepted one goes on.
abbrev pub onward : Outcome → Outcome → Outcome
onward (refused k p) next = refused k p
onward (accepted vs) next = next

-- 10: the room is shorter than what is written.
abbrev pub room_test : ℕ → ℕ → List Test
room_test length room = test 10 (ltb room length) ∷ []

-- ---- rooms

-- A room whose first bytes are replaced; beyond them it stays as found.
abbrev pub laid : List ℕ → List ℕ → List ℕ
laid bytes room = bytes ++ drop (length bytes) room

-- A room after a call: written where the call accepts, as found where it refuses.
abbrev pub room_after : Outcome → List ℕ → List ℕ → List ℕ
room_after (accepted vs) bytes room = laid bytes room
room_after (refused k p) bytes room = room

-- ---- promises

-- A room that a call is lent: what the call writes at its beginning where it accepts, and what it held before.
pub record Lent : Type 0 where
  pub bytes : List ℕ
  pub found : List ℕ

abbrev pub lent : List ℕ → List ℕ → Lent
lent bytes found = record { bytes = bytes; found = found }

abbrev pub rooms_after : Outcome → List Lent → List (List ℕ)
rooms_after o [] = []
rooms_after o (l ∷ ls) = room_after o l.bytes l.found ∷ rooms_after o ls

-- What a call promises: it answers with the outcome that is due, and leaves the rooms that it was lent as that outcome has them,
-- every byte and entry.
pub record Promise (answered due : Outcome) (rooms : List Lent) (left : List (List ℕ)) : Type 0 where
  pub answer : answered ≡ due
  pub rooms_after_lem : left ≡ rooms_after due rooms
