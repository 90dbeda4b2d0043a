-- What from_dot and to_dot answer, and what they promise of their answers and of every byte that they are lent to write (document
-- 02, wish 1).
-- Assumes nothing.
use Rattle.std.specs.Prelude.{Result, Ok, Err, ℕ, Bool, true, not, ◌&&◌, List, [], ◌∷◌, eqb, length}
use Rattle.meaning.specs.Filter.{Filter}
use Rattle.refusals.specs.declared.Refusal.{Refusal}
use Rattle.refusals.specs.Refusals.{Outcome, accepted, refused, refusal_outcome, Test, test, first_of, onward, room_test, Lent, lent, Promise}
use Rattle.layout.specs.declared.profile.Profile.{Profile}
use Rattle.layout.specs.Layout.{written}
use Rattle.layout.specs.Contents.{filter_in}
use Rattle.files.specs.Files.{check_of, write_of}
use Rattle.drawing.specs.Profile.{labels_of, filter_of}
use Rattle.drawing.specs.Reader.{Read, drawing, outside, read_of}
use Rattle.plotting.specs.Plot.{text_of}

-- the length
abbrev pub Made : Type 0
Made = Result ℕ Refusal

abbrev pub made_outcome : Made → Outcome
made_outcome (Ok n) = accepted (n ∷ [])
made_outcome (Err r) = refusal_outcome r

-- ---- a text becomes a file

-- 15 for text outside the profile; else what pack answers for the filter: 14, 2, 3, the edges, 17, 10.
abbrev pub file_outcome : Profile → Read → ℕ → Outcome
file_outcome P (drawing colours edges) room = write_of P (filter_of colours edges) true room
file_outcome P (outside place) room = refused 15 place

unfoldable pub from_dot_of : Profile → List ℕ → ℕ → Outcome
from_dot_of P text room = file_outcome P (read_of text) room

-- What is written: the file of the filter.
abbrev pub file_of : Profile → Read → List ℕ
file_of P (drawing colours edges) = written P (filter_of colours edges)
file_of P (outside place) = []

abbrev pub from_dot_lent : Profile → List ℕ → List ℕ → List Lent
from_dot_lent P text room = lent (file_of P (read_of text)) room ∷ []

-- Accepted: the room begins with the file, the rest is as found. Refused: the room is as found.
abbrev pub FromDotPromise : Profile → List ℕ → List ℕ → Made → List ℕ → Type 0
FromDotPromise P text room r room' =
    Promise (made_outcome r) (from_dot_of P text (length room)) (from_dot_lent P text room) (room' ∷ [])

-- ---- a file becomes a text

-- The start is state 0, and m is the largest label plus one, or 1 without edges.
unfoldable pub drawable : Filter → Bool
drawable F = eqb F.start 0 && eqb F.labels (labels_of F.edges)

-- 15 for a filter that can't be written, 10
abbrev pub draw_tests : Profile → List ℕ → ℕ → List Test
draw_tests P file room = test 15 (not (drawable (filter_in P file))) ∷ room_test (length (text_of P file)) room

-- The file's own refusals, 15, 10.
unfoldable pub to_dot_of : Profile → List ℕ → ℕ → Outcome
to_dot_of P file room = onward (check_of P file) (first_of (draw_tests P file room) (accepted (length (text_of P file) ∷ [])))

abbrev pub to_dot_lent : Profile → List ℕ → List ℕ → List Lent
to_dot_lent P file room = lent (text_of P file) room ∷ []

abbrev pub ToDotPromise : Profile → List ℕ → List ℕ → Made → List ℕ → Type 0
ToDotPromise P file room r room' =
    Promise (made_outcome r) (to_dot_of P file (length room)) (to_dot_lent P file room) (room' ∷ [])
