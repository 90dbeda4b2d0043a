-- What a conversion answers, and what it promises of its answer and of every byte that it is lent to write (document 02, "The pocket
-- profile"). What is lent to be read cannot change.
-- Assumes nothing.
use Rattle.std.specs.Prelude.{ℕ, not, List, [], ◌∷◌, length}
use Rattle.meaning.specs.Filter.{Filter}
use Rattle.refusals.specs.Refusals.{Outcome, accepted, Test, test, first_of, onward, room_test, Lent, lent, Promise}
use Rattle.layout.specs.declared.profile.Profile.{Profile}
use Rattle.layout.specs.Layout.{length_of, written}
use Rattle.layout.specs.Contents.{filter_in}
use Rattle.files.specs.Files.{holdable, check_of}
use Rattle.packing.specs.Promise.{Packed, packed_outcome}

-- 16: the other file cannot hold the filter; where that is a pocket file, n is above 16, m above 8 or a colour above 15. 10: the room is
-- shorter than the other file.
abbrev pub convert_tests : Profile → Filter → ℕ → List Test
convert_tests To F room = test 16 (not (holdable To F.colours F.labels)) ∷ room_test (length_of To F) room

-- The file's own refusals, 16, 10; then the length of the other file.
unfoldable pub convert_of : Profile → Profile → List ℕ → ℕ → Outcome
convert_of From To file room =
    onward (check_of From file)
    (first_of (convert_tests To (filter_in From file) room) (accepted (length_of To (filter_in From file) ∷ [])))

-- The other file of the same filter.
abbrev pub converted : Profile → Profile → List ℕ → List ℕ
converted From To file = written To (filter_in From file)

-- What is written: the other file.
abbrev pub convert_lent : Profile → Profile → List ℕ → List ℕ → List Lent
convert_lent From To file room = lent (converted From To file) room ∷ []

-- Accepted: the room begins with the other file, the rest is as found. Refused: the room is as found.
abbrev pub ConvertPromise : Profile → Profile → List ℕ → List ℕ → Packed → List ℕ → Type 0
ConvertPromise From To file room r room' =
    Promise (packed_outcome r) (convert_of From To file (length room)) (convert_lent From To file room) (room' ∷ [])
