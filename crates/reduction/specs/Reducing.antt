-- What reducing answers (document 01, "Reducing", "Numbers of refusal").
-- Assumes nothing.
use Rattle.std.specs.Prelude.{ℕ, List, [], ◌∷◌, ltb, length}
use Rattle.layout.specs.declared.profile.Profile.{Profile}
use Rattle.layout.specs.Contents.{states_in, filter_in}
use Rattle.refusals.specs.Refusals.{Outcome, accepted, Test, test, first_of, onward}
use Rattle.files.specs.Files.{check_of}
use Rattle.folding.specs.Folding.{Rooms, counts_of}

-- 10: the answer room is shorter than the filter file. 11: the class list has fewer than n entries.
abbrev pub reduce_tests : Profile → List ℕ → Rooms → List Test
reduce_tests P file room =
    test 10 (ltb (length room.answer) (length file)) ∷ test 11 (ltb (length room.classes) (states_in P file)) ∷ []

-- The file's own refusals, 10, 11; then the counts of its reduced filter.
unfoldable pub reduce_of : Profile → List ℕ → Rooms → Outcome
reduce_of P file room =
    onward (check_of P file) (first_of (reduce_tests P file room) (accepted (counts_of P (filter_in P file))))
