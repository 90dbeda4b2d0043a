-- What a file, and a filter that is to be written as one, are refused for: each test in its order, the first that holds decides
-- (document 01, "Numbers of refusal"). Document 01 speaks of the profile `large`, document 02 adds `pocket` and 17.
-- Assumes nothing.
use Rattle.std.specs.Prelude.{ℕ, ◌*◌, ◌^◌, Bool, true, not, ◌&&◌, List, [], ◌∷◌, eqb, leb, ltb, length}
use Rattle.std.proofs.Math.Option.{none}
use Rattle.meaning.specs.Filter.{Filter, states}
use Rattle.refusals.specs.Refusals.{Outcome, accepted, Test, test, first_of, room_test}
use Rattle.layout.specs.declared.profile.Profile.{Profile}
use Rattle.layout.specs.declared.Reading.{Reading}
use Rattle.layout.specs.Layout.{fault_colour, header_bits, bytes_for, length_of}
use Rattle.layout.specs.Contents.{states_in, labels_in, start_in, count_in, colours_in, placed_in, length_in, filling_in}
use Rattle.edges.specs.Faults.{listed_from, first_fault, first_leaving, edges_then}

-- ---- a file

-- 1, 2, 3, 4, 5, 6
unfoldable pub file_tests : Profile → List ℕ → List Test
file_tests P file =
    test 1 (ltb (length file) (bytes_for (header_bits P)))
    ∷ test 2 (leb (states_in P file) (start_in P file))
    ∷ test 3 (ltb (states_in P file * labels_in P file) (count_in P file))
    ∷ test 4 (ltb (length file) (length_in P file))
    ∷ test 5 (ltb (length_in P file) (length file))
    ∷ test 6 (not (eqb (filling_in P file) 0))
    ∷ []

-- what checking answers
abbrev pub numbers_in : Profile → List ℕ → List ℕ
numbers_in P file = states_in P file ∷ labels_in P file ∷ start_in P file ∷ count_in P file ∷ []

-- n, m, start and e
abbrev pub reading_outcome : Reading → Outcome
reading_outcome r = accepted (r.states ∷ r.labels ∷ r.start ∷ r.edges ∷ [])

-- What is answered before the edges are looked at.
unfoldable pub head_of : Profile → List ℕ → Outcome
head_of P file = first_of (file_tests P file) (accepted (numbers_in P file))

-- 17, when every edge has passed 7, 8 and 9
abbrev pub from_leaving : Profile → List ℕ → Outcome
from_leaving P file =
    edges_then (first_leaving (fault_colour P) (colours_in P file) (placed_in P file))
    (accepted (numbers_in P file))

-- 7, 8 and 9 of the edges, then 17
abbrev pub from_edges : Profile → List ℕ → Outcome
from_edges P file =
    edges_then (first_fault (states_in P file) (labels_in P file) none (placed_in P file))
    (from_leaving P file)

unfoldable pub check_of : Profile → List ℕ → Outcome
check_of P file = first_of (file_tests P file) (from_edges P file)

-- ---- a filter that is to be written

abbrev pub within : ℕ → ℕ → ℕ → Bool
within low high x = leb low x && leb x high

unfoldable pub all_below : ℕ → List ℕ → Bool
all_below limit [] = true
all_below limit (x ∷ xs) = ltb x limit && all_below limit xs

-- The widths can hold so many states, m labels and each colour: 1 to 256, 1 to 64 and at most 63 in the large file, 1 to 16,
-- 1 to 8 and at most 15 in the pocket file.
unfoldable pub holdable : Profile → List ℕ → ℕ → Bool
holdable P colours m =
    within 1 (2 ^ P.states) (length colours) && (within 1 (2 ^ P.labels) m && all_below (2 ^ P.colour) colours)

-- 14, 2 and 3 of writing a filter; `whole`: the edge list's length is a multiple of 3.
unfoldable pub write_tests : Profile → Filter → Bool → List Test
write_tests P F whole =
    test 14 (not (holdable P F.colours F.labels && whole))
    ∷ test 2 (leb (states F) F.start)
    ∷ test 3 (ltb (states F * F.labels) (length F.edges))
    ∷ []

-- 14, 2, 3, the edges, 17, 10
unfoldable pub write_of : Profile → Filter → Bool → ℕ → Outcome
write_of P F whole room =
    first_of (write_tests P F whole)
    (edges_then (first_fault (states F) F.labels none (listed_from 0 F.edges))
    (edges_then (first_leaving (fault_colour P) F.colours (listed_from 0 F.edges))
    (first_of (room_test (length_of P F) room) (accepted (length_of P F ∷ [])))))
