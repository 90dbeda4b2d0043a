-- Pocket and large files (document 02, "The pocket profile"): the wish's numbers, what holds of the two conversions, and demand 3 for pocket
-- files by the theorems for any usable profile. Demands 1 and 2 are the contracts of the pocket calls, each with one outcome, and the
-- round trips of `demands`, which are over any usable profile too.
-- Assumes nothing.
use Rattle.std.specs.Prelude.{ℕ, ◌+◌, ◌^◌, ◌≤◌, ◌≡◌, refl, true, ◌&&◌, List, [], ◌∷◌, leb}
use Rattle.std.proofs.Common.{◌∙◌, lit≤, le-leb, le-ltb}
use Rattle.bits.specs.Bits.{Bytes}
use Rattle.meaning.specs.Filter.{states}
use Rattle.meaning.specs.Reduced.{reduce, reduced, distinct}
use Rattle.refusals.specs.Refusals.{Outcome, accepted, refused, first_of, onward, room_test}
use Rattle.layout.specs.Layout.{large, pocket, header_bits, bytes_for, length_of}
use Rattle.layout.specs.Contents.{filter_in}
use Rattle.layout.proofs.Bounds.{large_usable, pocket_usable}
use Rattle.files.specs.Files.{all_below, holdable, check_of}
use Rattle.files.specs.Tests.{check_sound, writable_held}
use Rattle.files.specs.Written.{read_writable, writable_wider}
use Rattle.converting.specs.Promise.{convert_tests, convert_of, converted}
use Rattle.converting.proofs.Calls.{to_large, to_pocket}
use Rattle.demands.specs.Demand3.{reached_states, reduced_file, Traces, Shows, reduced_file-bound, reduced_file_traces}
use Rattle.interchange.specs.Interchange.{converts, there_and_back}

-- ---- the numbers

-- the header needs 3 bytes, which is what 1 tests; 14's limits are 16 states, 8 labels and colours below 16
pub pocket_numbers : (bytes_for (header_bits pocket) ≡ 3) × (2 ^ pocket.states ≡ 16) × (2 ^ pocket.labels ≡ 8) × (2 ^ pocket.colour ≡ 16)
unfolding bytes_for header_bits
pocket_numbers = (refl, refl, refl, refl)

-- 16 of to_pocket is given where this does not hold of an accepted file: n is at most 16, m at most 8 and every colour at most 15
pub pocket-holds : (file vs : List ℕ) → check_of large file ≡ accepted vs → let F = filter_in large file in
    holdable pocket F.colours F.labels ≡ leb (states F) 16 && (leb F.labels 8 && all_below 16 F.colours)
unfolding holdable
pocket-holds file vs accepts =
    let w = read_writable large large_usable file (check_sound large file vs accepts).0 in
    rw (le-leb 1 (states (filter_in large file)) w.states_low, le-leb 1 (filter_in large file).labels w.labels_low)

-- ---- 16 of to_large

-- a large file holds the filter of every pocket file that is accepted
pub large-holds : (file vs : List ℕ) → check_of pocket file ≡ accepted vs →
    holdable large (filter_in pocket file).colours (filter_in pocket file).labels ≡ true
large-holds file vs accepts =
    let F = filter_in pocket file in
    let w = read_writable pocket pocket_usable file (check_sound pocket file vs accepts).0 in
    writable_held large F (writable_wider pocket large F (lit≤ tt) (lit≤ tt) (lit≤ tt) to_large.above w)

-- so to_large is refused for the file itself or for the room, and never with 16
pub never_16 : (file : List ℕ) (room : ℕ) → convert_of pocket large file room
    ≡ onward (check_of pocket file) (first_of (room_test (length_of large (filter_in pocket file)) room) (accepted (length_of large (filter_in pocket file) ∷ [])))
unfolding convert_of
never_16 file room = go (check_of pocket file) refl
  where
    go : (o : Outcome) → check_of pocket file ≡ o → onward o (first_of (convert_tests large (filter_in pocket file) room) (accepted (length_of large (filter_in pocket file) ∷ [])))
        ≡ onward o (first_of (room_test (length_of large (filter_in pocket file)) room) (accepted (length_of large (filter_in pocket file) ∷ [])))
    go (refused k p) e = refl
    go (accepted vs) e = rw (large-holds file vs e)

-- and accepted in every room that holds the large file
pub to_large_accepts : (file vs : List ℕ) (room : ℕ) → check_of pocket file ≡ accepted vs → length_of large (filter_in pocket file) ≤ room →
    convert_of pocket large file room ≡ accepted (length_of large (filter_in pocket file) ∷ [])
to_large_accepts file vs room accepts l = never_16 file room ∙ rw (accepts, le-ltb _ _ l)

-- ---- there and back

-- pocket to large and back is the identity on bytes
pub pocket-large-pocket : (file vs : List ℕ) → Bytes file → check_of pocket file ≡ accepted vs →
    converted large pocket (converted pocket large file) ≡ file
pocket-large-pocket file vs bytes accepts = there_and_back pocket large pocket_usable large_usable to_large.above file vs accepts (large-holds file vs accepts) bytes

-- large to pocket and back too, where it is accepted
pub large-pocket-large : (file : List ℕ) (room n : ℕ) → Bytes file → convert_of large pocket file room ≡ accepted (n ∷ []) →
    converted pocket large (converted large pocket file) ≡ file
large-pocket-large file room n bytes accepts =
    let got = converts large pocket file room n accepts in
    there_and_back large pocket large_usable pocket_usable to_pocket.above file got.checks.0 got.checks.1 got.fits bytes

-- ---- demand 3, of pocket files

-- rounds + distinct colours ≤ reduced states ≤ reached states ≤ original states
pub pocket-bound : (file vs : List ℕ) → Bytes file → check_of pocket file ≡ accepted vs → let F = filter_in pocket file in
    ((reduce F).rounds + distinct F ≤ states (reduced F)) × (states (reduced F) ≤ reached_states pocket file) × (reached_states pocket file ≤ states F)
pocket-bound file vs bytes accepts = reduced_file-bound pocket pocket_usable file bytes vs accepts

-- what a pocket file traces, the pocket file that reduce writes traces too, with the same colours
pub pocket_traces : (file vs : List ℕ) → Bytes file → check_of pocket file ≡ accepted vs → (ys : List ℕ) → Traces pocket file ys →
    Traces pocket (reduced_file pocket file) ys × (Shows pocket (reduced_file pocket file) ys ≡ Shows pocket file ys)
pocket_traces file vs bytes accepts = reduced_file_traces pocket pocket_usable file bytes vs accepts
