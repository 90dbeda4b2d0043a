-- Numbers of one to three digits, glyph by glyph, and the lengths of statements.
-- Assumes nothing.
use mathlib.Core.Path.{◌≡◌, refl, ap, ◌∙◌}
use mathlib.Core.List.{List, [], ◌∷◌, ◌++◌, append_assoc}
use Prim.Native.Nat.{ℕ, ◌+◌, ◌/◌, ◌%◌, ◌≤◌, ◌<◌}
use native.Mathlib.Omega.{arith}
use borrow.Author.Tests.{lt-ltb, le-ltb}
use lib.ListN.{length, length-append}
use lib.Seq.{sets, sets-eq}
use Rattle.meaning.specs.Filter.{Edge}
use Rattle.text.specs.Decimal.{digits_of, decimal, wrote}
use Rattle.drawing.specs.Profile.{arrow, label_word, line_end, labelled, state_line, edge_line}

pub decimal_one : (n : ℕ) → n < 10 → decimal n ≡ (48 + n) ∷ []
unfolding decimal digits_of
decimal_one n h = rw (lt-ltb n 10 h)

pub decimal_two : (n : ℕ) → 10 ≤ n → n < 100 → decimal n ≡ (48 + n / 10) ∷ (48 + n % 10) ∷ []
unfolding decimal digits_of
decimal_two n l h = rw (le-ltb n 10 l, lt-ltb (n / 10) 10 (omega arith))

pub decimal_three : (n : ℕ) → 100 ≤ n → n < 1000 → decimal n ≡ (48 + n / 100) ∷ (48 + n / 10 % 10) ∷ (48 + n % 10) ∷ []
unfolding decimal digits_of
decimal_three n l h =
    let hundreds : n / 10 / 10 ≡ n / 100 = omega arith in
    rw (le-ltb n 10 (omega arith), le-ltb (n / 10) 10 (omega arith), lt-ltb (n / 10 / 10) 10 (omega arith), hundreds)

-- ---- lengths

pub state_length_is : (s c : ℕ) → length (state_line s c) ≡ length (decimal s) + (8 + (length (decimal c) + 3))
unfolding state_line
state_length_is s c =
    omega (arith, length-append (decimal s) (labelled c), length-append label_word (decimal c ++ line_end), length-append (decimal c) line_end)

pub edge-length_is : (e : Edge) → length (edge_line e) ≡ length (decimal e.source) + (4 + (length (decimal e.target) + (8 + (length (decimal e.label) + 3))))
unfolding edge_line
edge-length_is e =
    omega (
      arith,
      length-append (decimal e.source) (arrow ++ (decimal e.target ++ labelled e.label)),
      length-append arrow (decimal e.target ++ labelled e.label),
      length-append (decimal e.target) (labelled e.label),
      length-append label_word (decimal e.label ++ line_end),
      length-append (decimal e.label) line_end,
    )

-- ---- pieces

-- what stores digit by digit leave is the number written
pub stored : (room : List ℕ) (at n : ℕ) (ds : List ℕ) → decimal n ≡ ds → at + length ds ≤ length room →
    (sets room at ds ≡ wrote room at (decimal n)) × (at + length ds ≡ at + length (decimal n))
stored room at n ds e h = rw e (sets-eq ds room at h, refl)

-- a word of three bytes or more keeps room for a number
pub room_for : (at n k : ℕ) (word : List ℕ) → 3 ≤ length word → at + length (decimal n ++ word) ≤ k → (at + 3 ≤ k) × (at + length (decimal n) + length word ≤ k)
room_for at n k word l h =
    let e = length-append (decimal n) word in
    (omega (arith, e), omega (arith, e))

-- a statement is its numbers, each with the word behind it
pub state_pieces : (s c : ℕ) → (decimal s ++ label_word) ++ (decimal c ++ line_end) ≡ state_line s c
unfolding state_line
state_pieces s c = append_assoc (decimal s) label_word (decimal c ++ line_end)

pub edge_pieces : (e : Edge) → ((decimal e.source ++ arrow) ++ (decimal e.target ++ label_word)) ++ (decimal e.label ++ line_end) ≡ edge_line e
unfolding edge_line
edge_pieces e =
    let source = decimal e.source in
    let target = decimal e.target in
    let label = decimal e.label ++ line_end in
    append_assoc (source ++ arrow) (target ++ label_word) label
    ∙ append_assoc source arrow ((target ++ label_word) ++ label)
    ∙ ap (λ (l : List ℕ). source ++ (arrow ++ l)) (append_assoc target label_word label)

-- there is room for each piece where there is for the statement
pub state_rooms : (at s c k : ℕ) → at + length (state_line s c) ≤ k →
    (at + length (decimal s ++ label_word) ≤ k) × (at + length (decimal s ++ label_word) + length (decimal c ++ line_end) ≤ k)
state_rooms at s c k h =
    let e = ap length (state_pieces s c) in
    let l = length-append (decimal s ++ label_word) (decimal c ++ line_end) in
    (omega (arith, e, l), omega (arith, e, l))

pub edge-rooms : (at : ℕ) (e : Edge) (k : ℕ) → at + length (edge_line e) ≤ k →
    let first = length (decimal e.source ++ arrow) in
    let second = length (decimal e.target ++ label_word) in
    (at + first ≤ k) × (at + first + second ≤ k) × (at + first + second + length (decimal e.label ++ line_end) ≤ k)
edge-rooms at e k h =
    let whole = ap length (edge_pieces e) in
    let l = length-append ((decimal e.source ++ arrow) ++ (decimal e.target ++ label_word)) (decimal e.label ++ line_end) in
    let m = length-append (decimal e.source ++ arrow) (decimal e.target ++ label_word) in
    (omega (arith, whole, l, m), omega (arith, whole, l, m), omega (arith, whole, l, m))
