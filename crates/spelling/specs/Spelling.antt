-- Words and numbers of a text of the profile, byte by byte (document 02, wish 1): how far a word stands at a place, and the number
-- that does. A place is counted from the text's beginning.
-- Assumes nothing.
use Rattle.std.specs.Prelude.{ℕ, suc, ◌+◌, ◌*◌, ◌-◌, ◌&&◌, List, [], ◌∷◌, eqb, leb, ltb, drop, get_or}
use Rattle.meaning.specs.Pick.{pick}
use Rattle.spelling.specs.declared.Number.{Number}

-- ---- words

-- How many bytes a word and a text have in common at their beginnings.
unfoldable pub common : List ℕ → List ℕ → ℕ
common [] text = 0
common (w ∷ word) [] = 0
common (w ∷ word) (b ∷ text) = pick (eqb b w) (suc (common word text)) 0

-- How many bytes of a word stand in the text from `at` on.
abbrev pub matched : List ℕ → ℕ → List ℕ → ℕ
matched text at word = common word (drop at text)

-- ---- numbers

-- The digit at a place; 10 where none stands there.
abbrev pub digit_of : ℕ → ℕ
digit_of byte = pick (leb 48 byte && leb byte 57) (byte - 48) 10

unfoldable pub digit_at : List ℕ → ℕ → ℕ
digit_at text at = digit_of (get_or text at 0)

abbrev pub number_to : ℕ → ℕ → Number
number_to value end = record { value = value; end = end }

-- The number of the digits at three places, the first of which is `at`: one to three digits without leading zeros; where no digit
-- stands, the number ends where it was looked for.
abbrev pub numeral : ℕ → ℕ → ℕ → ℕ → Number
numeral at first second third =
    pick (eqb first 10) (number_to 0 at)
    (pick (eqb first 0) (number_to 0 (at + 1))
    (pick (eqb second 10) (number_to first (at + 1))
    (pick (eqb third 10) (number_to (first * 10 + second) (at + 2))
    (number_to ((first * 10 + second) * 10 + third) (at + 3)))))

unfoldable pub number_at : List ℕ → ℕ → Number
number_at text at = numeral at (digit_at text at) (digit_at text (at + 1)) (digit_at text (at + 2))

-- ---- what the code has

-- What the code has for a digit is 10 or more where there is none.
abbrev pub clipped : ℕ → ℕ
clipped d = pick (ltb d 10) d 10
