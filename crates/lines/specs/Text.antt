-- The text that `reduce` prints, and the refusal line of every program (document 01, "Three programs"; document 02, "States nobody can
-- reach"): fields spaced by one
-- space, decimal numbers, each line ended by one newline byte. Bytes are ASCII.
-- Assumes nothing.
use Rattle.std.specs.Prelude.{ℕ, suc, List, [], ◌∷◌, ◌++◌, eqb}
use Rattle.meaning.specs.Pick.{pick}
use Rattle.refusals.specs.Refusals.{Outcome, accepted, refused}
use Rattle.text.specs.Decimal.{decimal}

abbrev pub space : List ℕ
space = 32 ∷ []

abbrev pub newline : List ℕ
newline = 10 ∷ []

-- "-"
abbrev pub dash : List ℕ
dash = 45 ∷ []

-- "refused "
abbrev pub refused_word : List ℕ
refused_word = 114 ∷ 101 ∷ 102 ∷ 117 ∷ 115 ∷ 101 ∷ 100 ∷ 32 ∷ []

-- A number spaced from the next by one space.
abbrev pub spaced : ℕ → List ℕ
spaced n = decimal n ++ space

-- A number at the end of its line.
abbrev pub ended : ℕ → List ℕ
ended n = decimal n ++ newline

-- Two numbers on one line.
unfoldable pub pair_line : ℕ → ℕ → List ℕ
pair_line a b = spaced a ++ ended b

-- Four numbers on one line.
unfoldable pub four_line : ℕ → ℕ → ℕ → ℕ → List ℕ
four_line a b c d = spaced a ++ (spaced b ++ (spaced c ++ ended d))

-- `refused`, the number and the place on one line.
unfoldable pub refusal_line : ℕ → ℕ → List ℕ
refusal_line number place = refused_word ++ pair_line number place

-- What a program prints: the refusal line of a refusal, else its text.
abbrev pub or_refusal : Outcome → List ℕ → List ℕ
or_refusal (accepted vs) text = text
or_refusal (refused number place) text = refusal_line number place

-- A state's number and its new number on one line; `-` for the new number of a dropped state, which the class list has as 65,535.
unfoldable pub number_line : ℕ → ℕ → List ℕ
number_line s k = pick (eqb k 65535) (spaced s ++ (dash ++ newline)) (pair_line s k)

-- For each state from s on its line; the list has the new numbers.
unfoldable pub number_lines : ℕ → List ℕ → List ℕ
number_lines s [] = []
number_lines s (k ∷ ks) = number_line s k ++ number_lines (suc s) ks

-- What `reduce` prints: original states, reduced states, distinct colours and rounds on one line, then each state's line.
unfoldable pub reduced_text : ℕ → ℕ → ℕ → ℕ → List ℕ → List ℕ
reduced_text n states colours rounds numbers = four_line n states colours rounds ++ number_lines 0 numbers
