-- Numbers as text (document 01, "Three programs"): decimal, in ASCII bytes; and a text that stands in a room.
-- Assumes nothing.
use Rattle.std.specs.Prelude.{ℕ, zero, suc, ◌+◌, ◌/◌, ◌%◌, List, [], ◌∷◌, ◌++◌, ltb, length, take, drop}
use Rattle.meaning.specs.Pick.{pick}

-- A number of at most k digits, without leading zeros.
unfoldable pub digits_of : ℕ → ℕ → List ℕ
digits_of zero n = []
digits_of (suc k) n = pick (ltb n 10) ((48 + n) ∷ []) (digits_of k (n / 10) ++ ((48 + n % 10) ∷ []))

-- A number of 64 bits has at most 20 digits.
unfoldable pub decimal : ℕ → List ℕ
decimal n = digits_of 20 n

-- A text written into a room from a place on: what stands before and behind it stays.
abbrev pub wrote : List ℕ → ℕ → List ℕ → List ℕ
wrote room at text = take at room ++ text ++ drop (at + length text) room
