-- One field of bits in a list of bytes, most significant bit first.
-- Assumes nothing.
use Rattle.std.specs.Prelude.{ℕ, zero, suc, ◌+◌, ◌*◌, ◌-◌, ◌/◌, ◌%◌, ◌^◌, ◌<◌, List, get_or, set}

-- each entry is a byte
abbrev pub Bytes : List ℕ → Type 0
Bytes s = (i : ℕ) → get_or s i 0 < 256

-- bit k of the list: 0 or 1; 0 past the end
unfoldable pub bit_at : List ℕ → ℕ → ℕ
bit_at s k = get_or s (k / 8) 0 / 2 ^ (7 - k % 8) % 2

-- the number that the w bits from `at` on write
unfoldable pub field : List ℕ → ℕ → ℕ → ℕ
field s at zero = 0
field s at (suc w) = field s at w * 2 + bit_at s (at + w)

-- x with the w bits above its lowest k bits replaced by v
unfoldable pub splice : ℕ → ℕ → ℕ → ℕ → ℕ
splice w k v x = (x / 2 ^ (w + k) * 2 ^ w + v) * 2 ^ k + x % 2 ^ k

-- the list with bit k replaced by c; the list itself if k is past the end
unfoldable pub put_bit : List ℕ → ℕ → ℕ → List ℕ
put_bit s k c = set s (k / 8) (splice 1 (7 - k % 8) c (get_or s (k / 8) 0))

-- the list with the w bits from `at` on replaced by those of v
unfoldable pub put_field : List ℕ → ℕ → ℕ → ℕ → List ℕ
put_field s at zero v = s
put_field s at (suc w) v = put_bit (put_field s at w (v / 2)) (at + w) (v % 2)
