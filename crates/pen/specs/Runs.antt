-- Fields one behind another in a list of bytes, and the pen that writes them.
-- Assumes nothing.
use Rattle.std.specs.Prelude.{ℕ, ◌+◌, ◌*◌, ◌^◌, ◌≤◌, ◌<◌, ◌≡◌, List, [], ◌∷◌, length, get_or}
use Rattle.bits.specs.Bits.{field, put_field}
use Rattle.pen.specs.declared.Pen.{Pen}

-- the bits that fields of these widths take together
unfoldable pub total : List ℕ → ℕ
total [] = 0
total (w ∷ ws) = w + total ws

-- the values of the fields of these widths, one after another from `at` on
unfoldable pub fields : List ℕ → ℕ → List ℕ → List ℕ
fields s at [] = []
fields s at (w ∷ ws) = field s at w ∷ fields s (at + w) ws

-- the list with the fields of these widths, one after another from `at` on, replaced by these values
unfoldable pub put_fields : List ℕ → ℕ → List ℕ → List ℕ → List ℕ
put_fields s at [] vs = s
put_fields s at (w ∷ ws) [] = s
put_fields s at (w ∷ ws) (v ∷ vs) = put_fields (put_field s at w v) (at + w) ws vs

-- there is a value for each width, and each fits its width
unfoldable pub Fit : List ℕ → List ℕ → Type 0
Fit [] [] = Unit {0}
Fit [] (v ∷ vs) = ⊥
Fit (w ∷ ws) [] = ⊥
Fit (w ∷ ws) (v ∷ vs) = (v < 2 ^ w) × Fit ws vs

-- what is asked for reading n fields of `width` bits each from bit `at` on into a list
pub record Readable (at width n : ℕ) (out : List ℕ) : Type 0 where
  pub narrow : width ≤ 8
  pub room : n ≤ length out
  pub near : at + n * width < 2 ^ 64

-- what is asked for writing the values as fields of `width` bits each from bit `at` on
pub record Writable (at width : ℕ) (values : List ℕ) : Type 0 where
  pub narrow : width ≤ 8
  pub near : at + length values * width < 2 ^ 64
  pub small : (i : ℕ) → get_or values i 0 < 2 ^ width

-- the list once the bits that a pen holds are stored
unfoldable pub inked : List ℕ → Pen → List ℕ
inked s pen = put_field s (pen.at * 8) pen.bits pen.held

-- the bit behind those that a pen holds, where the next field begins
abbrev pub place_of : Pen → ℕ
place_of pen = pen.at * 8 + pen.bits

-- a pen that can go on: what it holds is fewer bits than are stored at once, and the next bit has a number
pub record Ready (pen : Pen) : Type 0 where
  pub few : pen.bits < 32
  pub fit : pen.held < 2 ^ pen.bits
  pub near : place_of pen < 2 ^ 64

-- a value that a pen can take as its next field
pub record Pushable (pen : Pen) (width value : ℕ) : Type 0 where
  pub ready : Ready pen
  pub narrow : width ≤ 24
  pub small : value < 2 ^ width
  pub near : place_of pen + width < 2 ^ 64

-- s₀ with these fields written from bit `at` on is what s and the pen hold together, and the pen can go on behind them
pub record Drawn (s₀ : List ℕ) (at : ℕ) (ws vs s : List ℕ) (pen : Pen) : Type 0 where
  pub ink : inked s pen ≡ put_fields s₀ at ws vs
  pub place : place_of pen ≡ at + total ws
  pub fit : Fit ws vs
  pub ready : Ready pen
