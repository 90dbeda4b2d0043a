-- A text that a call puts at the beginning of a lent room. Assumes nothing.
use Rattle.std.specs.Prelude.{ℕ, ◌≡◌, List, ltb, length}
use Rattle.io.specs.Counts.{IsPrefixLen}
use Rattle.meaning.specs.Pick.{pick}
use Rattle.text.specs.Decimal.{wrote}

-- The text's length comes back, and behind the text the room is as found. Where the room is too short, 0 comes back, and all of
-- it is as found.
pub record Printed (text room : List ℕ) (r : ℕ) (room' : List ℕ) : Type 0 where
  pub count : r ≡ pick (ltb (length room) (length text)) 0 (length text)
  pub room_after : room' ≡ pick (ltb (length room) (length text)) room (wrote room 0 text)
  -- what came back counts bytes of the room, which follows, so that a caller may take so many of them
  pub within : IsPrefixLen r room'
