-- `shown::put_lines` meets its contract. The invariant: the first numbers' lines stand at the room's beginning. Assumes nothing.
use mathlib.Core.Path.{◌≡◌}
use Prim.Native.Nat.{◌+◌, ◌*◌, ◌≤◌}
use lib.ListN.{length, take}
use Rattle.text.specs.Decimal.{wrote}
use Rattle.shown.specs.Text.{number_lines}
use Rattle.shown.proofs.put_lines.Given as goal

abbrev pub invariant-loop-number : goal.invariant-loop-number
invariant-loop-number l =
    (l.number-index ≤ length l.numbers) × (l.at ≤ 4 * l.number-index) × (length l.room ≡ length l.initial.room) × (l.room ≡ wrote l.initial.room 0 (number_lines (take l.number-index l.numbers))) × (l.at ≡ 0 + length (number_lines (take l.number-index l.numbers)))
