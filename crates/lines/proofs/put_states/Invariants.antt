-- `lines::put_states` meets its contract. The invariant: the first states' lines stand in the room from its place on. Assumes nothing.
use mathlib.Core.Path.{◌≡◌}
use Prim.Native.Nat.{◌+◌, ◌*◌, ◌≤◌}
use lib.ListN.{length, take}
use Rattle.text.specs.Decimal.{wrote}
use Rattle.lines.specs.Text.{number_lines}
use Rattle.lines.proofs.put_states.Given as goal

abbrev pub invariant-loop-i : goal.invariant-loop-i
invariant-loop-i l =
    (l.i ≤ length l.numbers) × (l.end ≤ l.at + 42 * l.i) × (length l.room ≡ length l.initial.room) × (l.room ≡ wrote l.initial.room l.at (number_lines 0 (take l.i l.numbers))) × (l.end ≡ l.at + length (number_lines 0 (take l.i l.numbers)))
