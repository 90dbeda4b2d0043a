-- `plotting::put_states` meets its contract. The invariant: the first states' statements stand in the room from its place on. Assumes nothing.
use Rattle.std.proofs.Common.{◌≡◌, ◌+◌, length, take}
use Rattle.text.specs.Decimal.{wrote}
use Rattle.drawing.specs.Profile.{state_lines}
use Rattle.plotting.proofs.put_states.Given as goal

abbrev pub invariant-loop-i : goal.invariant-loop-i
invariant-loop-i l = record {
  room : l.room ≡ wrote l.initial.room l.begin (state_lines 0 (take l.i l.colours));
  at : l.at ≡ l.begin + length (state_lines 0 (take l.i l.colours));
}
