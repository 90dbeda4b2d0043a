-- `plotting::states_length` meets its contract. The invariant: the length is that of the first states' statements. Assumes nothing.
use Rattle.std.proofs.Common.{◌≡◌, ◌*◌, ◌≤◌, length, take}
use Rattle.drawing.specs.Profile.{state_lines}
use Rattle.plotting.proofs.states_length.Given as goal

abbrev pub invariant-loop-i : goal.invariant-loop-i
invariant-loop-i l = (l.length ≡ length (state_lines 0 (take l.i l.colours))) × (l.length ≤ 17 * l.i)
