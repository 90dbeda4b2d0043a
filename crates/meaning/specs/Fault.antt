-- A fault stays a fault (document 02, wish 6): one colour shuts the drive down, and no edge may leave it. Which one it is, or that
-- there is none, is said by the profile of the file.
-- Assumes nothing.
use Rattle.std.specs.Prelude.{ℕ, Bool, false, not, ◌&&◌, eqb}
use Rattle.std.proofs.Math.Option.{Option, none, some}
use Rattle.meaning.specs.Filter.{Edge, Filter, each}
use Rattle.meaning.specs.Trace.{colour}

-- The edge leads from a state of the fault colour to a state of another colour. `hue` is the colour of a state.
unfoldable pub leaves : Option ℕ → (ℕ → ℕ) → Edge → Bool
leaves none hue e = false
leaves (some fault) hue e = eqb (hue e.source) fault && not (eqb (hue e.target) fault)

abbrev pub stays : Option ℕ → (ℕ → ℕ) → Edge → Bool
stays fault hue e = not (leaves fault hue e)

-- No edge of the filter leaves the fault colour.
unfoldable pub fault_stays : Option ℕ → Filter → Bool
fault_stays fault F = each (stays fault (colour F)) F.edges
