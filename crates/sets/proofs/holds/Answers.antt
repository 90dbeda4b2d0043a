-- `sets::holds` meets its contract. Assumes nothing.
use mathlib.Core.Path.{refl}
use Rattle.sets.specs.Sets.{holds}
use Rattle.sets.proofs.holds.Goals as goal

pub returns : goal.returns
unfolding holds
returns c = refl
