-- `observed::first_outside` meets its contract. Assumes nothing.
use mathlib.Core.Path.{sym}
use native.Mathlib.Omega.{arith}
use Rattle.observed.proofs.Laws.{largest-inside}
use Rattle.observed.proofs.first_outside.Goals as goal

pub returns-then-from-m : goal.returns-then-from-m
returns-then-from-m c = sym (largest-inside _ _ (omega (arith, c.from.ensures, c.largest.ensures)))
