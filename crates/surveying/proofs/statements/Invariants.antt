-- `surveying::statements` meets its contract. The invariant: the survey is that of the statements so far, their states are marked, their
-- edges are tested, and what follows decides how the text is read. Assumes nothing.
use Prim.Native.Nat.{◌-◌}
use lib.ListN.{length}
use Rattle.layout.specs.Layout.{colour_of}
use Rattle.surveying.proofs.Steps.{SoFar}
use Rattle.surveying.proofs.statements.Given as goal

abbrev pub invariant-loop-colour : goal.invariant-loop-colour
invariant-loop-colour l = SoFar (colour_of l.fault) l.text l.at l.s l.marks l.testing

abbrev pub decreases-loop-colour : goal.decreases-loop-colour
decreases-loop-colour l = length l.text - l.at
