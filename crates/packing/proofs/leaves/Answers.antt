-- `packing::leaves` meets its contract. Assumes nothing.
use borrow.Author.Tests.{eq-eqb, ne_eqb}
use Rattle.meaning.specs.Fault.{leaves}
use Rattle.packing.proofs.leaves.Goals as goal

pub returns-in_default : goal.returns-in_default
unfolding leaves
returns-in_default c = rw c.in_default.is

pub returns-then-from-colour : goal.returns-then-from-colour
unfolding leaves
returns-then-from-colour c =
    rw (c.in-Some.is, ← c.from.ensures, ne_eqb _ _ c.if-from-colour.true)

pub returns : goal.returns
unfolding leaves
returns c =
    rw (c.in-Some.is, ← c.from.ensures, eq-eqb _ _ c.if-from-colour.false, ← c.from-2.ensures)
