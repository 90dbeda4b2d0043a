-- `packing::holdable` meets its contract. Assumes nothing.
use native.Mathlib.Omega.{arith}
use borrow.Author.Tests.{le-leb, lt-leb}
use Rattle.bits.proofs.Reading.{one_shl}
use Rattle.files.specs.Files.{holdable}
use Rattle.packing.proofs.holdable.Goals as goal

pub returns-then-n-lt1 : goal.returns-then-n-lt1
unfolding holdable
returns-then-n-lt1 c = rw (lt-leb _ _ c.if-n-lt1.true)

-- a shifted 1 is the power of two
pub returns-then-p-n : goal.returns-then-p-n
unfolding holdable
returns-then-p-n c =
    rw (le-leb _ _ c.if-n-lt1.false, lt-leb _ _ (rw (one_shl c.args.p.states (omega (arith, c.args.p.usable.states≤))) at c.if-p-n.true))

pub returns-then-m-lt1 : goal.returns-then-m-lt1
unfolding holdable
returns-then-m-lt1 c =
    rw (le-leb _ _ c.if-n-lt1.false, le-leb _ _ (rw (one_shl c.args.p.states (omega (arith, c.args.p.usable.states≤))) at c.if-p-n.false), lt-leb _ _ c.if-m-lt1.true)

pub returns-then-p-m : goal.returns-then-p-m
unfolding holdable
returns-then-p-m c =
    rw (le-leb _ _ c.if-n-lt1.false, le-leb _ _ (rw (one_shl c.args.p.states (omega (arith, c.args.p.usable.states≤))) at c.if-p-n.false), le-leb _ _ c.if-m-lt1.false, lt-leb _ _ (rw (one_shl c.args.p.labels (omega (arith, c.args.p.usable.labels≤))) at c.if-p-m.true))

pub returns : goal.returns
unfolding holdable
returns c =
    rw (
      le-leb _ _ c.if-n-lt1.false,
      le-leb _ _ (rw (one_shl c.args.p.states (omega (arith, c.args.p.usable.states≤))) at c.if-p-n.false),
      le-leb _ _ c.if-m-lt1.false,
      le-leb _ _ (rw (one_shl c.args.p.labels (omega (arith, c.args.p.usable.labels≤))) at c.if-p-m.false),
      c.all_below.ensures,
      one_shl c.args.p.colour (omega (arith, c.args.p.usable.colour≤)),
    )
