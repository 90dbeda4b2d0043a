use mathlib.Core.Path.{refl}
use native.Mathlib.Omega.{arith}
use Rattle.bits.specs.Bits.{splice}
use lib.Pow.{pow_pos}
use Rattle.bits.proofs.Writing.{Spliced, in_64}
use Rattle.bits.proofs.spliced.Goals as goal
use Rattle.bits.proofs.spliced.Goals.{Start}

parts : (c : Start) → Spliced c.args.width c.args.k c.args.value c.args.x
parts c = in_64 _ _ _ _ c.requires.0 c.requires.1 c.requires.2

pub overflow_add-result : goal.overflow_add-result
overflow_add-result c = rw (parts c).high (omega (arith, (parts c).sum))

pub nonzero_rem-result : goal.nonzero_rem-result
nonzero_rem-result c = rw (parts c).mask (pow_pos c.args.k)

pub overflow_add-result-2 : goal.overflow_add-result-2
overflow_add-result-2 c = rw ((parts c).high, (parts c).shifted, (parts c).mask) (omega (arith, (parts c).whole))

pub returns : goal.returns
unfolding splice
returns c = rw ((parts c).high, (parts c).shifted, (parts c).mask) (refl, (parts c).whole)
