use Prim.Native.Nat.{◌<◌}
use native.Mathlib.Omega.{arith}
use mathlib.Core.Path.{refl}
use Rattle.partition.proofs.Laws.{begun_none, begun_more, begun_all}
use Rattle.partition.proofs.initial.Goals as goal
use Rattle.partition.proofs.initial.Goals.{After-from}

pub loop-j-init : goal.loop-j-init
loop-j-init c = λ n r. begun_none _ _ n _ refl

-- the state that is named is one of 256
state-fits : (c : After-from) → c.from.result < 256
state-fits c = omega (arith, c.from.ensures, c.requires.0.below _ c.loop-j-test.true)

pub loop-j-preserved : goal.loop-j-preserved
loop-j-preserved c = λ n r.
    begun_more _ _ n _ _ _ _ (c.loop-j.invariant n r) c.loop-j-test.true (state-fits (goal.at.loop-j-preserved c).After-from) c.from.ensures
    (c.first_like.ensures n r)

pub returns : goal.returns
returns c = λ n few r.
    let begun = c.loop-j.invariant n r in
    record { long = begun.long; names = begun_all _ _ n _ _ begun c.loop-j-test.false few; rounds = refl }
