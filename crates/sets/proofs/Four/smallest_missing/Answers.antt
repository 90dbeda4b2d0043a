use Rattle.std.proofs.Common.{◌≡◌, length, arith, rules}
use Rattle.sets.proofs.FourLaws.{full_more, missing_here, missing_behind}
use Rattle.sets.proofs.Four.smallest_missing.Goals as goal

pub returns-then-free-gt0 : goal.returns-then-free-gt0
returns-then-free-gt0 c =
    let low = c.lowest.ensures.0 in
    (omega (arith, low), missing_here _ c.loop-w.w _ c.loop-w.invariant c.others-free.ensures _ low c.lowest.ensures.1)

pub loop-w-preserved : goal.loop-w-preserved
loop-w-preserved c = full_more _ c.loop-w.w _ c.loop-w.invariant c.others-free.ensures (omega arith)

pub returns : goal.returns
returns c =
    let long : length c.args.self.words ≡ 4 = search rules in
    let all : c.loop-w.w ≡ 4 = omega arith in
    (omega arith, missing_behind _ long (rw all at c.loop-w.invariant))
