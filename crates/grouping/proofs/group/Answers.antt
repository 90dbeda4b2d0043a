use Prim.Native.Nat.{◌≤◌, ◌+◌}
use native.Mathlib.Omega.{arith}
use mathlib.Core.Path.{◌≡◌}
use Rattle.conflicts.specs.Conflicts.{clash}
use Rattle.members.proofs.Laws.{Hop, at_head, hop}
use Rattle.grouping.proofs.Laws.{grouped_none, grouped_more, grouped_skip, grouped_le, group_of, group_marked, group_is_low}
use Rattle.grouping.proofs.group.Goals as goal
use Rattle.grouping.proofs.group.Goals.{After-smallest_missing, After-from-s}

pub loop-s-init : goal.loop-s-init
loop-s-init c =
    let head = c.requires.0 in
    let low : c.args.c ≤ 256 = omega (arith, head.inside, c.args.classes.searched.few) in
    let none = grouped_none _ _ _ _ c.requires.1 in
    (at_head _ _ _ head, grouped_skip _ _ _ _ 0 _ none (omega arith) low (λ x h l. head.before x l))

-- the smallest group without a mark is the group of s
chosen : (c : After-smallest_missing)
    → let a = c.args in
    c.smallest_missing.result
    ≡ group_of (clash a.classes.rows.now a.classes.names.now) a.classes.names.now a.c c.loop-s.into c.loop-s.s
chosen c =
    let s = c.loop-s.s in
    let here = c.loop-s-test.true in
    let few = c.args.classes.searched.few in
    group_marked _ _ _ _ s _ _ (omega (arith, here, few)) (c.loop-s.invariant.0.member here) (grouped_le _ _ _ _ s c.loop-s.invariant.1)
    c.mark-marks.ensures c.smallest_missing.ensures.1

pub overflow_cast-into : goal.overflow_cast-into
overflow_cast-into c =
    let here = c.loop-s-test.true in
    record { fits = omega (arith, group_is_low _ _ _ _ _ _ (chosen c), here, c.args.classes.searched.few) }

step : (c : After-from-s)
    → let a = c.args in
    Hop a.classes.names.now a.classes.n a.c c.loop-s.s c.from-s.result
step c =
    let here = c.loop-s-test.true in
    hop _ _ _ c.args.classes.searched.linked _ _ _ c.loop-s.invariant.0 here c.from-s.ensures

pub loop-s-preserved : goal.loop-s-preserved
loop-s-preserved c =
    let next = step c in
    let s = c.loop-s.s in
    let here = c.loop-s-test.true in
    let more = grouped_more _ _ _ _ s _ c.loop-s.invariant.1 (omega arith) (chosen (goal.at.loop-s-preserved c).After-smallest_missing) in
    let within : c.from-s.result ≤ 256 = omega (arith, next.stands.inside) in
    (next.stands, grouped_skip _ _ _ _ (s + 1) _ more (omega (arith, next.after)) within (λ x h l. next.gap x (omega arith) l))
