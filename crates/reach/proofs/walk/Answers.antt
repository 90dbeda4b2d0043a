use native.Mathlib.Omega.{arith}
use Rattle.table.specs.Table.{look}
use Rattle.reach.proofs.Laws.{queue_none, walk_first, next_state, walk_more, walk_full, walk-all}
use Rattle.reach.proofs.walk.Goals as goal

pub meet-met-requires : goal.meet-met-requires
meet-met-requires c =
    let pre = c.requires in
    (queue_none _ _ pre.codes_long pre.fresh, omega (arith, pre.begins, pre.few))

pub loop-i-init : goal.loop-i-init
loop-i-init c =
    let a = c.args in
    rw (← walk_first (look a.rows.now) 64 a.start a.codes.now) c.meet-met.ensures

pub visit-met-requires : goal.visit-met-requires
visit-met-requires c =
    let pre = c.requires in
    let low = next_state _ _ _ _ _ pre _ _ _ _ c.loop-i.invariant c.loop-i-test.true in
    (c.loop-i.invariant.queue, record { long = omega (arith, low, pre.rows.long) })

pub loop-i-preserved : goal.loop-i-preserved
loop-i-preserved c =
    walk_more _ _ _ _ _ c.requires c.loop-i.invariant c.loop-i-test.true c.from.ensures c.visit-met.ensures

pub returns-then-met-n : goal.returns-then-met-n
returns-then-met-n c =
    walk_full _ _ _ _ _ c.requires c.loop-i.invariant c.loop-i-test.true c.if-met-n.true

pub returns : goal.returns
returns c = walk-all _ _ _ _ _ c.requires c.loop-i.invariant c.loop-i-test.false
