use Rattle.std.proofs.Common.{◌≡◌, ◌∙◌, ◌<◌, length, sym, ap, arith}
use Rattle.std.proofs.Math.Option.{some}
use Rattle.std.proofs.lemmas.List.{get_or_default}
use Rattle.sets.proofs.Laws.{from-holds}
use Rattle.table.specs.Table.{row, blank, look}
use Rattle.table.specs.declared.Row.{Row}
use Rattle.table.proofs.Laws.{look_some, look_none}
use Rattle.reach.proofs.Laws.{visiting_begun, visiting_more, visiting_ended}
use Rattle.reach.proofs.visit.Goals as goal

pub loop-y-init : goal.loop-y-init
loop-y-init c =
    let a = c.args in
    let inside : a.s < length a.rows.now = omega (arith, c.requires.1.long) in
    let same = get_or_default a.rows.now a.s _ blank inside in
    let all : c.into_iter-y-iterator.result.rest ≡ (row a.rows.now a.s).labels =
    ap (λ (m : _). m.rest) c.into_iter-y-iterator.ensures.into_iter_gives ∙ c.each-y-items.ensures ∙ ap (λ (r : Row). r.labels) same in
    rw all (visiting_begun _ _ _ _ _ c.requires.0)

pub meet-count-requires : goal.meet-count-requires
meet-count-requires c = (c.loop-y.invariant.walked.queue, c.target.ensures.1)

pub loop-y-preserved : goal.loop-y-preserved
loop-y-preserved c =
    let loop = c.loop-y in
    let step = c.in-Some.ensures.steps in
    let y = c.in-Some.y in
    let T = c.args.rows.now in
    let edge : look T c.args.s y ≡ some c.target.result =
    look_some T c.args.s y step.0 (from-holds loop.invariant.from y step.1.there) ∙ ap some (sym c.target.ensures.0) in
    visiting_more loop.invariant (look_none T c.args.s) y _ step.0 step.1 edge c.meet-count.ensures step.2

pub returns : goal.returns
returns c = visiting_ended c.loop-y.invariant (look_none c.args.rows.now c.args.s) c.in-None.ensures.steps.0
