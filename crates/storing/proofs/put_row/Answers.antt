use mathlib.Core.Path.{◌≡◌, sym, ap, ◌∙◌}
use mathlib.Core.Option.{some}
use Prim.Native.Nat.{ℕ, ◌<◌}
use native.Mathlib.Omega.{arith}
use lib.ListN.{length}
use Rattle.std.proofs.lemmas.List.{get_or_default}
use Rattle.meaning.specs.Search.{at}
use Rattle.sets.proofs.Laws.{from-holds}
use Rattle.table.specs.declared.Row.{Row}
use Rattle.table.specs.Table.{row, blank, look}
use Rattle.table.proofs.Laws.{look_some}
use Rattle.storing.proofs.Laws.{led_some, row_without, row-begun, row_near, row_more, row-ended}
use Rattle.storing.proofs.put_row.Goals as goal
use Rattle.storing.proofs.put_row.Goals.{After-target-to}

-- a label of the rest has an edge
found : (c : After-target-to) → look c.args.rows.now (at c.args.order.now c.args.k) c.in-Some.y ≡ some c.target-to.result
found c =
    let y = c.in-Some.y in
    let step = c.in-Some.ensures.steps in
    let targets : ℕ → ℕ = λ s. at (row c.args.rows.now s).targets y in
    look_some _ _ y step.0 (from-holds c.loop-y.invariant.from y step.1.there) ∙ ap some (ap targets (sym c.from-s.ensures) ∙ sym c.target-to.ensures.0)

pub loop-y-init : goal.loop-y-init
loop-y-init c =
    let rows = c.args.rows.now in
    let there : c.from-s.result < length rows = omega (arith, c.from-s.ensures, (c.requires.rows.rows c.args.k c.requires.state).long) in
    let labels : Row → ℕ = λ r. r.labels in
    let all : c.into_iter-y-iterator.result.rest ≡ (row rows (at c.args.order.now c.args.k)).labels =
    cc (ap labels (get_or_default rows c.from-s.result _ blank there), ap (λ (s : ℕ). (row rows s).labels) c.from-s.ensures) in
    rw all (row-begun _ _ _ _ _ _ c.requires.ready)

pub bounds-list-to : goal.bounds-list-to
bounds-list-to c =
    let pre = c.requires in
    pre.rows.in_list _ _ _ pre.state (found (goal.at.bounds-list-to c).After-target-to)

pub push-pen-requires : goal.push-pen-requires
push-pen-requires c =
    let loop = c.loop-y in
    let pre = c.requires in
    let can = pre.rows in
    let edge = found (goal.at.push-pen-requires c).After-target-to in
    record {
      ready = loop.invariant.edges.ready;
      near = omega (arith, row_near loop.invariant, pre.near);
      source = omega (arith, pre.state, can.states);
      label = can.label _ _ _ pre.state edge;
      target = rw c.from.ensures (can.target _ _ _ pre.state edge);
    }

pub loop-y-preserved : goal.loop-y-preserved
loop-y-preserved c =
    let a = c.args in
    let step = c.in-Some.ensures.steps in
    let edge = led_some a.list.now _ _ (found (goal.at.loop-y-preserved c).After-target-to) ∙ ap some (sym c.from.ensures) in
    row_more c.loop-y.invariant (row_without a.rows.now a.order.now a.list.now a.k) _ _ step.0 step.1 edge c.push-pen.ensures step.2

pub returns : goal.returns
returns c =
    let a = c.args in
    row-ended c.loop-y.invariant (row_without a.rows.now a.order.now a.list.now a.k) c.in-None.ensures.steps.0
