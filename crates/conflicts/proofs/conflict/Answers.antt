use Rattle.std.proofs.Common.{◌≡◌, ◌∙◌, ◌<◌, ℕ, length, sym, ap, arith}
use Rattle.std.proofs.lemmas.List.{get_or_default}
use Rattle.sets.specs.Sets.{holds}
use Rattle.table.specs.Table.{blank}
use Rattle.conflicts.proofs.Laws.{calm_begun, calm_more, calm_broken, calm_all}
use Rattle.conflicts.proofs.conflict.Goals as goal

pub loop-y-init : goal.loop-y-init
loop-y-init c =
    let a = c.args in
    let all : c.into_iter-y-iterator.result.rest ≡ c.shared.result = cc in
    let inside-a : a.a < length a.rows.now = omega (arith, c.requires.0.long) in
    let inside-b : a.b < length a.rows.now = omega (arith, c.requires.1.long) in
    calm_begun _ _ _ _ _ (λ y. ap (λ (x : ℕ). holds x y) all
    ∙ rw (get_or_default a.rows.now a.a _ blank inside-a, get_or_default a.rows.now a.b _ blank inside-b) at (c.shared.ensures y))

pub returns-then-names-target : goal.returns-then-names-target
returns-then-names-target c =
    let step = c.in-Some.ensures.steps in
    sym (calm_broken _ _ _ _ _ _ _ _ c.loop-y.invariant step.0 step.1 c.target.ensures.0 c.target-in-loop-y.ensures.0 c.if-names-target.true)

pub loop-y-preserved : goal.loop-y-preserved
loop-y-preserved c =
    let step = c.in-Some.ensures.steps in
    calm_more _ _ _ _ _ _ _ _ c.loop-y.invariant step.0 step.1 c.target.ensures.0 c.target-in-loop-y.ensures.0 _ step.2 c.if-names-target.false

pub returns : goal.returns
returns c = sym (calm_all _ _ _ _ _ c.loop-y.invariant c.in-None.ensures.steps.0)
