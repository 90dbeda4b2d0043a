use Rattle.std.proofs.Common.{◌≡◌, ◌∙◌, ◌<◌, ℕ, length, ap, arith}
use Rattle.std.proofs.lemmas.List.{get_or_default}
use Rattle.sets.specs.Sets.{holds}
use Rattle.table.specs.Table.{blank}
use Rattle.conflicts.proofs.Laws.{calm_begun, calm_more, calm_broken, calm_all}
use Rattle.members.proofs.Laws.{Hop, hop}
use Rattle.pairs.proofs.Laws.{outer_begun, inner_begun, inner_more, outer_more, outer_all, inner_found}
use Rattle.pairs.proofs.pair_in.Goals as goal
use Rattle.pairs.proofs.pair_in.Goals.{After-from-a, After-from-b-in-loop-b}

pub search-init : goal.search-init
search-init c = outer_begun _ _ _ _ c.requires

pub loop-b-init : goal.loop-b-init
loop-b-init c =
    let here = c.search-test.true in
    let linked = c.args.classes.searched.linked in
    let next = hop _ _ _ linked _ _ _ c.search.invariant.stands here c.from-b.ensures in
    inner_begun _ _ _ _ _ _ _ c.search.invariant next

pub loop-y-init : goal.loop-y-init
loop-y-init c =
    let rows = c.args.classes.rows.now in
    let all : c.into_iter-y-iterator.result.rest ≡ c.shared.result = cc in
    let inside-a : c.search.a < length rows = omega (arith, c.args.classes.searched.rows.long, c.search-test.true) in
    let inside-b : c.loop-b.b < length rows = omega (arith, c.args.classes.searched.rows.long, c.loop-b-test.true) in (
      c.loop-b.invariant.nothing,
      calm_begun _ _ _ _ _ (λ y. ap (λ (x : ℕ). holds x y) all
          ∙ rw (get_or_default rows c.search.a _ blank inside-a, get_or_default rows c.loop-b.b _ blank inside-b) at (c.shared.ensures y)),
    )

pub loop-y-preserved : goal.loop-y-preserved
loop-y-preserved c =
    let step = c.in-Some.ensures.steps in
    let inv = c.loop-y.invariant in
    (inv.0, calm_more _ _ _ _ _ _ _ _ inv.1 step.0 step.1 c.target.ensures.0 c.target-in-loop-y.ensures.0 _ step.2 c.if-names-target.false)

-- from b to the next member
behind-b : (c : After-from-b-in-loop-b)
    → let a = c.args in
    Hop a.classes.names.now a.classes.n a.c c.loop-b.b c.from-b-in-loop-b.result
behind-b c =
    let linked = c.args.classes.searched.linked in
    let here = c.loop-b-test.true in
    hop _ _ _ linked _ _ _ c.loop-b.invariant.stands here c.from-b-in-loop-b.ensures

pub loop-b-preserved : goal.loop-b-preserved
loop-b-preserved c =
    let calm = calm_all _ _ _ _ _ c.loop-y.invariant.1 c.in-None.ensures.steps.0 in
    inner_more _ _ _ _ _ _ _ _ _ c.loop-b.invariant c.loop-y.invariant.0 calm (behind-b c)

-- and from a
behind-a : (c : After-from-a)
    → let a = c.args in
    Hop a.classes.names.now a.classes.n a.c c.search.a c.from-a.result
behind-a c =
    let linked = c.args.classes.searched.linked in
    let here = c.search-test.true in
    hop _ _ _ linked _ _ _ c.search.invariant.stands here c.from-a.ensures

pub search-preserved : goal.search-preserved
search-preserved c =
    outer_more _ _ _ _ _ _ _ _ _ c.search.invariant c.loop-b.invariant c.loop-b-test.false (behind-a c)

pub returns-after-search : goal.returns-after-search
returns-after-search c = outer_all _ _ _ _ _ _ c.search.invariant c.search-test.false

pub returns-then-names-target : goal.returns-then-names-target
returns-then-names-target c =
    let step = c.in-Some.ensures.steps in
    let hit = calm_broken _ _ _ _ _ _ _ _ c.loop-y.invariant.1 step.0 step.1 c.target.ensures.0 c.target-in-loop-y.ensures.0 c.if-names-target.true in
    inner_found _ _ _ _ _ _ _ _ c.search.invariant c.loop-b.invariant c.search-test.true c.loop-b-test.true hit
