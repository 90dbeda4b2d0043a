use Prim.Native.Nat.{◌+◌}
use native.Mathlib.Omega.{arith}
use mathlib.Core.Path.{sym, ap, ◌∙◌}
use borrow.Author.Tests.{not-false}
use Rattle.sets.specs.Sets.{contains}
use Rattle.conflicts.specs.Conflicts.{clash}
use Rattle.members.proofs.Laws.{Hop, at_head, hop}
use Rattle.grouping.proofs.Laws.{first_until, next_until}
use Rattle.grouping.proofs.Laws.{Marked, marked_none, marked_skip, marked_calm, marked_again, marked_more}
use Rattle.grouping.proofs.mark.Goals as goal
use Rattle.grouping.proofs.mark.Goals.{After-from-t, then-unmarked+then-conflict, then-unmarked+else-conflict, else-unmarked}

pub loop-t-init : goal.loop-t-init
loop-t-init c =
    let pre = c.requires in
    let head = pre.0 in (
      first_until _ _ _ _ head pre.1.member,
      at_head _ _ _ head,
      marked_skip _ _ _ _ _ _ _ 0 (marked_none _ _ _ _ _) _ (omega arith) (λ x h l. head.before x l),
    )

step : (c : After-from-t)
    → let a = c.args in
    Hop a.classes.names.now a.classes.n a.c c.loop-t.t c.from-t.result
step c =
    let pre = c.requires in
    hop _ _ _ c.args.classes.searched.linked _ _ _ c.loop-t.invariant.1 (omega (arith, pre.1.inside)) c.from-t.ensures

pub loop-t-preserved : goal.loop-t-preserved
loop-t-preserved c =
    let here = c.loop-t-test.true in
    let pre = c.requires in
    let inv = c.loop-t.invariant in
    let next = step c in
    let t = c.loop-t.t in
    let is = c.from-group.ensures in
    let low = c.fits-groups t in
    let member = inv.1.member (omega (arith, pre.1.inside)) in
    let a = c.args in
    let behind : Marked (clash a.classes.rows.now a.classes.names.now) a.classes.names.now a.groups.now a.c a.s c.if-unmarked.words c.if-unmarked.top (t + 1) =
    elim c.if-unmarked.branch [
      | then-unmarked+then-conflict w ↦ marked_more _ _ _ _ _ _ _ t inv.2 _ _ _ _ w.words-is w.with.ensures is (rw is low) (omega (arith, w.top-is, w.max-top.ensures)) (omega (arith, w.top-is, w.max-top.ensures)) member (sym w.conflict.ensures ∙ w.if-conflict.true)
      | then-unmarked+else-conflict w ↦ marked_calm _ _ _ _ _ _ _ t inv.2 _ _ w.words-is w.top-is (sym w.conflict.ensures ∙ w.if-conflict.false)
      | else-unmarked w ↦ marked_again _ _ _ _ _ _ _ t inv.2 _ _ w.words-is w.top-is low
          (ap (contains c.loop-t.words) (sym is) ∙ not-false _ (sym c.unmarked.ensures ∙ w.if-unmarked.false))
    ] in (
      next_until _ _ _ _ _ _ next here pre.1.member,
      next.stands,
      marked_skip _ _ _ _ _ _ _ (t + 1) behind _ (omega (arith, next.after)) (λ x h l. next.gap x (omega arith) l),
    )
