use Prim.Native.Nat.{◌+◌, ◌<◌}
use native.Mathlib.Omega.{arith}
use mathlib.Core.Path.{refl, ◌∙◌}
use lib.ListN.{set}
use Rattle.meaning.specs.Search.{at}
use Rattle.members.proofs.Laws.{Hop, at_head, hop}
use Rattle.partition.proofs.Laws.{Renamed, renamed_none, renamed_skip, renamed_new, renamed_again, renamed_as, renamed-all, rounded_by}
use Rattle.partition.proofs.Partition.split.Goals as goal
use Rattle.partition.proofs.Partition.split.Goals.{After-from-s, then-firsts-g, else-firsts-g}

pub loop-s-init : goal.loop-s-init
loop-s-init c =
    let pre = c.requires in
    let head = pre.1 in
    let none = renamed_none _ _ _ _ _ _ refl pre.0.names_long c.filled-firsts.ensures.0 in
    (at_head _ _ _ head, renamed_skip _ _ _ _ _ _ 0 none _ (omega arith) (λ x h l. head.before x l))

step : (c : After-from-s)
    → let a = c.args in
    Hop a.self.names a.n a.c c.loop-s.s c.from-s.result
step c =
    let linked = c.requires.0.linked in
    hop _ _ _ linked _ _ _ c.loop-s.invariant.0 c.loop-s-test.true c.from-s.ensures

pub loop-s-preserved : goal.loop-s-preserved
loop-s-preserved c =
    let here = c.loop-s-test.true in
    let pre = c.requires in
    let next = step c in
    let s = c.loop-s.s in
    let before = c.loop-s.invariant.1 in
    let member = c.loop-s.invariant.0.member here in
    let is = c.from-g.ensures in
    let low : c.from-g.result < 256 = rw is (c.group.ensures.low s here) in
    let firsts = c.if-firsts-g.firsts in
    let g = c.from-g.result in
    let more : Renamed c.args.n c.args.self.names c.args.c c.group.new.into (set c.loop-s.names s (at firsts g)) firsts (s + 1) =
    elim c.if-firsts-g.branch [
      | then-firsts-g w ↦ renamed_new _ _ _ _ _ _ s before here pre.0.few member _ _ is w.firsts-is low w.if-firsts-g.true
      | else-firsts-g w ↦ renamed_again _ _ _ _ _ _ s before here pre.0.few member _ _ is w.firsts-is low w.if-firsts-g.false
    ] in
    let stored = renamed_as _ _ _ _ c.loop-s.names _ s _ _ more c.from.ensures in
    (next.stands, renamed_skip _ _ _ _ _ _ (s + 1) stored _ (omega (arith, next.after)) (λ x h l. next.gap x (omega arith) l))

pub returns : goal.returns
returns c =
    let inv = c.loop-s.invariant in
    let few = c.requires.0.few in
    let made = c.group.ensures.front in
    record {
      long =
          inv.1.long;
      names = renamed-all _ _ _ _ _ _ _ inv.1 c.loop-s-test.false few
          ∙ rounded_by _ _ _ _ _ made;
      rounds = refl;
    }
