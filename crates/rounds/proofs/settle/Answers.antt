use native.Mathlib.Omega.{arith}
use mathlib.Core.Path.{sym, ap, ◌∙◌}
use Rattle.meaning.specs.Classes.{Classes}
use Rattle.reach.proofs.Laws.{rises_below}
use Rattle.rounds.proofs.Run.{running_begins, running_on, running_ends, classes-begin}
use Rattle.rounds.proofs.Run.{running_low, running_named, running_seated, running_searched, running_heads}
use Rattle.rounds.proofs.Run.{running_linkable, running_relinkable}
use Rattle.rounds.proofs.settle.Goals as goal

pub initial-p-requires : goal.initial-p-requires
initial-p-requires c =
    let pre = c.requires in
    (rises_below pre.0.few pre.1.rises, pre.0.colours_long)

pub follow-requires : goal.follow-requires
follow-requires c =
    let pre = c.requires in
    let run = running_begins _ _ _ _ pre.0 pre.1 _ (c.initial-p.ensures _ pre.0.few pre.1.rises) in
    running_linkable _ _ _ _ pre.0 pre.1 _ run _ pre.2

pub loop-c-init : goal.loop-c-init
loop-c-init c =
    let pre = c.requires in
    (running_begins _ _ _ _ pre.0 pre.1 _ (c.initial-p.ensures _ pre.0.few pre.1.rises), c.follow.ensures)

pub first_parted-requires : goal.first_parted-requires
first_parted-requires c =
    let pre = c.requires in
    let run = c.loop-c.invariant.0 in
    (running_named _ _ _ _ pre.0 pre.1 _ run, running_seated _ _ _ _ pre.0 pre.1 _ run)

pub split-p-requires : goal.split-p-requires
split-p-requires c =
    let pre = c.requires in
    let run = c.loop-c.invariant.0 in
    let there = c.in-Some.ensures in (
      running_searched _ _ _ _ pre.0 pre.1 _ run _ c.loop-c.invariant.1,
      running_heads _ _ _ _ pre.0 pre.1 _ run _ (sym there.0) there.1,
      omega (arith, running_low _ _ _ _ pre.0 pre.1 _ run, pre.0.few),
    )

pub relink-requires : goal.relink-requires
relink-requires c =
    let pre = c.requires in
    let there = c.in-Some.ensures in
    running_relinkable _ _ _ _ pre.0 pre.1 _ c.loop-c.invariant.0 _ _ (sym there.0) there.1 c.split-p.ensures _ c.loop-c.invariant.1

pub loop-c-smaller : goal.loop-c-smaller
loop-c-smaller c =
    let pre = c.requires in
    omega (arith, running_low _ _ _ _ pre.0 pre.1 _ c.loop-c.invariant.0, c.split-p.ensures.rounds)

pub loop-c-preserved : goal.loop-c-preserved
loop-c-preserved c =
    let pre = c.requires in
    let there = c.in-Some.ensures in
    (running_on _ _ _ _ pre.0 pre.1 _ c.loop-c.invariant.0 _ _ (sym there.0) there.1 c.split-p.ensures, c.relink.ensures)

pub returns : goal.returns
returns c =
    let pre = c.requires in
    let run = c.loop-c.invariant.0 in
    let begun = c.initial-p.ensures _ pre.0.few pre.1.rises in
    let end = running_ends _ _ _ _ pre.0 pre.1 _ run c.in_default.ensures in
    record {
      colours = c.count-distinct.ensures.0 ∙ classes-begin _ _ _ _ pre.0 pre.1 _ begun;
      long = run.long;
      names = sym (ap (λ (Q : Classes). Q.names) end);
      rounds = sym (ap (λ (Q : Classes). Q.rounds) end);
    }
