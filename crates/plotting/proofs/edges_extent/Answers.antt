use Rattle.std.proofs.Common.{◌≡◌, ◌+◌, ◌≤◌, ℕ, length, sym, ap, ◌∙◌, arith, rules, tests}
use mathlib.Core.Path.{ap₂}
use Rattle.meaning.specs.Filter as meaning
use Rattle.layout.specs.Contents.{placed_from, edge_at, edges_from}
use Rattle.layout.proofs.Walks.{along_begun, along_near, along_read, along_next}
use Rattle.layout.proofs.EdgeLists.{bare_read}
use Rattle.drawing.specs.Profile.{edge_line, edge_lines, larger, labels_of}
use Rattle.plotting.proofs.Laws.{edge_lines_longer, labels_longer}
use Rattle.plotting.proofs.edges_extent.Goals as goal

pub loop-placed-init : goal.loop-placed-init
unfolding edges_from placed_from edge_lines labels_of
loop-placed-init c =
    let begun = c.each-placed-items.ensures in
    rw c.into_iter-placed-iterator.ensures.into_iter_gives
    (record { along = along_begun _ _ _ _ _ begun; long = rw begun.3; labels = rw begun.3; few = omega arith })

pub loop-placed-init-derived : goal.loop-placed-init-derived
loop-placed-init-derived c =
    let along = along_begun _ _ _ _ c.each-placed-items.result c.each-placed-items.ensures in
    rw c.into_iter-placed-iterator.ensures.into_iter_gives (along_near _ _ _ _ c.each-placed-items.result along c.requires.0 c.requires.1, tt)

pub loop-placed-preserved : goal.loop-placed-preserved
loop-placed-preserved c =
    let loop = c.loop-placed in
    let inv = loop.invariant in
    let i = loop.placed-iterator.index in
    let a = c.args in
    let file = a.file.now in
    let step = c.in-Some.ensures.steps in
    let one = c.edge_length-length.ensures in
    let here = bare_read a.p file loop.placed-iterator.place _ c.bare-edge.result (along_read _ _ _ _ _ inv.along _ c.next.new.self step) c.bare-edge.ensures ∙ ap (edge_at a.p file) inv.along.placed in
    let is = one.0 ∙ ap (λ (d : meaning.Edge). length (edge_line d)) here in
    let top : c.max-labels.result ≡ larger loop.labels (c.bare-edge.result.label + 1) = search (rules, tests) in
    let labels = top ∙ ap₂ (λ (l : ℕ) (d : meaning.Edge). larger l (d.label + 1)) inv.labels here in
    record {
      along = along_next _ _ _ _ _ inv.along _ c.next.new.self step;
      long = rw step.6 (omega (arith, inv.long, is, edge_lines_longer a.p file a.begin i));
      labels = rw step.6 (labels ∙ sym (labels_longer a.p file a.begin i));
      few = omega (arith, inv.few, one.1, step.6);
    }
