use Rattle.std.proofs.Common.{◌≡◌, ◌+◌, ◌*◌, ℕ, List, [], length, ap, ◌∙◌, arith}
use lib.Seq.{paste-zero}
use Rattle.meaning.specs.Filter as meaning
use Rattle.text.proofs.Laws.{same, both}
use Rattle.layout.specs.declared.profile.Profile.{Profile}
use Rattle.layout.specs.declared.edge.Edge.{Edge}
use Rattle.layout.specs.declared.edge.Placed.{Placed}
use Rattle.layout.specs.Layout.{edge_bits}
use Rattle.layout.specs.Contents.{placed_at, placed_from, edge_at, edges_from}
use Rattle.layout.specs.Code.{edge_of, bare}
use Rattle.layout.proofs.Walks.{along_begun, along_near, along_more, along_read, along_next, along_done}
use Rattle.layout.proofs.EdgeLists.{bare_read}
use Rattle.drawing.specs.Profile.{edge_line, edge_lines}
use Rattle.plotting.proofs.Laws.{edge_lines_more, edge_lines_fit}
use Rattle.plotting.proofs.put_edges.Goals as goal

pub loop-placed-init : goal.loop-placed-init
unfolding edges_from placed_from edge_lines
loop-placed-init c =
    let begun = c.each-placed-items.ensures in
    rw c.into_iter-placed-iterator.ensures.into_iter_gives
    (record {
      along = along_begun _ _ _ _ _ begun;
      room = rw begun.3 (paste-zero c.args.room.now c.args.begin []);
      at = rw begun.3 (omega arith);
    })

pub loop-placed-init-derived : goal.loop-placed-init-derived
loop-placed-init-derived c =
    let along = along_begun _ _ _ _ c.each-placed-items.result c.each-placed-items.ensures in
    rw c.into_iter-placed-iterator.ensures.into_iter_gives (along_near _ _ _ _ c.each-placed-items.result along c.requires.0 c.requires.1, tt)

-- the edge that was read
here : (p : Profile) (file : List ℕ) (first place i : ℕ) → place ≡ first + edge_bits p * i →
    (q : Placed) (e : Edge) → q ≡ placed_at p file place → e ≡ bare q → edge_of e ≡ edge_at p file (first + edge_bits p * i)
here p file first bit i place q e read is = bare_read p file bit q e read is ∙ ap (edge_at p file) place

pub put_edge-at-requires : goal.put_edge-at-requires
put_edge-at-requires c =
    let loop = c.loop-placed in
    let inv = loop.invariant in
    let walk = loop.placed-iterator in
    let a = c.args in
    let file = a.file.now in
    let step = c.in-Some.ensures.steps in
    let read = along_read _ _ _ _ _ inv.along _ c.next.new.self step in
    let more = along_more _ _ _ _ _ inv.along _ c.next.new.self step in
    let is = ap (λ (d : meaning.Edge). length (edge_line d)) (here a.p file a.first walk.place walk.index inv.along.placed _ c.bare.result read c.bare.ensures) in (
      rw c.bare.ensures step.2,
      omega (arith, edge_lines_fit a.p file a.first walk.index a.e more, is, inv.at, c.requires.2),
    )

pub loop-placed-preserved : goal.loop-placed-preserved
loop-placed-preserved c =
    let loop = c.loop-placed in
    let inv = loop.invariant in
    let walk = loop.placed-iterator in
    let a = c.args in
    let file = a.file.now in
    let room = a.room.now in
    let step = c.in-Some.ensures.steps in
    let read = along_read _ _ _ _ _ inv.along _ c.next.new.self step in
    let place = a.first + edge_bits a.p * walk.index in
    let one = same loop.room loop.at (ap edge_line (here a.p file a.first walk.place walk.index inv.along.placed _ c.bare.result read c.bare.ensures)) c.put_edge-at.ensures.0 c.put_edge-at.ensures.1 in
    let more =
    both room a.begin (edge_lines (edges_from a.p file a.first walk.index)) (edge_line (edge_at a.p file place)) (omega (arith, c.requires.2)) inv.room inv.at one.0 one.1 in
    let done = same room a.begin (edge_lines_more a.p file a.first walk.index) more.0 more.1 in
    record {
      along = along_next _ _ _ _ _ inv.along _ c.next.new.self step;
      room = rw step.6 done.0;
      at = rw step.6 done.1;
    }

pub returns : goal.returns
returns c =
    let inv = c.loop-placed.invariant in
    let all = along_done _ _ _ _ _ inv.along c.in-None.ensures.steps in
    (rw all at inv.room, rw all at inv.at)
