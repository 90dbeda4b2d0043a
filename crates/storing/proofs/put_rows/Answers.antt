use native.Mathlib.Omega.{arith}
use Rattle.meaning.specs.Reduced.{listed}
use Rattle.layout.specs.Layout.{edge_widths, flat}
use Rattle.layout.proofs.Bounds.{states-pow}
use Rattle.storing.proofs.Laws.{listed_more, edges_drawn, listed_near}
use Rattle.storing.proofs.put_rows.Goals as goal

pub loop-k-init : goal.loop-k-init
unfolding listed edge_widths flat
loop-k-init c = c.begin-pen.ensures

pub put_row-pen-requires : goal.put_row-pen-requires
put_row-pen-requires c =
    let loop = c.loop-k in
    let pre = c.requires in
    let p = c.args.p in
    record {
      rows = pre.storable;
      state = c.loop-k-test.true;
      ready = loop.invariant.ready;
      near = omega (arith, listed_near p _ loop.k loop.invariant (omega (arith, pre.storable.states, states-pow p p.usable)), pre.bit_bound);
    }

pub loop-k-preserved : goal.loop-k-preserved
loop-k-preserved c =
    let loop = c.loop-k in
    rw (listed_more _ loop.k 64) (edges_drawn _ _ _ loop.invariant c.put_row-pen.ensures)
