-- `layout::edge::push` meets its contract: the joined parts are the edge's three fields. Assumes nothing.
use native.Mathlib.Omega.{arith}
use Rattle.pen.proofs.Pens.{drawn_three}
use Rattle.layout.specs.Layout.{edge_bits, edge_widths, flat}
use Rattle.layout.proofs.edge.push.Goals as goal

pub push-requires : goal.push-requires
unfolding edge_bits
push-requires c =
    let width = c.edge_bits.ensures in
    record {
      ready = c.requires.ready;
      narrow = width.1;
      small = rw width.0 c.joined-value.ensures.1;
      near = omega (arith, c.requires.near, width.1);
    }

pub returns : goal.returns
unfolding edge_bits edge_widths flat
returns c =
    let width = c.edge_bits.ensures.0 in
    let value = c.joined-value.ensures.0 in
    let a = c.args in
    drawn_three a.p.states a.p.labels a.p.states a.edge.source a.edge.label a.edge.target c.requires.source c.requires.label c.requires.target
    (rw (width, value) at c.push.ensures)
