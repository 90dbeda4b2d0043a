-- `layout::header::push_sizes` meets its contract. Assumes nothing.
use native.Mathlib.Omega.{arith}
use Rattle.pen.specs.Runs.{total, Fit}
use Rattle.pen.proofs.Pens.{drawn-behind}
use Rattle.layout.proofs.header.push_sizes.Goals as goal

pub push-begun-requires : goal.push-begun-requires
unfolding Fit total
push-begun-requires c =
    let first = c.begin-first.ensures in
    let pre = c.requires in
    record {
      ready = first.ready;
      narrow = omega (arith, c.args.p.usable.states≤);
      small = pre.fit.0;
      near = omega (arith, first.place, c.args.p.usable.states≤);
    }

pub push-requires : goal.push-requires
unfolding Fit total
push-requires c =
    let begun = c.push-begun.ensures in
    let first = c.begin-first.ensures in
    let pre = c.requires in
    record {
      ready = begun.ready;
      narrow = omega (arith, c.args.p.usable.labels≤);
      small = pre.fit.1.0;
      near = omega (arith, begun.place, first.place, c.args.p.usable.states≤, c.args.p.usable.labels≤);
    }

pub returns : goal.returns
returns c =
    drawn-behind (drawn-behind c.begin-first.ensures c.push-begun.ensures) c.push.ensures
