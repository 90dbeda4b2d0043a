-- `layout::header::begin` meets its contract. Assumes nothing.
use Rattle.pen.proofs.Pens.{drawn-behind}
use Rattle.layout.proofs.Headers.{start_next, edges_next}
use Rattle.layout.proofs.header.begin.Goals as goal

pub push-begun-requires : goal.push-begun-requires
push-begun-requires c = start_next c.requires c.push_sizes-sizes.ensures

pub push-requires : goal.push-requires
push-requires c =
    edges_next c.requires c.push_sizes-sizes.ensures c.push-begun.ensures

pub returns : goal.returns
returns c =
    drawn-behind (drawn-behind c.push_sizes-sizes.ensures c.push-begun.ensures) c.push.ensures
