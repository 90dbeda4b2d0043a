-- `layout::header::put` meets its contract. Assumes nothing.
use mathlib.Core.Path.{◌∙◌}
use Rattle.pen.proofs.Pens.{drawn-behind}
use Rattle.layout.proofs.Headers.{start_next, edges_next}
use Rattle.layout.proofs.header.put.Goals as goal

pub push-begun-requires : goal.push-begun-requires
push-begun-requires c = start_next c.requires c.push_sizes-sizes.ensures

pub push-whole-requires : goal.push-whole-requires
push-whole-requires c =
    edges_next c.requires c.push_sizes-sizes.ensures c.push-begun.ensures

pub returns : goal.returns
returns c =
    c.finish.ensures ∙ (drawn-behind (drawn-behind c.push_sizes-sizes.ensures c.push-begun.ensures) c.push-whole.ensures).ink
