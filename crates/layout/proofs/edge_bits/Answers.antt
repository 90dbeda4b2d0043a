use Rattle.layout.specs.Layout.{edge_bits}
use borrow.Author.Rules.{rules}
use Rattle.layout.proofs.edge_bits.Goals as goal

pub returns : goal.returns
unfolding edge_bits
returns c = search rules
