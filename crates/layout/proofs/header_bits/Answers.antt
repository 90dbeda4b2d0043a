use Rattle.layout.specs.Layout.{header_bits}
use borrow.Author.Rules.{rules}
use Rattle.layout.proofs.header_bits.Goals as goal

pub returns : goal.returns
unfolding header_bits
returns c = search rules
