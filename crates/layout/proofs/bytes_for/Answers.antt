use Rattle.layout.specs.Layout.{bytes_for}
use borrow.Author.Rules.{rules}
use Rattle.layout.proofs.bytes_for.Goals as goal

pub returns : goal.returns
unfolding bytes_for
returns c = search rules
