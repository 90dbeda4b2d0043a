use mathlib.Core.Path.{refl}
use Rattle.layout.proofs.Bounds.{file_high}
use Rattle.layout.specs.Layout.{file_bits}
use Rattle.layout.proofs.file_bits.Goals as goal

pub returns : goal.returns
unfolding file_bits
returns c = rw (c.edge_bits.ensures.0, c.edges_begin.ensures.0) (refl, file_high c.args.p c.args.p.usable c.args.n c.args.e c.requires.0 c.requires.1)
