use native.Mathlib.Omega.{arith}
use Rattle.layout.proofs.Bounds.{colours_high}
use Rattle.layout.specs.Layout.{edges_begin}
use Rattle.layout.proofs.edges_begin.Goals as goal

pub returns : goal.returns
unfolding edges_begin
returns c = (rw c.header_bits.ensures.0, omega (arith, colours_high c.args.p c.args.p.usable c.args.n c.requires))
