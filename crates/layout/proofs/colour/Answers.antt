-- `layout::colour` meets its contract. Assumes nothing.
use mathlib.Core.Path.{◌∙◌, ap}
use Prim.Native.Nat.{ℕ, ◌+◌, ◌*◌}
use Rattle.bits.specs.Bits.{field}
use Rattle.layout.specs.Contents.{colour_at}
use Rattle.layout.proofs.colour.Goals as goal

pub returns : goal.returns
unfolding colour_at
returns c =
    let p = c.args.p in
    c.get.ensures.0
    ∙ ap (λ (k : ℕ). field c.args.file.now (k + p.colour * c.args.state) p.colour) c.header_bits.ensures.0
