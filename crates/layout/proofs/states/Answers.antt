-- `layout::states` meets its contract. Assumes nothing.
use mathlib.Core.Path.{ap}
use Prim.Native.Nat.{ℕ, ◌+◌}
use native.Mathlib.Omega.{arith}
use lib.Pow.{pow_mono}
use Rattle.layout.specs.Contents.{states_in}
use Rattle.layout.proofs.states.Goals as goal

pub returns : goal.returns
unfolding states_in
returns c =
    (ap (λ (x : ℕ). x + 1) c.get.ensures.0, omega (arith, c.get.ensures.1, pow_mono {j = 8} c.args.p.usable.states≤))
