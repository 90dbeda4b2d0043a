-- `loading::colours_of` meets its contract. Assumes nothing.
use mathlib.Core.Path.{◌≡◌, refl, ◌∙◌}
use Prim.Native.Nat.{ℕ, ◌≤◌}
use native.Mathlib.Nat.{mul-le-mul}
use native.Mathlib.Omega.{arith}
use Rattle.layout.proofs.Bounds.{states_high}
use lib.ListN.{length, length-replicate, replicate}
use Rattle.loading.proofs.Laws.{colours_read}
use Rattle.loading.proofs.colours_of.Goals as goal

zeros_long : length (replicate {A = ℕ} 256 0) ≡ 256
zeros_long = length-replicate {A = ℕ} 256 0

pub get_run-requires : goal.get_run-requires
get_run-requires c =
    let ok = c.args.p.usable in
    let few : c.args.n ≤ 256 = omega (arith, c.requires, states_high c.args.p ok c.args.file.now) in
    record {
      narrow = ok.colour≤;
      room = omega (arith, few, zeros_long);
      near = omega (arith, c.header_bits.ensures.1, mul-le-mul few ok.colour≤);
    }

pub returns : goal.returns
returns c =
    record {
      colours = colours_read c.args.p c.args.file.now _ _ _ _ 256 c.header_bits.ensures.0 c.requires refl c.get_run.ensures;
      long = c.get_run.auto.out ∙ zeros_long;
    }
