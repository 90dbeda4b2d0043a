-- `layout::fill_bits` meets its contract. Assumes nothing.
use mathlib.Core.Path.{◌∙◌, ap}
use Prim.Native.Nat.{ℕ, ◌*◌, ◌-◌}
use native.Mathlib.Omega.{arith}
use Rattle.layout.specs.Layout.{bytes_for, file_length, fill_bits}
use Rattle.layout.proofs.fill_bits.Goals as goal

pub overflow_mul-result : goal.overflow_mul-result
unfolding bytes_for
overflow_mul-result c = omega (arith, c.bytes_for.ensures, c.file_bits-bits.ensures.1)

pub overflow_sub-result : goal.overflow_sub-result
unfolding bytes_for
overflow_sub-result c = omega (arith, c.bytes_for.ensures)

pub returns : goal.returns
unfolding fill_bits file_length
returns c =
    let bits = c.file_bits-bits in
    ap (λ (l : ℕ). l * 8 - bits.result) c.bytes_for.ensures ∙ ap (λ (k : ℕ). bytes_for k * 8 - k) bits.ensures.0
