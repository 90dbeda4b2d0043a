-- `sets::with` meets its contract. Assumes nothing.
use native.Mathlib.Nat.{one-mul}
use native.Mathlib.Omega.{arith}
use Prim.Native.Nat.{ℕ, ◌*◌, ◌%◌, ◌^◌}
use mathlib.Core.Path.{◌≡◌, ap, ◌∙◌}
use mathlib.Core.Bool.{Bool, ◌||◌}
use lib.Bits.{bit_or}
use lib.Dec.{eqb, lit<}
use lib.Pow.{shl_exact}
use Rattle.sets.specs.Sets.{holds}
use Rattle.sets.proofs.Laws.{holds_or, holds_one, or_swap}
use Rattle.sets.proofs.with.Goals as goal

pub returns : goal.returns
returns c j =
    let x = c.args.set in
    let k = c.args.k in
    let one : 1 * 2 ^ k % 2 ^ 64 ≡ 2 ^ k = shl_exact {a = 1} 1 k 64 (lit< tt) (omega arith) ∙ one-mul (2 ^ k) in
    ap (λ (y : ℕ). holds (bit_or x y) j) one ∙ holds_or x (2 ^ k) j ∙ ap (λ (b : Bool). holds x j || b) (holds_one k j) ∙ or_swap (holds x j) (eqb k j)
