use mathlib.Core.Path.{refl, ap}
use Prim.Native.Nat.{ℕ}
use native.Mathlib.Omega.{arith}
use Rattle.meaning.specs.Search.{tab, at}
use Rattle.numbering.proofs.Laws.{laid_more}
use Rattle.numbering.proofs.colours_by.Goals as goal

pub loop-k-init : goal.loop-k-init
unfolding tab
loop-k-init c = refl

pub loop-k-preserved : goal.loop-k-preserved
loop-k-preserved c =
    let loop = c.loop-k in
    let a = c.args in
    let hue : ℕ → ℕ = λ i. at a.colours.now (at a.order.now i) in
    laid_more hue a.hues.now loop.hues loop.k _ (omega (arith, c.requires.order_in_bounds.0)) loop.invariant (ap (at a.colours.now) c.from.ensures)
