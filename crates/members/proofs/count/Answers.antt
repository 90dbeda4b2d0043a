use mathlib.Core.Path.{◌≡◌, refl, sym, ap, ◌∙◌}
use Prim.Native.Nat.{ℕ, ◌+◌}
use native.Mathlib.Omega.{arith}
use borrow.Author.Tests.{eq-eqb, ne_eqb}
use Rattle.meaning.specs.SearchLaws.{count_hit, count_miss}
use Rattle.meaning.specs.Search.{count}
use Rattle.meaning.specs.Classes.{named, classes}
use Rattle.members.proofs.count.Goals as goal
use Rattle.members.proofs.count.Goals.{then-names-s, else-names-s}

pub loop-s-init : goal.loop-s-init
unfolding count
loop-s-init c = (refl, omega arith)

pub loop-s-preserved : goal.loop-s-preserved
loop-s-preserved c = let loop = c.loop-s in
    let names = c.args.names.now in
    elim c.if-names-s.branch [
      | then-names-s w ↦ (w.k-is ∙ ap (λ (k : ℕ). k + 1) loop.invariant.0 ∙ sym (count_hit (named names) loop.s (eq-eqb _ _ w.if-names-s.true)), omega arith)
      | else-names-s w ↦ (w.k-is ∙ loop.invariant.0 ∙ sym (count_miss (named names) loop.s (ne_eqb _ _ w.if-names-s.false)), omega arith)
    ]

pub returns : goal.returns
unfolding classes
returns c = let loop = c.loop-s in
    let a = c.args in
    let all : loop.s ≡ a.n = omega arith in
    (loop.invariant.0 ∙ ap (count (named a.names.now)) all, omega arith)
