use Rattle.std.proofs.Common.{◌≡◌, ◌∙◌, ◌<◌, ℕ, length, refl, ap, arith, rules}
use Rattle.std.proofs.Math.ListN.{length-set}
use Rattle.std.proofs.lemmas.List.{get_or_default}
use Rattle.sets.specs.Sets.{holds}
use Rattle.table.specs.Table.{blank}
use Rattle.table.proofs.Laws.{giving_begun, giving_more, look_gave}
use Rattle.table.proofs.give.Goals as goal

pub loop-y-init : goal.loop-y-init
loop-y-init c =
    let all : c.into_iter-y-iterator.result.rest ≡ c.less.result = cc in
    record { giving = giving_begun _ _ _ (λ j. ap (λ (x : ℕ). holds x j) all ∙ c.less.ensures j); labels = refl }

pub loop-y-preserved : goal.loop-y-preserved
loop-y-preserved c =
    let step = c.in-Some.ensures.steps in
    record {
      giving = giving_more _ _ c.loop-y.own.targets c.loop-y.y-iterator.rest c.next.new.self.rest c.in-Some.y c.loop-y.invariant.giving
          (search rules) step.0 step.1.there step.2;
      labels = c.loop-y.invariant.labels;
    }

pub returns : goal.returns
returns c =
    let a = c.args in
    let inside : a.to < length a.rows.now = omega (arith, c.requires.rows.1.long) in
    let whence : a.from < length a.rows.now = omega (arith, c.requires.rows.0.long) in
    let both = λ (j : ℕ). rw c.loop-y.invariant.labels at (c.joined-own.ensures j) in
    record {
      edges = look_gave a.rows.now a.from a.to c.joined-own.result _ _ (get_or_default a.rows.now a.to _ blank inside)
          (get_or_default a.rows.now a.from _ blank whence) inside both c.loop-y.own.targets (rw c.in-None.ensures.steps.0 at c.loop-y.invariant.giving);
      rows = simp length-set;
    }
