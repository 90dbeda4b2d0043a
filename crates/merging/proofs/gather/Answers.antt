use mathlib.Core.Path.{sym, ◌∙◌, subst}
use native.Mathlib.Omega.{arith}
use lib.ListN.{take}
use Rattle.table.specs.Table.{Gave}
use Rattle.merging.proofs.Gathering.{Gathering, gathering_own, gathering_none, gathering_given, gathering_ends}
use Rattle.merging.proofs.gather.Goals as goal
use Rattle.merging.proofs.gather.Goals.{then-c-t+then-c-ne65535, then-c-t+else-c-ne65535, else-c-t}

pub loop-t-preserved : goal.loop-t-preserved
loop-t-preserved c =
    let loop = c.loop-t in
    let taken = c.loop-t-test.true in
    let is = c.from-c.ensures in
    let T = loop.rows in
    elim c.if-c-t.branch [
      | then-c-t+then-c-ne65535 v ↦ rw v.rows-is
          (gathering_given _ T _ _ c.requires.names.0 _ loop.invariant taken _ (λ e. v.if-c-t.true (is ∙ e)) (λ e. v.if-c-ne65535.true (is ∙ e))
          (subst (Gave T _ loop.t) is v.give.ensures))
      | then-c-t+else-c-ne65535 v ↦ rw v.rows-is (gathering_none _ T _ _ c.requires.names.0 _ loop.invariant taken (sym is ∙ v.if-c-ne65535.false))
      | else-c-t v ↦ rw v.rows-is (gathering_own _ T _ _ c.requires.names.0 _ loop.invariant taken (sym is ∙ v.if-c-t.false))
    ]

pub returns : goal.returns
returns c =
    let loop = c.loop-t in
    let a = c.args in
    let T₀ = a.rows.now in
    let P = take a.n a.names.now in
    gathering_ends T₀ loop.rows P a.n c.requires.by_index (subst (Gathering T₀ P loop.rows) (omega arith) loop.invariant)
