use Prim.Native.Nat.{◌<◌}
use native.Mathlib.Omega.{arith}
use mathlib.Core.Path.{◌≡◌, sym, ◌∙◌}
use mathlib.Core.Bool.{false}
use Rattle.meaning.specs.Classes.{parted}
use Rattle.conflicts.specs.Conflicts.{clash}
use Rattle.members.proofs.Laws.{heads}
use Rattle.pairs.proofs.Laws.{found-parted, parted_own, tried_more, tried_here, tried_all}
use Rattle.pairs.proofs.first_parted.Goals as goal
use Rattle.pairs.proofs.first_parted.Goals.{After-from-c, then-classes-c+else-is_some, else-classes-c}

-- the state that is looked at is one of the n
state-low : (c : After-from-c) → c.from-c.result < c.args.classes.n
state-low c = omega (arith, c.from-c.ensures, c.requires.1.rises.below _ c.loop-state-test.true)

pub pair_in-requires : goal.pair_in-requires
pair_in-requires c =
    heads _ _ c.requires.0 _ (state-low (goal.at.pair_in-requires c).After-from-c) c.if-classes-c.true

pub returns-then-is_some : goal.returns-then-is_some
returns-then-is_some c =
    let pre = c.requires in
    let here = c.loop-state-test.true in
    let hit = found-parted _ _ _ _ _ c.pair_in.ensures ∙ sym c.is_some.ensures ∙ c.if-is_some.true in
    let first = tried_here _ _ _ _ pre.0 pre.1 _ c.loop-state.invariant here (rw (← c.from-c.ensures) hit) in
    (sym first ∙ sym c.from-c.ensures, state-low (goal.at.returns-then-is_some c).After-from-c)

pub loop-state-preserved : goal.loop-state-preserved
loop-state-preserved c =
    let a = c.args.classes in
    let pre = c.requires in
    let calm : parted a.n (clash a.rows.now a.names.now) a.names.now c.from-c.result ≡ false =
    elim c.if-classes-c.branch [
      | then-classes-c+else-is_some v ↦ found-parted _ _ _ _ _ v.pair_in.ensures ∙ sym v.is_some.ensures ∙ v.if-is_some.false
      | else-classes-c v ↦ parted_own _ _ _ pre.0 _ (state-low (goal.at.loop-state-preserved c).After-from-c) v.if-classes-c.false
    ] in
    tried_more a.n _ a.names.now c.args.live.now _ c.from-c.result c.loop-state.invariant c.from-c.ensures calm

pub returns : goal.returns
returns c =
    let pre = c.requires in
    sym (tried_all _ _ _ _ pre.0 pre.1 _ c.loop-state.invariant c.loop-state-test.false)
