-- `rounds::settled` meets its contract. Assumes nothing.
use Prim.Native.Nat.{ℕ}
use mathlib.Core.Path.{sym, ap, subst, ◌∙◌}
use mathlib.Core.Bool.{Bool}
use mathlib.Core.List.{List}
use Rattle.meaning.specs.Reach.{among}
use Rattle.meaning.proofs.ReachLaws.{Bounded}
use Rattle.meaning.specs.Classes.{groups}
use Rattle.table.specs.Table.{look}
use Rattle.reach.proofs.Laws.{look_bounded}
use Rattle.rounds.specs.Rounds.{Somebody, task_of, Settled}
use Rattle.rounds.proofs.Run.{listed-reached, start_listed}
use Rattle.rounds.proofs.settled.Goals as goal
use Rattle.rounds.proofs.settled.Goals.{Start}

bounded : (c : Start) → let a = c.args in Bounded (look a.rows.now) 64 a.n a.start
bounded c = let a = c.args in look_bounded a.rows.now a.n a.start c.requires.1 c.requires.0.inside

pub settle-requires : goal.settle-requires
settle-requires c = (
  c.requires.0,
  subst (λ (xs : List ℕ). Somebody xs c.args.n) (sym c.live-count.ensures.0.front)
      (start_listed _ _ _ _ (bounded (goal.at.settle-requires c).Start)),
  c.live-count.ensures.1,
)

pub returns : goal.returns
returns c =
    let a = c.args in
    subst (λ (p : ℕ → Bool). Settled c.settle.result (task_of p groups a.rows.now a.colours.now a.n))
    (ap among c.live-count.ensures.0.front ∙ listed-reached _ _ _ _ (bounded (goal.at.returns c).Start)) c.settle.ensures
