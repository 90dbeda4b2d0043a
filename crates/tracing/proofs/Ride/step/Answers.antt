-- `tracing::Ride::step` meets its contract. Assumes nothing.
use Rattle.std.proofs.Common.{◌≡◌, ℕ, Bool, ◌+◌, get_or, sym, ap, ◌∙◌, arith}
use Rattle.std.proofs.lemmas.List.{get_or_default}
use Rattle.sets.specs.Sets.{holds}
use Rattle.table.specs.declared.Row.{Row}
use Rattle.table.specs.Table.{Table, Rows, row, blank}
use Rattle.table.proofs.Laws.{look_some, look_none}
use Rattle.tracing.proofs.Ride.step.Goals as goal

-- the set that the code asks is that of the state's row
asked : (T : Table) (s y : ℕ) (d : Row) (b : Bool) → Rows T (s + 1) → b ≡ holds (get_or T s d).labels y → holds (row T s).labels y ≡ b
asked T s y d b has is = ap (λ (r : Row). holds r.labels y) (get_or_default T s blank d (omega (arith, has.long))) ∙ sym is

pub returns-then-holds : goal.returns-then-holds
returns-then-holds c =
    let a = c.args in
    rw (look_some a.rows.now a.self.state a.label c.requires.0 (asked _ _ _ _ _ c.requires.2 c.holds.ensures ∙ c.if-holds.true), ← c.target.ensures.0)

pub returns : goal.returns
returns c =
    let a = c.args in
    rw (look_none a.rows.now a.self.state a.label (asked _ _ _ _ _ c.requires.2 c.holds.ensures ∙ c.if-holds.false))
