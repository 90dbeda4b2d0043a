-- `surveying::Testing::with_edge` meets its contract. Assumes nothing.
use mathlib.Core.Path.{◌≡◌, sym, ◌∙◌}
use mathlib.Core.Bool.{true}
use Rattle.surveying.specs.Surveys.{bytes}
use Rattle.surveying.proofs.Faults.{judged_faulty, judged_outside, judged_tested}
use Rattle.surveying.proofs.Testing.with_edge.Goals as goal
use Rattle.surveying.proofs.Testing.with_edge.Goals.{Else-not-bytes}

pub returns-then-is_err : goal.returns-then-is_err
returns-then-is_err c = judged_faulty _ _ _ _ _ (sym c.is_err.ensures.value ∙ c.if-is_err.true)

pub returns-then-not-bytes : goal.returns-then-not-bytes
returns-then-not-bytes c =
    judged_outside _ _ _ _ _ _ (sym c.is_err.ensures.value ∙ c.if-is_err.false) (sym c.bytes.ensures ∙ c.if-not-bytes.true) c.outside.ensures

-- past the test
are-bytes : (c : Else-not-bytes) → bytes c.args.edge ≡ true
are-bytes c = sym c.bytes.ensures ∙ c.if-not-bytes.false

pub returns : goal.returns
returns c =
    judged_tested _ _ _ _ _ _ (sym c.is_err.ensures.value ∙ c.if-is_err.false) (are-bytes (goal.at.returns c).Else-not-bytes) (rw c.listed.ensures at c.test.ensures)
    c.rank.ensures c.with_leaving.ensures
