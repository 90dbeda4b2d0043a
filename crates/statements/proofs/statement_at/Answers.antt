-- `statements::statement_at` meets its contract: the number and what stands behind it decide as in the definition. Assumes nothing.
use mathlib.Core.Path.{◌≡◌, ap, sym, ◌∙◌}
use mathlib.Core.Bool.{false}
use Prim.Native.Nat.{◌≤◌}
use native.Mathlib.Omega.{arith}
use lib.Dec.{eqb}
use lib.ListN.{length}
use Rattle.std.proofs.lemmas.Result.{err_from_is_err_and}
use Rattle.meaning.specs.Pick.{pick}
use Rattle.spelling.specs.declared.Number.{Number}
use Rattle.spelling.specs.Spelling.{number_at}
use Rattle.spelling.specs.Numbers.{number-inside}
use Rattle.spelling.proofs.Digits.{no_number, a_number}
use Rattle.drawing.specs.Reader.{state_from, edge_from, statement_at}
use Rattle.statements.proofs.Targets.{by_target, no_target, target-inside, outside_of}
use Rattle.statements.proofs.statement_at.Goals as goal
use Rattle.statements.proofs.statement_at.Goals.{After-begins_state-state, After-number_at-first}

end_is : (c : After-number_at-first) → c.number_at-first.result.end ≡ (number_at c.args.text.now c.args.at).end
end_is c = ap (λ (n : Number). n.end) c.number_at-first.ensures.0

-- the number ends inside the text
there : (c : After-number_at-first) → c.number_at-first.result.end ≤ length c.args.text.now
there c = omega (arith, end_is c, number-inside c.args.text.now c.args.at c.requires)

-- and has a digit
some : (c : After-number_at-first) → let a = c.args in eqb (number_at a.text.now a.at).end a.at ≡ false
some c = a_number _ _ c.digit_at.ensures.0 c.if-digit_at-gt9.false

pub returns-then-digit_at-gt9 : goal.returns-then-digit_at-gt9
unfolding statement_at
returns-then-digit_at-gt9 c = rw (no_number _ _ c.digit_at.ensures.0 c.if-digit_at-gt9.true) c.closing_at.ensures

-- what stands behind the number decides
statement_is : (c : After-begins_state-state) → let a = c.args in
    let n = c.number_at-first.result in
    eqb (number_at a.text.now a.at).end a.at ≡ false →
    statement_at a.text.now a.at a.next
    ≡ pick c.begins_state-state.result (state_from a.text.now n.end) (edge_from a.text.now n.end n.value)
unfolding statement_at
statement_is c digit =
    rw (digit, ← c.number_at-first.ensures.0, ← c.begins_state-state.ensures)

pub begins_state-state-requires : goal.begins_state-state-requires
begins_state-state-requires c = there c

pub target_at-requires : goal.target_at-requires
target_at-requires c = there (goal.at.target_at-requires c).After-number_at-first

pub label_at-requires : goal.label_at-requires
label_at-requires c =
    target-inside c.args.text.now c.number_at-first.result.end c.begins_state-state.result _ (there (goal.at.label_at-requires c).After-number_at-first)
    (sym c.in_ok-target.ensures)

pub returns-in_err-target : goal.returns-in_err-target
returns-in_err-target c =
    let n = c.number_at-first.result in
    let p = err_from_is_err_and c.from_residual.result c.from_residual.ensures.1 in
    rw (p.1, p.2)
    (sym (statement_is (goal.at.returns-in_err-target c).After-begins_state-state (some (goal.at.returns-in_err-target c).After-number_at-first)
    ∙ no_target c.args.text.now n.end n.value c.begins_state-state.result _ (sym c.in_err-target.ensures)))

pub returns-in_err-label : goal.returns-in_err-label
returns-in_err-label c =
    let n = c.number_at-first.result in
    let p = err_from_is_err_and c.from_residual-in_err-label.result c.from_residual-in_err-label.ensures.1 in
    rw (p.1, p.2)
    (sym (statement_is (goal.at.returns-in_err-label c).After-begins_state-state (some (goal.at.returns-in_err-label c).After-number_at-first)
    ∙ by_target c.args.text.now n.end n.value c.begins_state-state.result _ (sym c.in_ok-target.ensures)
    ∙ rw (← c.in_err-label.ensures) (outside_of c.begins_state-state.result n.value c.in_ok-target.target.value _)))

pub returns : goal.returns
returns c =
    let n = c.number_at-first.result in
    c.statement_of.ensures
    ∙ sym (statement_is (goal.at.returns c).After-begins_state-state (some (goal.at.returns c).After-number_at-first)
    ∙ by_target c.args.text.now n.end n.value c.begins_state-state.result _ (sym c.in_ok-target.ensures)
    ∙ rw (← c.in_ok-label.ensures))
