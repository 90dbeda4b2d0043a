use Rattle.std.proofs.Common.{◌≡◌, ◌^◌, ◌<◌, Ok, length, sym, ap, ◌∙◌, arith}
use Rattle.std.proofs.lemmas.Result.{err_from_is_err_and}
use Rattle.drawing.specs.declared.Statement.TheVariants as statement
use Rattle.drawing.specs.Reader.{statement_at}
use Rattle.surveying.proofs.Steps.{countable, state_on, edge_on, step_state, step_edge, closed_is, outside_is, first_of-all}
use Rattle.surveying.proofs.statements.Goals as goal
use Rattle.surveying.proofs.statements.Goals.{At-loop-colour, In-State, In-Edge}

pub loop-colour-init : goal.loop-colour-init
loop-colour-init c = rw (c.begin-s.ensures, c.begin-testing.ensures) (first_of-all _ _ c.requires)

short : (c : At-loop-colour) → length c.args.text.now < 2 ^ 63
short c = omega arith

-- what was read
state_read : (c : In-State) → let loop = c.loop-colour in
    statement_at c.args.text.now loop.at loop.s.next ≡ Ok (statement.State c.in-State.colour c.in-State.end)
state_read c = sym (c.in_ok-colour.ensures) ∙ ap Ok c.in-State.is

edge_read : (c : In-Edge) → let loop = c.loop-colour in
    statement_at c.args.text.now loop.at loop.s.next ≡ Ok (statement.Edge c.in-Edge.edge c.in-Edge.end)
edge_read c = sym (c.in_ok-colour.ensures) ∙ ap Ok c.in-Edge.is

pub with_state-s-requires : goal.with_state-s-requires
with_state-s-requires c =
    let loop = c.loop-colour in
    let at = goal.at.with_state-s-requires c in
    countable _ _ _ loop.s _ loop.testing loop.invariant (short at.At-loop-colour) _ (state_on _ _ _ loop.s _ loop.testing loop.invariant _ _ (state_read at.In-State)).2

pub loop-colour-smaller-in-State : goal.loop-colour-smaller-in-State
loop-colour-smaller-in-State c =
    let loop = c.loop-colour in
    let on = state_on _ _ _ loop.s _ loop.testing loop.invariant _ _ (state_read (goal.at.loop-colour-smaller-in-State c).In-State) in
    omega (arith, on.0, on.1)

pub loop-colour-preserved-in-State : goal.loop-colour-preserved-in-State
loop-colour-preserved-in-State c =
    let loop = c.loop-colour in
    rw c.with_state-s.ensures (step_state _ _ _ loop.s _ loop.testing loop.invariant _ _ _ (state_read (goal.at.loop-colour-preserved-in-State c).In-State) c.mark.ensures)

pub with_edge-s-requires : goal.with_edge-s-requires
with_edge-s-requires c =
    let loop = c.loop-colour in
    let at = goal.at.with_edge-s-requires c in
    countable _ _ _ loop.s _ loop.testing loop.invariant (short at.At-loop-colour) _ (edge_on _ _ _ loop.s _ loop.testing loop.invariant _ _ (edge_read at.In-Edge)).2

pub loop-colour-smaller : goal.loop-colour-smaller
loop-colour-smaller c =
    let loop = c.loop-colour in
    let on = edge_on _ _ _ loop.s _ loop.testing loop.invariant _ _ (edge_read (goal.at.loop-colour-smaller c).In-Edge) in
    omega (arith, on.0, on.1)

pub loop-colour-preserved : goal.loop-colour-preserved
loop-colour-preserved c =
    let loop = c.loop-colour in
    rw c.with_edge-s.ensures (step_edge _ _ _ loop.s _ loop.testing loop.invariant _ _ _ (edge_read (goal.at.loop-colour-preserved c).In-Edge) c.with_edge-testing.ensures)

pub returns-in-Closing : goal.returns-in-Closing
returns-in-Closing c =
    let loop = c.loop-colour in
    c.closed.ensures ∙ closed_is _ _ _ loop.s _ loop.testing loop.invariant _ (sym (c.in_ok-colour.ensures) ∙ ap Ok c.in-Closing.is)

pub returns-in_err-colour : goal.returns-in_err-colour
returns-in_err-colour c =
    let loop = c.loop-colour in
    let p = err_from_is_err_and c.from_residual.result c.from_residual.ensures.1 in
    rw (p.1, p.2) (sym (outside_is _ _ _ loop.s _ loop.testing loop.invariant _ (sym c.in_err-colour.ensures)))
