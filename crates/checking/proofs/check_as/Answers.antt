use mathlib.Core.Path.{refl, ap, sym, ◌∙◌}
use native.Mathlib.Omega.{arith}
use mathlib.Core.Option.{some}
use Rattle.layout.specs.declared.edge.Edge.{Edge}
use Rattle.layout.specs.Code.{edge_of}
use Rattle.edges.specs.Walk.{fault_of, rank_of}
use Rattle.edges.proofs.Walks.{walking-begun, walking_next, walking-faulty, walking-done}
use Rattle.files.specs.Tests.{head_refused, check_faultless, check_faulty}
use Rattle.leaving.proofs.Laws.{found_never}
use Rattle.std.proofs.lemmas.Result.{err_from_is_err_and}
use Rattle.checking.proofs.Calls.{is_headed, few_states, few_edges, all_passed}
use Rattle.checking.proofs.check_as.Goals as goal

pub returns-in_err-r : goal.returns-in_err-r
returns-in_err-r c =
    let p = err_from_is_err_and c.from_residual.result c.from_residual.ensures.1 in
    rw (p.1, p.2) (sym (head_refused c.args.p c.args.file.now _ (sym c.in_err-r.ensures)))

pub edges_begin-requires : goal.edges_begin-requires
edges_begin-requires c = few_states _ _ _ c.headed.ensures _ c.in_ok-r.was

pub loop-edge-init : goal.loop-edge-init
loop-edge-init c =
    let begun = c.each-edge-items.ensures in
    rw c.into_iter-edge-iterator.ensures.into_iter_gives
    (walking-begun _ _ _ _ _ _ _ (begun.0, begun.1, begun.2 ∙ c.edges_begin.ensures.0, begun.3, begun.4))

pub loop-edge-init-derived : goal.loop-edge-init-derived
loop-edge-init-derived c =
    let begun = c.each-edge-items.ensures in
    let few = few_edges _ _ _ c.headed.ensures _ c.in_ok-r.was in
    rw c.into_iter-edge-iterator.ensures.into_iter_gives (omega (arith, begun.2, begun.3, begun.4, c.edges_begin.ensures.1, few), tt)

pub test-requires : goal.test-requires
test-requires c = c.in-Some.ensures.steps.2

pub loop-edge-preserved : goal.loop-edge-preserved
loop-edge-preserved c =
    walking_next _ _ _ _ _ _ _ _ c.loop-edge.invariant _ _ c.in-Some.ensures.steps c.test.result c.test.ensures (ap fault_of c.in_ok-test.was) _
    (c.rank-last.ensures ∙ ap (λ (e : Edge). rank_of (some (edge_of e))) c.bare.ensures)

pub returns-in_err-test : goal.returns-in_err-test
returns-in_err-test c =
    let head = is_headed _ _ _ c.headed.ensures _ c.in_ok-r.was in
    let p = err_from_is_err_and c.from_residual-in_err-test.result c.from_residual-in_err-test.ensures.1 in
    rw (p.1, p.2)
    (sym (check_faulty _ _ _ head _ refl _
    (walking-faulty _ _ _ _ _ _ _ _ c.loop-edge.invariant _ c.next.new.self c.in-Some.ensures.steps c.test.result c.test.ensures _
    (ap fault_of c.in_err-test.was))))

-- every edge has passed
pub first-requires : goal.first-requires
first-requires c =
    let head = is_headed _ _ _ c.headed.ensures _ c.in_ok-r.was in
    let done = walking-done _ _ _ _ _ _ _ _ c.loop-edge.invariant c.in-None.ensures.steps in
    (all_passed _ _ _ head done, c.in-Some-fault.is)

pub returns-in_err-first : goal.returns-in_err-first
returns-in_err-first c =
    let head = is_headed _ _ _ c.headed.ensures _ c.in_ok-r.was in
    let done = walking-done _ _ _ _ _ _ _ _ c.loop-edge.invariant c.in-None.ensures.steps in
    let p = err_from_is_err_and c.from_residual-in_err-first.result c.from_residual-in_err-first.ensures.1 in
    rw (p.1, p.2) (sym (check_faultless _ _ _ head _ refl done _ (sym c.first.ensures ∙ ap fault_of c.in_err-first.was)))

pub returns-in_ok-first : goal.returns-in_ok-first
returns-in_ok-first c =
    let head = is_headed _ _ _ c.headed.ensures _ c.in_ok-r.was in
    let done = walking-done _ _ _ _ _ _ _ _ c.loop-edge.invariant c.in-None.ensures.steps in
    sym (check_faultless _ _ _ head _ refl done _ (sym c.first.ensures ∙ ap fault_of c.in_ok-first.was))

pub returns-in_default : goal.returns-in_default
returns-in_default c =
    let head = is_headed _ _ _ c.headed.ensures _ c.in_ok-r.was in
    let done = walking-done _ _ _ _ _ _ _ _ c.loop-edge.invariant c.in-None.ensures.steps in
    let passed = all_passed _ _ _ head done in
    sym (check_faultless _ _ _ head _ refl done _ (found_never _ _ _ _ passed c.in_default.is))
