-- `loading::load` meets its contract: what is read, tested and put at each edge keeps the invariant. Assumes nothing.
use mathlib.Core.Path.{refl, ap, sym, ◌∙◌}
use mathlib.Core.Option.{none}
use native.Mathlib.Omega.{arith}
use Rattle.edges.specs.Walk.{fault_of}
use Rattle.edges.proofs.Walks.{walking-faulty, walking-done}
use Rattle.files.specs.Tests.{head_refused, check_faulty}
use Rattle.leaving.proofs.Laws.{found_never}
use Rattle.checking.specs.Promise.{checked_outcome}
use Rattle.std.specs.Prelude.{Err}
use Rattle.std.proofs.lemmas.Result.{err_from_is_err_and}
use Rattle.checking.proofs.Calls.{is_headed, few_states, few_edges, all_passed}
use Rattle.loading.proofs.Laws.{filling_begun, filling_room, filling_next, filling_done, loaded_refused, loaded_told}
use Rattle.loading.proofs.load.Goals as goal

pub returns-in_err-r : goal.returns-in_err-r
returns-in_err-r c =
    let p = err_from_is_err_and c.from_residual.result c.from_residual.ensures.1 in
    loaded_refused _ _ _ _ _ _ (ap checked_outcome (p.1 ∙ ap Err p.2)) (head_refused c.args.p c.args.file.now _ (sym c.in_err-r.ensures)) refl

pub edges_begin-requires : goal.edges_begin-requires
edges_begin-requires c = few_states _ _ _ c.headed.ensures _ c.in_ok-r.was

pub loop-placed-init : goal.loop-placed-init
loop-placed-init c =
    let begun = c.each-placed-items.ensures in
    rw c.into_iter-placed-iterator.ensures.into_iter_gives
    (filling_begun _ _ _ _ _ _ _ c.requires.empty _ (begun.0, begun.1, begun.2 ∙ c.edges_begin.ensures.0, begun.3, begun.4))

pub loop-placed-init-derived : goal.loop-placed-init-derived
loop-placed-init-derived c =
    let begun = c.each-placed-items.ensures in
    let few = few_edges _ _ _ c.headed.ensures _ c.in_ok-r.was in
    rw c.into_iter-placed-iterator.ensures.into_iter_gives (omega (arith, begun.2, begun.3, begun.4, c.edges_begin.ensures.1, few), tt)

pub test-requires : goal.test-requires
test-requires c = c.in-Some.ensures.steps.2

pub overflow_cast-edge : goal.overflow_cast-edge
overflow_cast-edge c = rw c.bare-edge.ensures (omega (arith, c.in-Some.ensures.steps.2.target))

pub put-requires : goal.put-requires
put-requires c =
    let head = is_headed _ _ _ c.headed.ensures _ c.in_ok-r.was in
    filling_room _ _ _ _ _ _ _ _ _ _ c.loop-placed.invariant _ c.next.new.self c.in-Some.ensures.steps c.test.result c.test.ensures (ap fault_of c.in_ok-test.was)
    c.bare-edge.result c.bare-edge.ensures c.requires.labels≤6 (rw (← head.states_are) at c.requires.rows)

pub rank-last-requires : goal.rank-last-requires
rank-last-requires c = rw c.bare-edge.ensures c.in-Some.ensures.steps.2

pub loop-placed-preserved : goal.loop-placed-preserved
loop-placed-preserved c =
    filling_next _ _ _ _ _ _ _ _ _ _ c.loop-placed.invariant _ c.next.new.self c.in-Some.ensures.steps c.test.result c.test.ensures (ap fault_of c.in_ok-test.was)
    c.bare-edge.result c.bare-edge.ensures _ c.rank-last.ensures _ c.put.ensures

pub returns-in_err-test : goal.returns-in_err-test
returns-in_err-test c =
    let head = is_headed _ _ _ c.headed.ensures _ c.in_ok-r.was in
    let p = err_from_is_err_and c.from_residual-in_err-test.result c.from_residual-in_err-test.ensures.1 in
    loaded_refused _ _ _ _ _ _ (ap checked_outcome (p.1 ∙ ap Err p.2))
    (check_faulty _ _ _ head _ refl _
    (walking-faulty _ _ _ _ _ _ _ _ c.loop-placed.invariant.walking _ c.next.new.self c.in-Some.ensures.steps c.test.result c.test.ensures _
    (ap fault_of c.in_err-test.was)))
    c.loop-placed.invariant.rows

-- every edge has passed
pub first-requires : goal.first-requires
first-requires c =
    let head = is_headed _ _ _ c.headed.ensures _ c.in_ok-r.was in
    let clear = walking-done _ _ _ _ _ _ _ _ c.loop-placed.invariant.walking c.in-None.ensures.steps in
    (all_passed _ _ _ head clear, c.in-Some-fault.is)

pub returns-in_err-first : goal.returns-in_err-first
returns-in_err-first c =
    let head = is_headed _ _ _ c.headed.ensures _ c.in_ok-r.was in
    let clear = walking-done _ _ _ _ _ _ _ _ c.loop-placed.invariant.walking c.in-None.ensures.steps in
    let p = err_from_is_err_and c.from_residual-in_err-first.result c.from_residual-in_err-first.ensures.1 in
    loaded_told _ _ _ _ _ _ _ head (ap checked_outcome (p.1 ∙ ap Err p.2)) (sym (ap fault_of c.in_err-first.was) ∙ c.first.ensures) clear
    (filling_done _ _ _ _ _ _ _ _ _ _ c.loop-placed.invariant c.in-None.ensures.steps clear) c.loop-placed.invariant.rows

pub returns-in_ok-first : goal.returns-in_ok-first
returns-in_ok-first c =
    let head = is_headed _ _ _ c.headed.ensures _ c.in_ok-r.was in
    let clear = walking-done _ _ _ _ _ _ _ _ c.loop-placed.invariant.walking c.in-None.ensures.steps in
    loaded_told _ _ _ _ _ _ _ head refl (sym (ap fault_of c.in_ok-first.was) ∙ c.first.ensures) clear
    (filling_done _ _ _ _ _ _ _ _ _ _ c.loop-placed.invariant c.in-None.ensures.steps clear) c.loop-placed.invariant.rows

pub returns-in_default : goal.returns-in_default
returns-in_default c =
    let head = is_headed _ _ _ c.headed.ensures _ c.in_ok-r.was in
    let clear = walking-done _ _ _ _ _ _ _ _ c.loop-placed.invariant.walking c.in-None.ensures.steps in
    let passed = all_passed _ _ _ head clear in
    loaded_told _ _ _ _ none _ _ head refl (sym (found_never _ _ _ _ passed c.in_default.is)) clear
    (filling_done _ _ _ _ _ _ _ _ _ _ c.loop-placed.invariant c.in-None.ensures.steps clear) c.loop-placed.invariant.rows
