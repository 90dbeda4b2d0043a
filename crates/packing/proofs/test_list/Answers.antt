use mathlib.Core.Path.{◌≡◌, ap, sym, ◌∙◌}
use mathlib.Core.List.{List, ◌∷◌}
use mathlib.Core.Option.{Option, some}
use Prim.Native.Nat.{suc, ◌+◌, ◌*◌, ◌/◌}
use native.Mathlib.Numerals.{add-one}
use native.Mathlib.Omega.{arith}
use lib.ListN.{length, drop}
use Rattle.std.proofs.lemmas.Result.{err_from_is_err_and}
use Rattle.meaning.specs.Filter.{Edge}
use Rattle.layout.specs.declared.edge.Placed.{Placed}
use Rattle.layout.specs.Layout.{colour_of, threes}
use Rattle.layout.specs.Code.{edge_of}
use Rattle.layout.proofs.EdgeLists.{threes-cons, threes_end}
use Rattle.edges.specs.Walk.{Verdict}
use Rattle.edges.specs.Faults.{listed_at, listed_from, Fault, faulty, edge_fault, or_else, first_fault, first_leaving}
use Rattle.edges.specs.Walk.{fault_of}
use Rattle.edges.proofs.Tests.{ranked_edge, clear_ends, fault_here, fault_next, else_else, else_none}
use Rattle.edges.proofs.Leaving.{leaving_here, leaving_next}
use Rattle.packing.proofs.test_list.Goals as goal
use Rattle.packing.proofs.test_list.Goals.{After-edge_in-edge, After-test, Joined-leaves, then-leaves, else-leaves}

-- the edges left begin with the edge that was read
here : (c : After-edge_in-edge) →
    let i = c.loop-i.i in
    let edges = c.args.edges.now in
    listed_from i (threes (drop (3 * i) edges)) ≡ listed_at i (edge_of c.edge_in-edge.result) ∷ listed_from (i + 1) (threes (drop (3 * i + 3) edges))
unfolding listed_from
here c =
    let i = c.loop-i.i in
    let edges = c.args.edges.now in
    rw (threes-cons edges (3 * i) (omega arith), add-one i)
    (ap (λ (e : Edge). listed_at i e ∷ listed_from (suc i) (threes (drop (3 * i + 3) edges))) (sym c.edge_in-edge.ensures.0))

pub test-requires : goal.test-requires
test-requires c = rw c.listed.ensures c.edge_in-edge.ensures.1

-- what the test found is the edge's fault
verdict_is : (c : After-test) →
    let a = c.args in
    edge_fault (length a.colours.now) a.m c.loop-i.invariant.before (listed_at c.loop-i.i (edge_of c.edge_in-edge.result)) ≡ fault_of c.test.result
verdict_is c =
    let inv = c.loop-i.invariant in
    sym (rw c.listed.ensures at (c.test.ensures inv.before inv.ranked))

pub returns-in_err-test : goal.returns-in_err-test
returns-in_err-test c =
    let inv = c.loop-i.invariant in
    let p = err_from_is_err_and c.from_residual.result c.from_residual.ensures.1 in
    let g = ap fault_of c.in_err-test.was in
    let first = inv.left ∙ ap (first_fault _ _ inv.before) (here (goal.at.returns-in_err-test c).After-edge_in-edge) ∙ fault_here _ _ inv.before (listed_at _ (edge_of c.edge_in-edge.result)) _ _ (verdict_is (goal.at.returns-in_err-test c).After-test ∙ g) in
    rw (p.1, p.2, first)

pub leaves-requires : goal.leaves-requires
leaves-requires c =
    clear_ends _ _ _ (listed_at _ (edge_of c.edge_in-edge.result)) (verdict_is (goal.at.leaves-requires c).After-test ∙ ap fault_of c.in_ok-test.was)

-- the edge is remembered if it leaves the fault colour and no edge before it does
remembered : (c : Joined-leaves) (es : List Placed) →
    let loop = c.loop-i in
    let a = c.args in
    or_else (fault_of loop.found) (first_leaving (colour_of a.fault) a.colours.now (listed_at loop.i (edge_of c.edge_in-edge.result) ∷ es))
    ≡ or_else (fault_of c.if-leaves.found) (first_leaving (colour_of a.fault) a.colours.now es)
remembered c es =
    let loop = c.loop-i in
    let a = c.args in
    let fault = colour_of a.fault in
    let colours = a.colours.now in
    let edge = listed_at loop.i (edge_of c.edge_in-edge.result) in
    let was = fault_of loop.found in
    elim c.if-leaves.branch [
      | then-leaves w ↦ ap (or_else was) (leaving_here fault colours edge es (sym c.leaves.ensures ∙ w.if-leaves.true))
          ∙ else_else was (faulty 17 edge.source) (first_leaving fault colours es)
          ∙ ap (λ (f : Option Fault). or_else f (first_leaving fault colours es)) (sym (ap fault_of w.found-is ∙ w.or_leaving-found.ensures))
      | else-leaves w ↦ ap (or_else was) (leaving_next fault colours edge es (sym c.leaves.ensures ∙ w.if-leaves.false))
          ∙ ap (λ (v : Verdict). or_else (fault_of v) (first_leaving fault colours es)) (sym w.found-is)
    ]

pub loop-i-preserved : goal.loop-i-preserved
loop-i-preserved c =
    let loop = c.loop-i in
    let edge = edge_of c.edge_in-edge.result in
    let clear = verdict_is (goal.at.loop-i-preserved c).After-test ∙ ap fault_of c.in_ok-test.was in
    let next : 3 * (loop.i + 1) ≡ 3 * loop.i + 3 = omega arith in
    record {
      before = some edge;
      ranked = ranked_edge _ edge c.rank-last.ensures c.edge_in-edge.ensures.1.label;
      left = loop.invariant.left ∙ rw (here (goal.at.loop-i-preserved c).After-edge_in-edge, next) (fault_next _ _ loop.invariant.before (listed_at loop.i edge) _ clear);
      leaving = loop.invariant.leaving ∙ rw (here (goal.at.loop-i-preserved c).After-edge_in-edge, next) (remembered (goal.at.loop-i-preserved c).Joined-leaves _);
    }

pub returns : goal.returns
unfolding first_fault first_leaving listed_from
returns c =
    let loop = c.loop-i in
    let edges = c.args.edges.now in
    let i : loop.i ≡ length edges / 3 = omega (arith, c.loop-i-test.false) in
    sym (rw (loop.invariant.left, loop.invariant.leaving, threes_end edges (3 * loop.i) (omega arith)) (else_none (fault_of loop.found)))

pub edge_in-edge-requires : goal.edge_in-edge-requires
edge_in-edge-requires c = omega arith

pub rank-last-requires : goal.rank-last-requires
rank-last-requires c = c.edge_in-edge.ensures.1
