use mathlib.Core.Path.{◌≡◌, refl, ap, ◌∙◌}
use mathlib.Core.List.{List}
use Prim.Native.Nat.{ℕ, ◌+◌, ◌*◌, ◌^◌, ◌<◌}
use native.Mathlib.Omega.{arith}
use lib.ListN.{length, length-set}
use Rattle.layout.specs.declared.profile.Profile.{Profile}
use Rattle.layout.specs.Layout.{edge_bits, flat}
use Rattle.layout.specs.Contents.{placed_at, placed_from, edges_from}
use Rattle.layout.specs.declared.edge.Edge.{Edge}
use Rattle.layout.specs.declared.edge.Placed.{Placed}
use Rattle.layout.specs.Code.{edge_of, bare, Small}
use Rattle.layout.proofs.Walks.{along_begun, along_read, along_next, along_done}
use Rattle.layout.proofs.EdgeLists.{length-flat, length_edges, edges_more, bare_read, store_edge}
use Rattle.layout.specs.declared.edge.Edges.{Edges}
use Rattle.unpacking.specs.Promise.{Readable}
use Rattle.unpacking.proofs.get_edges.Invariants.{Got}
use Rattle.unpacking.proofs.get_edges.Goals as goal

-- the room for the edge that was read
room : (P : Profile) (file : List ℕ) (at e : ℕ) (found out : List ℕ) (walk : Edges) (o : ℕ) → Readable P at e found → Got P file at e found out walk o →
    walk.index < walk.end → o + 2 < length out
room P file at e found out walk o pre got less = omega (arith, got.behind, got.long, got.along.ends, less, pre.holds)

-- the edge that was read is of bytes
bytes : (placed : Placed) (edge : Edge) → Small (bare placed) → edge ≡ bare placed → Small edge
bytes placed edge small is = rw is small

pub loop-placed-init : goal.loop-placed-init
unfolding flat edges_from placed_from
loop-placed-init c =
    let begun = c.each-placed-items.ensures in
    rw c.into_iter-placed-iterator.ensures.into_iter_gives
    (record {
      along = along_begun _ _ _ _ _ begun;
      behind = omega (arith, begun.3);
      long = refl;
      made = rw begun.3;
    })

pub loop-placed-init-derived : goal.loop-placed-init-derived
loop-placed-init-derived c =
    let begun = c.each-placed-items.ensures in
    rw c.into_iter-placed-iterator.ensures.into_iter_gives (omega (arith, begun.2, begun.3, begun.4, c.requires.begin, c.requires.few), tt)

pub overflow_cast-out : goal.overflow_cast-out
overflow_cast-out c = omega (arith, bytes c.in-Some.placed c.bare-edge.result c.in-Some.ensures.steps.2 c.bare-edge.ensures)

pub overflow_add-out : goal.overflow_add-out
overflow_add-out c = omega (arith, c.loop-placed.invariant.behind, c.loop-placed.invariant.along.inside, c.requires.few)

pub bounds-out-o : goal.bounds-out-o
bounds-out-o c = omega (arith, room _ _ _ _ _ _ _ _ c.requires c.loop-placed.invariant c.in-Some.ensures.steps.0)

pub overflow_cast-out-in-loop-placed : goal.overflow_cast-out-in-loop-placed
overflow_cast-out-in-loop-placed c = omega (arith, bytes c.in-Some.placed c.bare-edge.result c.in-Some.ensures.steps.2 c.bare-edge.ensures)

pub bounds-out-o-in-loop-placed : goal.bounds-out-o-in-loop-placed
bounds-out-o-in-loop-placed c = simp length-set (omega (arith, room _ _ _ _ _ _ _ _ c.requires c.loop-placed.invariant c.in-Some.ensures.steps.0))

pub overflow_cast-out-in-loop-placed-2 : goal.overflow_cast-out-in-loop-placed-2
overflow_cast-out-in-loop-placed-2 c = omega (arith, bytes c.in-Some.placed c.bare-edge.result c.in-Some.ensures.steps.2 c.bare-edge.ensures)

pub bounds-out-o-in-loop-placed-2 : goal.bounds-out-o-in-loop-placed-2
bounds-out-o-in-loop-placed-2 c = simp length-set (room _ _ _ _ _ _ _ _ c.requires c.loop-placed.invariant c.in-Some.ensures.steps.0)

pub loop-placed-preserved : goal.loop-placed-preserved
loop-placed-preserved c =
    let loop = c.loop-placed in
    let inv = loop.invariant in
    let i = loop.placed-iterator.index in
    let a = c.args in
    let p = a.p in
    let file = a.file.now in
    let step = c.in-Some.ensures.steps in
    let es = edges_from p file a.at i in
    let made : length (flat es) ≡ 3 * i = length-flat es ∙ ap (λ k. 3 * k) (length_edges p file a.at i) in
    let three : 3 * (i + 1) ≡ 3 * i + 3 = omega arith in
    let along = along_next _ _ _ _ _ inv.along _ c.next.new.self step in
    let is = bare_read p file loop.placed-iterator.place _ c.bare-edge.result (along_read _ _ _ _ _ inv.along _ c.next.new.self step) c.bare-edge.ensures in
    record {
      along = along;
      behind = omega (arith, inv.behind, step.6);
      long = simp length-set inv.long;
      made = rw (
        step.6,
        three,
        inv.made,
        inv.behind,
        store_edge es (edge_of c.bare-edge.result) a.out.now (3 * i) made (omega (arith, room _ _ _ _ _ _ _ _ c.requires inv step.0, inv.long, inv.behind)),
        is,
        inv.along.placed,
        edges_more p file a.at i,
      );
    }

pub shape_of-out : goal.shape_of-out
shape_of-out c = c.loop-placed.invariant.long

pub returns : goal.returns
returns c =
    let inv = c.loop-placed.invariant in
    rw (along_done _ _ _ _ _ inv.along c.in-None.ensures.steps) at inv.made
