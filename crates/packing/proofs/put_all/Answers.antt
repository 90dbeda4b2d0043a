use mathlib.Core.Path.{◌≡◌, ap, sym, subst, ◌∙◌}
use mathlib.Core.List.{List, ◌∷◌, []}
use Prim.Native.Nat.{ℕ, ◌+◌, ◌*◌}
use native.Mathlib.Omega.{arith}
use lib.ListN.{length}
use lib.Seq.{take-length}
use Rattle.pen.specs.Runs.{Fit, inked, place_of, Drawn}
use Rattle.pen.proofs.Runs.{fit_length}
use Rattle.pen.proofs.Pens.{drawn-behind, drawn-length}
use Rattle.meaning.specs.Filter.{Edge}
use Rattle.layout.specs.declared.profile.Profile.{Profile}
use Rattle.layout.specs.Layout.{edge_widths, flat}
use Rattle.layout.proofs.Bounds.{edges_high}
use Rattle.layout.proofs.EdgeLists.{length_widths, total_edges, widths_append, fit_edge, take_three}
use Rattle.packing.proofs.put_all.Goals as goal

-- there are three bytes for each edge
whole_list : (P : Profile) (e : ℕ) (edges : List ℕ) → Fit (edge_widths P e) edges → length edges ≡ 3 * e
whole_list P e edges fit = sym (fit_length (edge_widths P e) edges fit) ∙ length_widths P e

pub loop-i-init : goal.loop-i-init
unfolding edge_widths
loop-i-init c = c.begin-pen.ensures

pub edge_in-requires : goal.edge_in-requires
edge_in-requires c = omega (arith, whole_list c.args.p c.args.e c.args.edges.now c.requires.fit)

pub push-pen-requires : goal.push-pen-requires
push-pen-requires c =
    let loop = c.loop-i in
    let a = c.args in
    let pre = c.requires in
    let is = c.edge_in.ensures.0 in
    let f = fit_edge a.p a.e a.edges.now loop.i pre.fit c.loop-i-test.true in
    record {
      ready = loop.invariant.ready;
      near = omega (arith, loop.invariant.place, total_edges a.p loop.i, pre.begin, edges_high a.p a.p.usable loop.i (omega (arith, pre.few)));
      source = rw (ap (λ (e : Edge). e.source) is) f.source;
      label = rw (ap (λ (e : Edge). e.label) is) f.label;
      target = rw (ap (λ (e : Edge). e.target) is) f.target;
    }

pub loop-i-preserved : goal.loop-i-preserved
unfolding flat
loop-i-preserved c =
    let loop = c.loop-i in
    let a = c.args in
    let edges = a.edges.now in
    let i = loop.i in
    let next : 3 * (i + 1) ≡ 3 * i + 3 = omega arith in
    let drawn =
    subst (λ (e : Edge). Drawn (inked loop.part loop.pen) (place_of loop.pen) (edge_widths a.p 1) (flat (e ∷ [])) c.push-pen.new.room c.push-pen.result)
    c.edge_in.ensures.0 c.push-pen.ensures in
    rw (next, take_three edges (3 * i) (omega (arith, whole_list c.args.p c.args.e c.args.edges.now c.requires.fit)), widths_append a.p i 1) (drawn-behind loop.invariant drawn)

pub shape_of-part : goal.shape_of-part
shape_of-part c = c.finish.auto.s ∙ drawn-length c.loop-i.invariant

pub returns : goal.returns
returns c =
    let loop = c.loop-i in
    let edges = c.args.edges.now in
    let all : loop.i ≡ c.args.e = omega arith in
    let three : 3 * c.args.e ≡ length edges = sym (whole_list c.args.p c.args.e c.args.edges.now c.requires.fit) in
    c.finish.ensures ∙ rw (all, three, take-length edges) at loop.invariant.ink
