use mathlib.Core.Path.{◌≡◌, sym, ap, ◌∙◌}
use mathlib.Core.List.{List}
use Prim.Native.Nat.{ℕ, ◌+◌, ◌*◌}
use native.Mathlib.Omega.{arith}
use Rattle.meaning.specs.Cases.{impossible}
use Rattle.meaning.specs.Filter.{Edge}
use Rattle.layout.specs.declared.profile.Profile.{Profile}
use Rattle.layout.specs.declared.edge.Placed.{Placed}
use Rattle.layout.specs.Layout.{edge_bits, edges_begin}
use Rattle.layout.specs.Contents.{values, placed_at, edge_at}
use Rattle.leaving.specs.Leaving.{nth_edge}
use Rattle.leaving.proofs.Laws.{few_states, ends, going_other, going_on, going_leaves}
use Rattle.leaving.proofs.edges_of.Goals as goal

pub edge_at-edge-requires : goal.edge_at-edge-requires
edge_at-edge-requires c =
    let passed = c.requires.0 in
    (few_states _ _ _ _ passed, omega (arith, passed.few, c.loop-i-test.true))

-- the edge that was read, and where its source stands
read : (P : Profile) (file : List ℕ) (n i : ℕ) (d : Placed) → d ≡ placed_at P file (edges_begin P n + edge_bits P * i) →
    values d ≡ nth_edge P file n i
unfolding edge_at
read P file n i d is = ap values is

place_is : (P : Profile) (file : List ℕ) (n i : ℕ) (d : Placed) → d ≡ placed_at P file (edges_begin P n + edge_bits P * i) →
    d.source.place ≡ edges_begin P n + edge_bits P * i
unfolding placed_at
place_is P file n i d is = ap (λ (d : Placed). d.source.place) is

pub returns-then-source-state : goal.returns-then-source-state
returns-then-source-state c =
    let pre = c.requires in
    let edge = read c.args.p c.args.file.now c.args.n _ _ c.edge_at-edge.ensures in
    record {
      none_leaves = λ clear _.
          going_other _ _ _ _ pre.0 _ pre.1 _ _ c.loop-i.invariant c.loop-i-test.true (λ is. c.if-source-state.true (ap (λ (d : Edge). d.source) edge ∙ is)) clear;
      one_leaves = λ clear f z. impossible cc;
    }

pub colour-requires : goal.colour-requires
colour-requires c =
    let passed = c.requires.0 in
    let edge = read c.args.p c.args.file.now c.args.n _ _ c.edge_at-edge.ensures in
    let low = (ends _ _ _ _ passed c.loop-i.i c.loop-i-test.true).1 in
    omega (arith, few_states _ _ _ _ passed, ap (λ (d : Edge). d.target) edge)

pub returns-then-colour : goal.returns-then-colour
returns-then-colour c =
    let pre = c.requires in
    let edge = read c.args.p c.args.file.now c.args.n _ _ c.edge_at-edge.ensures in
    record {
      none_leaves = λ clear z. let both = sym c.leaving_at.ensures ∙ z in impossible cc;
      one_leaves = λ clear f z.
          going_leaves _ _ _ _ pre.0 _ pre.1 _ _ c.loop-i.invariant c.loop-i-test.true (sym (ap (λ (d : Edge). d.source) edge) ∙ c.if-source-state.false) pre.2
          (λ is. c.if-colour.true (c.colour.ensures ∙ rw (ap (λ (d : Edge). d.target) edge) is)) clear
          ∙ sym (rw (place_is c.args.p c.args.file.now c.args.n _ _ c.edge_at-edge.ensures) at c.leaving_at.ensures) ∙ z;
    }

pub loop-i-preserved : goal.loop-i-preserved
loop-i-preserved c =
    let pre = c.requires in
    let edge = read c.args.p c.args.file.now c.args.n _ _ c.edge_at-edge.ensures in
    going_on _ _ _ _ pre.0 _ pre.1 _ _ c.loop-i.invariant c.loop-i-test.true (sym (ap (λ (d : Edge). d.source) edge) ∙ c.if-source-state.false) pre.2
    (rw (← ap (λ (d : Edge). d.target) edge) (sym c.colour.ensures ∙ c.if-colour.false))
