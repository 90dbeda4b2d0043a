-- `plotting::extent_of` meets its contract. Assumes nothing.
use mathlib.Core.Path.{ap, ◌∙◌}
use mathlib.Core.List.{List}
use Prim.Native.Nat.{ℕ}
use native.Mathlib.Omega.{arith}
use lib.ListN.{length}
use Rattle.meaning.specs.Filter.{Edge}
use Rattle.drawing.specs.Profile.{state_lines, edge_lines, labels_of}
use Rattle.loading.proofs.Laws.{colours_taken}
use Rattle.plotting.proofs.Laws.{edges_are, text_length, extent_is, few}
use Rattle.plotting.proofs.extent_of.Goals as goal

pub edges_begin-requires : goal.edges_begin-requires
edges_begin-requires c =
    (few c.args.p c.args.file.now c.requires).0

pub edges_extent-edges-requires : goal.edges_extent-edges-requires
edges_extent-edges-requires c =
    (c.edges_begin.ensures.1, (few c.args.p c.args.file.now c.requires).1)

pub states_length-requires : goal.states_length-requires
states_length-requires c =
    let n≤256 = (few c.args.p c.args.file.now c.requires).0 in
    (omega (arith, n≤256, c.requires.coloured.long), n≤256)

pub overflow_add-result : goal.overflow_add-result
overflow_add-result c =
    omega (arith, c.states_length.ensures.1, (few c.args.p c.args.file.now c.requires).0)

-- the whole length is small
pub overflow_add-result-3 : goal.overflow_add-result-3
overflow_add-result-3 c =
    let most = few c.args.p c.args.file.now c.requires in
    omega (arith, c.states_length.ensures.1, c.edges_extent-edges.ensures.2, most.0, most.1)

pub returns : goal.returns
returns c =
    let p = c.args.p in
    let file = c.args.file.now in
    let colours = colours_taken p file p.usable c.args.colours.now c.args.n c.requires.states c.requires.coloured in
    let listed = edges_are p file c.args.n c.args.e c.edges_begin.result c.requires.states c.requires.edges c.edges_begin.ensures.0 in
    let first = c.states_length.ensures.0 ∙ ap (λ (cs : List ℕ). length (state_lines 0 cs)) colours in
    let second = c.edges_extent-edges.ensures.0 ∙ ap (λ (es : List Edge). length (edge_lines es)) listed in
    extent_is p file (omega (arith, text_length p file, first, second)) (c.edges_extent-edges.ensures.1 ∙ ap labels_of listed)

pub overflow_add-result-2 : goal.overflow_add-result-2
overflow_add-result-2 c = omega (arith, overflow_add-result-3 c)
