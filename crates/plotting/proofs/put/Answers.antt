-- `plotting::put` meets its contract: four pieces, one behind another. Assumes nothing.
use mathlib.Core.Path.{◌≡◌, ap}
use mathlib.Core.List.{List, ◌++◌}
use Prim.Native.Nat.{ℕ}
use native.Mathlib.Omega.{arith}
use lib.ListN.{length, take}
use Rattle.text.proofs.Laws.{same, both}
use Rattle.layout.specs.declared.profile.Profile.{Profile}
use Rattle.layout.specs.Layout.{edges_begin}
use Rattle.layout.specs.Contents.{colours_in, edges_from, edges_in}
use Rattle.drawing.specs.Profile.{opening, closing, state_lines, edge_lines}
use Rattle.loading.proofs.Laws.{colours_taken}
use Rattle.plotting.specs.Plot.{Plottable}
use Rattle.plotting.proofs.Laws.{edges_are, text_pieces, text_length, few}
use Rattle.plotting.proofs.put.Goals as goal

-- each piece as the code has it is a piece of the text
module _ (p : Profile) (file colours : List ℕ) (n e : ℕ) (ok : Plottable p file colours n e) where
  states_are : state_lines 0 (take n colours) ≡ state_lines 0 (colours_in p file)
  states_are = ap (state_lines 0) (colours_taken p file p.usable colours n ok.states ok.coloured)

  lines_are : (begin : ℕ) → begin ≡ edges_begin p n → edge_lines (edges_from p file begin e) ≡ edge_lines (edges_in p file)
  lines_are begin h = ap edge_lines (edges_are p file n e begin ok.states ok.edges h)

pub put-states-requires : goal.put-states-requires
put-states-requires c =
    omega (arith, text_length c.args.p c.args.file.now, c.requires.1)

pub put_states-edges-requires : goal.put_states-edges-requires
put_states-edges-requires c =
    let a = c.args in
    let n≤256 = (few a.p a.file.now c.requires.0).0 in
    let states = states_are a.p a.file.now a.colours.now a.n a.e c.requires.0 in (
      omega (arith, n≤256, c.requires.0.coloured.long),
      n≤256,
      omega (arith, c.put-states.auto.room, c.put-states.ensures.1, ap length states, text_length a.p a.file.now, c.requires.1),
    )

pub edges_begin-requires : goal.edges_begin-requires
edges_begin-requires c =
    (few c.args.p c.args.file.now c.requires.0).0

pub put_edges-closing-requires : goal.put_edges-closing-requires
put_edges-closing-requires c =
    let a = c.args in
    let states = states_are a.p a.file.now a.colours.now a.n a.e c.requires.0 in
    let lines = lines_are a.p a.file.now a.colours.now a.n a.e c.requires.0 c.edges_begin.result c.edges_begin.ensures.0 in (
      c.edges_begin.ensures.1,
      (few a.p a.file.now c.requires.0).1,
      omega (
        arith,
        c.put_states-edges.auto.room,
        c.put_states-edges.ensures.1,
        ap length states,
        c.put-states.auto.room,
        c.put-states.ensures.1,
        ap length lines,
        text_length a.p a.file.now,
        c.requires.1,
      ),
    )

pub put-requires : goal.put-requires
put-requires c =
    let a = c.args in
    let states = states_are a.p a.file.now a.colours.now a.n a.e c.requires.0 in
    let lines = lines_are a.p a.file.now a.colours.now a.n a.e c.requires.0 c.edges_begin.result c.edges_begin.ensures.0 in
    omega (
      arith,
      c.put_edges-closing.auto.room,
      c.put_edges-closing.ensures.1,
      ap length lines,
      c.put_states-edges.auto.room,
      c.put_states-edges.ensures.1,
      ap length states,
      c.put-states.auto.room,
      c.put-states.ensures.1,
      text_length a.p a.file.now,
      c.requires.1,
    )

pub returns : goal.returns
returns c =
    let a = c.args in
    let file = a.file.now in
    let room = a.room.now in
    let first = state_lines 0 (colours_in a.p file) in
    let second = edge_lines (edges_in a.p file) in
    let states = states_are a.p file a.colours.now a.n a.e c.requires.0 in
    let lines = lines_are a.p file a.colours.now a.n a.e c.requires.0 c.edges_begin.result c.edges_begin.ensures.0 in
    let s = same _ c.put-states.result states c.put_states-edges.ensures.0 c.put_states-edges.ensures.1 in
    let e = same _ c.put_states-edges.result lines c.put_edges-closing.ensures.0 c.put_edges-closing.ensures.1 in
    let two = both room 0 opening first (omega arith) c.put-states.ensures.0 c.put-states.ensures.1 s.0 s.1 in
    let three = both room 0 (opening ++ first) second (omega arith) two.0 two.1 e.0 e.1 in
    let four = both room 0 ((opening ++ first) ++ second) closing (omega arith) three.0 three.1 c.put.ensures.0 c.put.ensures.1 in
    (same room 0 (text_pieces a.p file) four.0 four.1).0
