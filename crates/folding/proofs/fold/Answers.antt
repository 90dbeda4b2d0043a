-- `folding::fold` meets its contract. Assumes nothing.
use mathlib.Core.Path.{◌≡◌, ap, ◌∙◌}
use mathlib.Core.List.{List}
use Prim.Native.Nat.{ℕ}
use borrow.Author.Rules.{rules}
use lib.ListN.{take}
use Rattle.bits.specs.Bits.{Bytes}
use Rattle.meaning.specs.Filter.{Filter}
use Rattle.meaning.specs.Classes.{Classes}
use Rattle.meaning.specs.Reduced.{reduce}
use Rattle.refusals.specs.Refusals.{laid}
use Rattle.layout.specs.Layout.{written}
use Rattle.layout.specs.Contents.{filter_in}
use Rattle.files.proofs.Accepted.{reading_is}
use Rattle.folding.proofs.Folding.{few_states, start_state, reduce_is, within, filter_is, foldable, list_is, counts_are}
use Rattle.folding.proofs.fold.Goals as goal
use Rattle.folding.proofs.fold.Goals.{After-settled-ending}

-- the names at the end are the filter's
ended : (c : After-settled-ending) → take c.args.reading.states c.settled-ending.result.last.names ≡ (reduce (filter_in c.args.p c.args.file.now)).names
ended c =
    let a = c.args in
    let pre = c.requires in
    let hues = c.colours_of-colours in
    c.settled-ending.ensures.names
    ∙ ap (λ (Q : Classes). Q.names)
    (reduce_is a.p pre.labels≤6 a.file.now a.reading (reading_is a.p a.file.now a.reading pre.answer) a.rows.now hues.result pre.edges hues.ensures.colours)

pub colours_of-colours-requires : goal.colours_of-colours-requires
colours_of-colours-requires c =
    let a = c.args in
    (reading_is a.p a.file.now a.reading c.requires.answer).states_are

pub settled-ending-requires : goal.settled-ending-requires
settled-ending-requires c =
    let a = c.args in
    let pre = c.requires in
    let is = reading_is a.p a.file.now a.reading pre.answer in
    let hues = c.colours_of-colours in (
      record {
        few = few_states a.p pre.labels≤6 a.file.now a.reading is;
        rows = pre.rows;
        inside = λ s y t e. (within a.p pre.labels≤6 a.file.now a.reading is a.rows.now hues.result pre.edges hues.ensures.colours s y t e).2;
        colours_long = hues.ensures.long;
      },
      start_state a.p pre.labels≤6 a.file.now a.reading is,
    )

pub merged-made-requires : goal.merged-made-requires
merged-made-requires c =
    let a = c.args in
    let pre = c.requires in
    let is = reading_is a.p a.file.now a.reading pre.answer in
    let hues = c.colours_of-colours in
    let bytes : Bytes a.file.now = search rules in
    foldable a.p pre.labels≤6 a.file.now a.reading is a.rows.now hues.result pre.edges hues.ensures.colours _
    (ended (goal.at.merged-made-requires c).After-settled-ending) _ _ bytes
    pre.rows hues.ensures.long c.settled-ending.ensures.long pre.answer_room pre.class_room

pub returns : goal.returns
returns c =
    let a = c.args in
    let pre = c.requires in
    let T = a.rows.now in
    let hues = c.colours_of-colours in
    let made = c.merged-made.ensures in
    let settled = c.settled-ending.ensures in
    let s = a.file.now in
    let is = reading_is a.p s a.reading pre.answer in
    let end = ended (goal.at.returns c).After-settled-ending in
    record {
      counts = counts_are a.p pre.labels≤6 s a.reading is T hues.result pre.edges hues.ensures.colours _ end _ _ _ _ made.states settled.colours
          (c.from.ensures ∙ settled.rounds) made.length;
      answer = made.answer ∙ ap (λ (F : Filter). laid (written a.p F) a.answer.now) (filter_is a.p pre.labels≤6 s a.reading is T hues.result pre.edges hues.ensures.colours _ end);
      classes = made.list ∙ ap (λ (l : List ℕ). laid l a.classes.now) (list_is a.p pre.labels≤6 s a.reading is T hues.result pre.edges hues.ensures.colours _ end);
    }
