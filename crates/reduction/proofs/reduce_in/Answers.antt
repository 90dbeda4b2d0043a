-- `reduction::reduce_in` meets its contract: the check's answer decides, then the rooms, and then the file is reduced. Assumes nothing.
use mathlib.Core.Path.{ap}
use native.Mathlib.Omega.{arith}
use lib.ListN.{length}
use Rattle.table.proofs.Laws.{length_marked}
use Rattle.loading.proofs.Laws.{marked_serves}
use Rattle.checking.proofs.Calls.{refused_is, read_is}
use Rattle.folding.specs.Folding.{rooms}
use Rattle.reduction.proofs.Calls.{reduce_refused, reduce-short, reduce_few, reduce_folded}
use Rattle.reduction.proofs.reduce_in.Goals as goal

pub load-checked-requires : goal.load-checked-requires
load-checked-requires c =
    let a = c.args in
    rw c.mark_missing.ensures (marked_serves a.p a.file.now a.rows.now c.requires)

pub returns-in_default : goal.returns-in_default
returns-in_default c =
    let a = c.args in
    reduce_refused a.p a.file.now (rooms a.answer.now a.classes.now) c.unwrap_err.result
    (refused_is a.p a.file.now _ c.load-checked.ensures.answer _ c.unwrap_err.ensures)

pub returns-then-answer-file : goal.returns-then-answer-file
returns-then-answer-file c =
    let a = c.args in
    rw c.into.ensures (reduce-short a.p a.file.now (rooms a.answer.now a.classes.now) _ (read_is _ _ _ c.load-checked.ensures.answer _ c.in-Ok.is).answer c.if-answer-file.true)

pub returns-then-classes-reading : goal.returns-then-classes-reading
returns-then-classes-reading c =
    let a = c.args in
    let is = read_is _ _ _ c.load-checked.ensures.answer _ c.in-Ok.is in
    rw c.into-then-classes-reading.ensures (reduce_few a.p a.file.now (rooms a.answer.now a.classes.now) _ is.answer c.if-answer-file.false (omega (arith, c.if-classes-reading.true, is.states_are)))

pub fold-requires : goal.fold-requires
fold-requires c =
    let a = c.args in
    let pre = c.requires in
    let loaded = c.load-checked.ensures in
    let is = read_is _ _ _ loaded.answer _ c.in-Ok.is in
    record {
      labels≤6 = pre.labels≤6;
      answer = is.answer;
      edges = loaded.edges _ is.answer;
      rows = record { long = omega (arith, is.states_are, pre.rows.long, loaded.rows, ap length c.mark_missing.ensures, length_marked a.rows.now) };
      answer_room = c.if-answer-file.false;
      class_room = c.if-classes-reading.false;
    }

pub returns : goal.returns
returns c =
    let a = c.args in
    let is = read_is _ _ _ c.load-checked.ensures.answer _ c.in-Ok.is in
    reduce_folded a.p a.file.now (rooms a.answer.now a.classes.now) _ is.answer c.if-answer-file.false (omega (arith, c.if-classes-reading.false, is.states_are)) c.fold.result _ c.fold.ensures
