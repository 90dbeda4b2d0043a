use mathlib.Core.Path.{sym}
use borrow.Author.Rules.{rules}
use Rattle.bits.specs.Bits.{Bytes}
use Rattle.bits.proofs.Writing.{put_window}
use Rattle.bits.proofs.set_window.Goals as goal

pub returns-then-q-s : goal.returns-then-q-s
returns-then-q-s c =
    let a = c.args in
    let b : Bytes a.s.now = λ i. search rules in
    sym (put_window a.s.now a.q a.y b c.requires.1)
