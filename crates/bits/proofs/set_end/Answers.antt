use mathlib.Core.Path.{sym}
use borrow.Author.Rules.{rules}
use Rattle.bits.specs.Bits.{Bytes}
use Rattle.bits.proofs.Writing.{put_window}
use Rattle.bits.proofs.set_end.Goals as goal

pub returns : goal.returns
returns c =
    let a = c.args in
    let b : Bytes a.s.now = λ i. search rules in
    rw (c.set_byte-4.ensures, c.set_byte-3.ensures, c.set_byte-2.ensures, c.set_byte.ensures)
    (sym (put_window a.s.now a.q a.y b c.requires.1))
