use mathlib.Core.Path.{sym}
use native.Mathlib.Omega.{arith}
use Rattle.bits.specs.Bits.{Bytes}
use Rattle.bits.proofs.Reading.{field_window}
use borrow.Author.Rules.{rules}
use Rattle.bits.proofs.window.Goals as goal

pub returns-then-q-s : goal.returns-then-q-s
returns-then-q-s c =
    let a = c.args in
    let b : Bytes a.s.now = λ i. omega (arith, c.type_inv.s i) in (
      rw (c.from.ensures, c.from-then-q-s.ensures, c.from-then-q-s-2.ensures, c.from-then-q-s-3.ensures)
          (sym (field_window a.s.now a.q b)),
      search rules,
    )
