use Rattle.bits.specs.Bits.{Bytes}
use Rattle.bits.proofs.Reading.{field_window}
use native.Mathlib.Omega.{arith}
use mathlib.Core.Path.{sym}
use borrow.Author.Rules.{rules}
use Rattle.bits.proofs.end_window.Goals as goal

pub returns : goal.returns
returns c =
    let a = c.args in
    let b : Bytes a.s.now = λ i. omega (arith, c.type_inv.s i) in (
      rw (
        c.byte_at.ensures.0,
        c.byte_at-2.ensures.0,
        c.byte_at-3.ensures.0,
        c.byte_at-4.ensures.0,
      )
          (sym (field_window a.s.now a.q b)),
      search rules,
    )
