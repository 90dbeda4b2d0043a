-- `bits::long_window` meets its contract. Assumes nothing.
use Prim.Native.Nat.{ℕ, ◌+◌, ◌*◌}
use mathlib.Core.Path.{◌≡◌, sym, ap, ◌∙◌}
use mathlib.Core.List.{List}
use native.Mathlib.Omega.{arith}
use Rattle.bits.specs.Bits.{Bytes, field}
use Rattle.bits.proofs.Reading.{field-split, field_window}
use borrow.Author.Rules.{rules}
use Rattle.bits.proofs.long_window.Goals as goal

-- eight bytes are four, and the four behind them
halves : (s : List ℕ) (q : ℕ) → field s (q * 8) 64 ≡ field s (q * 8) 32 * 4294967296 + field s ((q + 4) * 8) 32
halves s q = let next : q * 8 + 32 ≡ (q + 4) * 8 = omega arith in field-split s (q * 8) 32 32 ∙ ap (λ (at : ℕ). field s (q * 8) 32 * 4294967296 + field s at 32) next

pub returns-then-q-s : goal.returns-then-q-s
returns-then-q-s c =
    let a = c.args in
    let b : Bytes a.s.now = λ i. omega (arith, c.type_inv.s i) in
    let five : a.q + 4 + 1 ≡ a.q + 5 = omega arith in
    let six : a.q + 4 + 2 ≡ a.q + 6 = omega arith in
    let seven : a.q + 4 + 3 ≡ a.q + 7 = omega arith in
    let second = rw (five, six, seven) at (field_window a.s.now (a.q + 4) b) in (
      rw (c.from.ensures, c.from-then-q-s.ensures, c.from-then-q-s-2.ensures, c.from-then-q-s-3.ensures, c.from-then-q-s-4.ensures, c.from-then-q-s-5.ensures, c.from-then-q-s-6.ensures, c.from-then-q-s-7.ensures)
          (sym (halves a.s.now a.q ∙ rw (field_window a.s.now a.q b, second))),
      search rules,
    )

pub returns-else-q-s : goal.returns-else-q-s
returns-else-q-s c =
    let a = c.args in
    (rw (c.window.ensures.0, c.window-else-q-s.ensures.0) (sym (halves a.s.now a.q)), search rules)
