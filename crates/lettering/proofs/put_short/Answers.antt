-- `lettering::put_short` meets its contract: the stores are the number's glyphs. Assumes nothing.
use mathlib.Core.Path.{◌≡◌}
use Prim.Native.Nat.{ℕ, suc, ◌+◌, ◌/◌, ◌%◌}
use native.Mathlib.Numerals.{add-one}
use native.Mathlib.Omega.{arith}
use lib.ListN.{set, length-set}
use Rattle.lettering.proofs.Laws.{decimal_one, decimal_two, decimal_three, stored}
use Rattle.lettering.proofs.put_short.Goals as goal

two-on : (n : ℕ) → n + 2 ≡ suc (suc n)
two-on n = omega arith

pub returns-then-n-lt10 : goal.returns-then-n-lt10
returns-then-n-lt10 c =
    let a = c.args in
    stored a.room.now a.at a.n _ (decimal_one a.n c.if-n-lt10.true) (omega arith)

pub bounds-room-at-then-n-lt100-2 : goal.bounds-room-at-then-n-lt100-2
bounds-room-at-then-n-lt100-2 c = let a = c.args in omega (arith, length-set a.room.now a.at (48 + a.n / 10))

pub returns-then-n-lt100 : goal.returns-then-n-lt100
returns-then-n-lt100 c =
    let a = c.args in
    rw (add-one a.at) (stored a.room.now a.at a.n _ (decimal_two a.n c.if-n-lt10.false c.if-n-lt100.true) (omega arith))

pub bounds-room-at-3 : goal.bounds-room-at-3
bounds-room-at-3 c = let a = c.args in omega (arith, length-set a.room.now a.at (48 + a.n / 100))

pub bounds-room-at-4 : goal.bounds-room-at-4
bounds-room-at-4 c =
    let a = c.args in
    let first = set a.room.now a.at (48 + a.n / 100) in
    omega (arith, length-set a.room.now a.at (48 + a.n / 100), length-set first (a.at + 1) (48 + a.n / 10 % 10))

pub returns : goal.returns
returns c =
    let a = c.args in
    rw (add-one a.at, two-on a.at) (stored a.room.now a.at a.n _ (decimal_three a.n c.if-n-lt100.false c.requires.0) (omega arith))
