-- A test of what a call gave is that of what it is promised to be.
-- Assumes nothing.
use mathlib.Core.Path.{◌≡◌, sym, ◌∙◌}
use mathlib.Core.Bool.{Bool, true, false}
use Prim.Native.Nat.{ℕ, ◌≤◌}
use native.Mathlib.Omega.{arith}
use borrow.Author.Tests.{eqb-true, eqb-false, lt-ltb}
use lib.Dec.{eqb, ltb}

-- A word that was looked for, of which so many bytes stand there.
module _ {told : Bool} {bytes length : ℕ} (e : told ≡ eqb bytes length) where
  pub missing : bytes ≤ length → told ≡ false → ltb bytes length ≡ true
  missing most h = lt-ltb bytes length (omega (arith, most, eqb-false bytes length (sym e ∙ h)))

  pub found : told ≡ true → bytes ≡ length
  found h = eqb-true bytes length (sym e ∙ h)
