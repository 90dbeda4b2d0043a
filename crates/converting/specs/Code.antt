-- The two profiles that the code can convert between. No public call's promise speaks of these.
-- Assumes nothing.
use Rattle.std.specs.Prelude.{ℕ, ◌*◌, ◌^◌, ◌≤◌, ◌≡◌}
use Rattle.std.proofs.Common.{lit≤, mul-le-mul}
use Rattle.meaning.specs.Cases.{impossible}
use Rattle.layout.specs.declared.profile.Profile.{Profile}
use Rattle.layout.specs.Layout.{large, pocket}
use Rattle.files.specs.Tests.{FaultAbove}

-- A filter that both files can hold has at most 128 edges; the code has room for no more. What is written gets no 17: the fault colour, if
-- there is one, is above the colours that are read.
pub record Convertible (From To : Profile) : Type 0 where
  pub few : (n m : ℕ) → n ≤ 2 ^ From.states → n ≤ 2 ^ To.states → m ≤ 2 ^ From.labels → m ≤ 2 ^ To.labels → n * m ≤ 128
  pub above : FaultAbove From To

-- The two conversions.
pub to_large : Convertible pocket large
to_large = record {
  few = λ n m a b c d. mul-le-mul {n₂ = 16} {m₂ = 8} a c;
  above = λ c e. let is : 63 ≡ c = cc in rw (← is) (lit≤ tt);
}

pub to_pocket : Convertible large pocket
to_pocket = record {
  few = λ n m a b c d. mul-le-mul {n₂ = 16} {m₂ = 8} b d;
  above = λ c e. impossible cc;
}
