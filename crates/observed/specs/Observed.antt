-- Observations that are no label of the filter (document 01, "Numbers of refusal", 13).
-- Assumes nothing.
use Rattle.std.specs.Prelude.{ℕ, List, [], ◌∷◌, leb, ltb}
use Rattle.std.specs.Prelude as rust
use Rattle.std.proofs.Math.Option.{Option, none, some}
use Rattle.meaning.specs.Pick.{pick}
use Rattle.meaning.specs.Trace.{later}

-- The index of the first observation that is m or more.
unfoldable pub first_outside : ℕ → List ℕ → Option ℕ
first_outside m [] = none
first_outside m (y ∷ ys) = pick (leb m y) (some 0) (later (first_outside m ys))

abbrev pub larger : ℕ → ℕ → ℕ
larger x y = pick (ltb x y) y x

-- The largest of a list, 0 of none.
unfoldable pub largest : List ℕ → ℕ
largest [] = 0
largest (y ∷ ys) = larger y (largest ys)

-- What the code's answer stands for.
abbrev pub found : rust.Option ℕ → Option ℕ
found rust.None = none
found (rust.Some i) = some i
