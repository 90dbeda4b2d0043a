-- What the batch writes of a call's outcome. Assumes nothing.
use Rattle.std.specs.Prelude.{ℕ, zero, suc, ◌≡◌, List, [], ◌∷◌}
use Rattle.refusals.specs.Refusals.{Outcome, number_in, place_in, values_of}

-- n counts: the values, and zeros behind them.
abbrev pub counted : ℕ → List ℕ → List ℕ
counted zero vs = []
counted (suc n) [] = 0 ∷ counted n []
counted (suc n) (v ∷ vs) = v ∷ counted n vs

-- The refusal's number or 0, its place, and four counts, of a call with k values.
pub record Written (k : ℕ) (o : Outcome) (number place : ℕ) (counts : List ℕ) : Type 0 where
  pub number_is : number ≡ number_in o
  pub place_is : place ≡ place_in o
  pub counts_are : counts ≡ counted 4 (values_of k o)
