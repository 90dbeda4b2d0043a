-- The third and the fourth of the numbers before the colours, behind the first two.
-- Assumes nothing.
use mathlib.Core.List.{List, [], ◌∷◌}
use Prim.Native.Nat.{ℕ, ◌-◌}
use native.Mathlib.Omega.{arith}
use Rattle.pen.specs.declared.Pen.{Pen}
use Rattle.pen.specs.Runs.{total, inked, place_of, Fit, Pushable, Drawn}
use Rattle.layout.specs.declared.profile.Profile.{Profile}
use Rattle.layout.specs.Code.{Heading}

module _ {P : Profile} {n m start e : ℕ} (h : Heading P n m start e) {s s₁ : List ℕ} {sizes : Pen}
    (two : Drawn s 0 (P.states ∷ P.labels ∷ []) ((n - 1) ∷ (m - 1) ∷ []) s₁ sizes) where
  pub start_next : Pushable sizes P.start start
  unfolding Fit total
  start_next = record {
    ready = two.ready;
    narrow = omega (arith, P.usable.start≤);
    small = h.fit.1.1.0;
    near = omega (arith, two.place, P.usable.states≤, P.usable.labels≤, P.usable.start≤);
  }

  pub edges_next : {s₂ : List ℕ} {begun : Pen} → Drawn (inked s₁ sizes) (place_of sizes) (P.start ∷ []) (start ∷ []) s₂ begun → Pushable begun P.edges e
  unfolding Fit total
  edges_next third = record {
    ready = third.ready;
    narrow = omega (arith, P.usable.edges≤);
    small = h.fit.1.1.1.0;
    near = omega (arith, third.place, two.place, P.usable.states≤, P.usable.labels≤, P.usable.start≤, P.usable.edges≤);
  }
