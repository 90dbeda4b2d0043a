-- Laws of the test of observations, and of the largest of them.
-- Assumes nothing.
use mathlib.Core.Path.{◌≡◌, refl, ap, ◌∙◌}
use mathlib.Core.Bool.{Bool, true, false, not}
use mathlib.Core.List.{List, [], ◌∷◌}
use mathlib.Core.Option.{Option, none, some}
use Prim.Native.Nat.{ℕ, zero, suc, ◌+◌, ◌≤◌, ◌<◌, max}
use native.Mathlib.Omega.{arith}
use lib.Dec.{leb, ltb}
use lib.ListN.{length, get_or}
use borrow.Author.Tests.{lt-leb, leb-false, lt-ltb, le-ltb, ltb-true, ltb-false}
use Rattle.meaning.specs.Pick.{pick}
use Rattle.meaning.specs.Trace.{later}
use Rattle.meaning.specs.Cases.{impossible, cases_of}
use Rattle.std.specs.List.{fold, position_or_len}
use Rattle.std.proofs.Common.{Some, None, cond, inl, inr}
use Rattle.std.proofs.lemmas.Bool.{cases_lt}
use mathlib.Core.Logic.{◌⊎◌}
use Rattle.observed.specs.Observed.{first_outside, larger, largest, found}

-- ---- an index further on

-- a place counted from i
abbrev pub from : ℕ → Option ℕ → Option ℕ
from i none = none
from i (some k) = some (i + k)

pub from-later : (i : ℕ) (o : Option ℕ) → from i (later o) ≡ from (i + 1) o
from-later i none = refl
from-later i (some k) = ap some (omega arith)

pub from_zero : (o : Option ℕ) → o ≡ from 0 o
from_zero none = refl
from_zero (some k) = ap some (omega arith)

-- ---- the labels' test

-- what the code's search says
pub outside_position : (m : ℕ) (ys : List ℕ)
    → found (cond (ltb (position_or_len (leb m) ys) (length ys)) (Some (position_or_len (leb m) ys)) None) ≡ first_outside m ys
unfolding first_outside
outside_position m [] = refl
outside_position m (y ∷ ys) = go (leb m y) (cases_lt p (length ys)) (outside_position m ys)
  where
    p : ℕ
    p = position_or_len (leb m) ys

    go : (b : Bool) → (p < length ys) ⊎ (length ys ≤ p) → found (cond (ltb p (length ys)) (Some p) None) ≡ first_outside m ys
        → found (cond (ltb (cond (not b) (1 + p) 0) (suc (length ys))) (Some (cond (not b) (1 + p) 0)) None) ≡ pick b (some 0) (later (first_outside m ys))
    go true _ _ = rw (lt-ltb 0 (suc (length ys)) (omega arith))
    go false (inl h) rest = rw (lt-ltb (1 + p) (suc (length ys)) (omega arith)) (ap some (omega arith) ∙ ap later (rw (lt-ltb p (length ys) h) at rest))
    go false (inr h) rest = rw (le-ltb (1 + p) (suc (length ys)) (omega arith)) (ap later (rw (le-ltb p (length ys) h) at rest))

-- observations that pass are all below m
pub all_inside : (m : ℕ) (ys : List ℕ) → 0 < m → first_outside m ys ≡ none → (i : ℕ) → get_or ys i 0 < m
unfolding first_outside
all_inside m [] z h i = z
all_inside m (y ∷ ys) z h i = go (leb m y) refl h i (all_inside m ys z)
  where
    none_later : (o : Option ℕ) → later o ≡ none → o ≡ none
    none_later none k = refl
    none_later (some j) k = impossible cc

    go : (b : Bool) → leb m y ≡ b → pick b (some 0) (later (first_outside m ys)) ≡ none → (i : ℕ) → (first_outside m ys ≡ none → (i : ℕ) → get_or ys i 0 < m) → get_or (y ∷ ys) i 0 < m
    go true e k i r = impossible cc
    go false e k zero r = leb-false m y e
    go false e k (suc i) r = r (none_later (first_outside m ys) k) i

-- ---- the largest

larger_most : (x y z : ℕ) → larger (larger x y) z ≡ larger x (larger y z)
larger_most x y z = cases_of (ltb x y)
    (λ p. cases_of (ltb y z) (λ q. rw (p, q, lt-ltb x z (omega (arith, ltb-true x y p, ltb-true y z q)))) (λ q. rw (p, q, p)))
    (λ p. cases_of (ltb y z) (λ q. rw (p, q)) (λ q. rw (p, q, p, le-ltb x z (omega (arith, ltb-false x y p, ltb-false y z q)))))

max_larger : (x y : ℕ) → max x y ≡ larger x y
max_larger x y = cases_of (ltb x y) (λ q. rw q (omega (arith, ltb-true x y q))) (λ q. rw q (omega (arith, ltb-false x y q)))

-- what the code's fold says
largest_from : (x : ℕ) (ys : List ℕ) → fold max x ys ≡ larger x (largest ys)
unfolding largest
largest_from x [] = rw (le-ltb x 0 (omega arith))
largest_from x (y ∷ ys) = largest_from (max x y) ys ∙ ap (λ (z : ℕ). larger z (largest ys)) (max_larger x y) ∙ larger_most x y (largest ys)

pub largest_fold : (ys : List ℕ) → fold max 0 ys ≡ largest ys
largest_fold ys = largest_from 0 ys ∙ cases_of (ltb 0 (largest ys)) (λ q. rw q) (λ q. rw q (omega (arith, ltb-false 0 (largest ys) q)))

-- where the largest is below m, no observation is m or more
pub largest-inside : (m : ℕ) (ys : List ℕ) → largest ys < m → first_outside m ys ≡ none
unfolding largest first_outside
largest-inside m [] h = refl
largest-inside m (y ∷ ys) h = cases_of (ltb y (largest ys))
    (λ q. let l : largest ys < m = rw q at h in rw (lt-leb m y (omega (arith, ltb-true y (largest ys) q)), largest-inside m ys l))
    (λ q. let l : y < m = rw q at h in rw (lt-leb m y l, largest-inside m ys (omega (arith, ltb-false y (largest ys) q))))
