-- The labels of a pair that are tried so far, and the labels of a table. Assumes nothing.
use Prim.Native.Nat.{ℕ, ◌≤◌, ◌<◌}
use mathlib.Core.Path.{◌≡◌, refl, sym, ap, ◌∙◌, fun_ext}
use mathlib.Core.Bool.{Bool, true, false, not, ◌&&◌}
use mathlib.Core.List.{List}
use mathlib.Core.Option.{Option, none, some}
use native.Mathlib.Decide.{dec_lt, ℕ_discrete}
use native.Mathlib.Omega.{arith}
use lib.Dec.{eqb}
use borrow.Author.Tests.{eq-eqb, ne_eqb}
use Rattle.meaning.specs.Cases.{cases_of, no_both, and_left, and_right}
use Rattle.meaning.specs.Search.{any, at}
use Rattle.meaning.specs.SearchLaws.{any_intro, any_elim, any_none}
use Rattle.meaning.specs.Reduced.{apart, conflict}
use Rattle.sets.specs.Sets.{holds, Lowest}
use Rattle.sets.proofs.Laws.{holds_none}
use Rattle.table.specs.Table.{Table, row, look}
use Rattle.table.proofs.Laws.{look_some, look_none}
use Rattle.conflicts.specs.Conflicts.{clash}

-- ---- tests

pub and-false : (x : Bool) → (x && false) ≡ false
and-false true = refl
and-false false = refl

pub any_empty : (p : ℕ → Bool) (n : ℕ) → ((i : ℕ) → i < n → p i ≡ false) → any p n ≡ false
any_empty p n h = cases_of (any p n) (λ q. let w = any_elim p n q in no_both w.2 (h w.0 w.1)) (λ q. q)

-- ---- one label

apart_none : (P : List ℕ) (o : Option ℕ) → apart P o none ≡ false
unfolding apart
apart_none P none = refl
apart_none P (some k) = refl

module _ (T : Table) (P : List ℕ) (a b : ℕ) where
  -- the target of a state at a label
  abbrev target : ℕ → ℕ → ℕ
  target s y = at (row T s).targets y

  -- a label that is not in both sets parts nothing
  unshared : (y : ℕ) → holds (row T a).labels y && holds (row T b).labels y ≡ false
      → apart P (look T a y) (look T b y) ≡ false
  unfolding apart
  unshared y e = cases_of (holds (row T a).labels y)
      (λ q. ap (apart P (look T a y)) (look_none T b y (sym (rw q) ∙ e)) ∙ apart_none P (look T a y))
      (λ q. rw (look_none T a y q))

  both : (y : ℕ) → y < 64 → holds (row T a).labels y ≡ true → holds (row T b).labels y ≡ true
      → apart P (look T a y) (look T b y) ≡ not (eqb (at P (target a y)) (at P (target b y)))
  unfolding apart
  both y l p q = rw (look_some T a y l p, look_some T b y l q)

  -- ---- the labels tried so far

  -- `rest` is still to be tried: the two states have each of its labels, and no other label parts them
  pub record Calm (rest : ℕ) : Type 0 where
    pub left : (y : ℕ) → holds rest y ≡ true → holds (row T a).labels y ≡ true
    pub right : (y : ℕ) → holds rest y ≡ true → holds (row T b).labels y ≡ true
    pub tried : (y : ℕ) → holds rest y ≡ false → apart P (look T a y) (look T b y) ≡ false

  pub calm_begun : (rest : ℕ) → ((y : ℕ) → holds rest y ≡ (holds (row T a).labels y && holds (row T b).labels y)) → Calm rest
  calm_begun rest is = record {
    left = λ y q. and_left _ (holds (row T b).labels y) (sym (is y) ∙ q);
    right = λ y q. and_right (holds (row T a).labels y) _ (sym (is y) ∙ q);
    tried = λ y q. unshared y (sym (is y) ∙ q);
  }

  -- label k is tried, which leads the two states to u and v
  module _ (rest k u v : ℕ) (calm : Calm rest) (small : k < 64) (lowest : Lowest rest k) (to-u : u ≡ target a k) (to-v : v ≡ target b k) where
    here : apart P (look T a k) (look T b k) ≡ not (eqb (at P u) (at P v))
    here = let there = lowest.there in rw (to-u, to-v) (both k small (calm.left k there) (calm.right k there))

    pub calm_more : (rest' : ℕ) → ((y : ℕ) → holds rest' y ≡ (holds rest y && not (eqb k y))) → at P u ≡ at P v → Calm rest'
    calm_more rest' is same = record {
      left = λ y q. calm.left y (kept y q);
      right = λ y q. calm.right y (kept y q);
      tried = λ y q. go y q (ℕ_discrete k y);
    }
      where
        kept : (y : ℕ) → holds rest' y ≡ true → holds rest y ≡ true
        kept y q = and_left _ (not (eqb k y)) (sym (is y) ∙ q)

        go : (y : ℕ) → holds rest' y ≡ false → Dec (k ≡ y) → apart P (look T a y) (look T b y) ≡ false
        go y q (yes e) = rw (← e) (here ∙ rw (eq-eqb _ _ same))
        go y q (no e) = calm.tried y
            (cases_of (holds rest y) (λ p. no_both {b = holds rest' y} (is y ∙ rw (p, ne_eqb k y e)) q) (λ p. p))

    pub calm_broken : (at P u ≡ at P v → ⊥) → clash T P a b ≡ true
    unfolding conflict
    calm_broken differ = any_intro (λ y. apart P (look T a y) (look T b y)) 64 k small (here ∙ rw (ne_eqb _ _ differ))

  pub calm_all : (rest : ℕ) → Calm rest → rest ≡ 0 → clash T P a b ≡ false
  unfolding conflict
  calm_all rest calm e = any_empty _ 64 (λ y l. calm.tried y (rw e (holds_none y)))

-- ---- how many labels there are

-- where no label of a table is m or more, the first m labels are enough
pub clash_labels : (T : Table) (m : ℕ) → m ≤ 64 → ((s y t : ℕ) → look T s y ≡ some t → y < m) → clash T ≡ conflict (look T) m
unfolding conflict
clash_labels T m few below = fun_ext λ P. fun_ext λ a. fun_ext λ b. cases_of (any (λ y. apart P (look T a y) (look T b y)) m)
    (λ q. let w = any_elim _ m q in any_intro _ 64 w.0 (omega (arith, w.1)) w.2 ∙ sym q)
    (λ q. any_empty _ 64 (λ y l. go P a b q y (dec_lt y m)) ∙ sym q)
  where
    none_there : (s y : ℕ) → (y < m → ⊥) → look T s y ≡ none
    none_there s y h = go (look T s y) refl
      where
        go : (o : Option ℕ) → look T s y ≡ o → look T s y ≡ none
        go none e = e
        go (some t) e = absurd (h (below s y t e))

    go : (P : List ℕ) (a b : ℕ) → any (λ y. apart P (look T a y) (look T b y)) m ≡ false → (y : ℕ) → Dec (y < m)
        → apart P (look T a y) (look T b y) ≡ false
    go P a b q y (yes l) = any_none _ m y l q
    go P a b q y (no l) = ap (apart P (look T a y)) (none_there b y l) ∙ apart_none P (look T a y)
