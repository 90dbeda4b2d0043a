-- The listed edges of a function: looked up, counted, in order. Assumes nothing.
use Prim.Native.Nat.{ℕ, zero, suc, ◌+◌, ◌*◌, ◌≤◌, ◌<◌}
use Rattle.std.specs.Prelude.{◌≡◌, Bool, false, ◌&&◌, ◌||◌, ltb, length}
use Rattle.std.proofs.Math.Path.{refl, ap}
use Rattle.std.proofs.Common.{ap₂, ◌∙◌, subst, not-suc-le-zero, length-append}
use Rattle.std.proofs.Math.Bool.{true}
use Rattle.std.proofs.Math.Option.{Option, none, some}
use mathlib.Core.List.{List, [], ◌∷◌, ◌++◌}
use native.Mathlib.Omega.{arith}
use Rattle.std.proofs.Math.Dec.{eqb}
use borrow.Author.Tests.{eqb-true, eqb-false, eq-eqb, ne_eqb, lt-ltb}
use Rattle.meaning.specs.Search.{count, bit}
use Rattle.meaning.specs.Cases.{cases_of, same², and_intro, and_left, and_right, no_both, or_right}
use Rattle.meaning.specs.SearchLaws.{count_max, count_mono}
use Rattle.meaning.specs.Filter.{Edge, leads, ascending, comes_before, each}
use Rattle.meaning.specs.Trace.{target}
use Rattle.meaning.specs.Reduced.{cell, row, listed, has}

-- ---- looked up

module _ (a b : ℕ) where
  find_right : (es fs : List Edge) → target es a b ≡ none → target (es ++ fs) a b ≡ target fs a b
  unfolding target
  find_right [] fs h = refl
  find_right (e ∷ es) fs h = cases_of (eqb e.source a && eqb e.label b)
      (λ q. let f = rw (q, target) at h in cc)
      (λ q. rw (q, target) (find_right es fs (rw (q, target) at h)))

  find_left : (es fs : List Edge) → target fs a b ≡ none → target (es ++ fs) a b ≡ target es a b
  unfolding target
  find_left [] fs h = h
  find_left (e ∷ es) fs h = cases_of (eqb e.source a && eqb e.label b)
      (λ q. rw (q, target))
      (λ q. rw (q, target) (find_left es fs h))

  cell_miss : (s y : ℕ) (o : Option ℕ) → (eqb s a && eqb y b) ≡ false → target (cell s y o) a b ≡ none
  unfolding target cell
  cell_miss s y none h = refl
  cell_miss s y (some t) h = rw (h, target)

  cell_hit : (o : Option ℕ) → target (cell a b o) a b ≡ o
  unfolding target cell
  cell_hit none = refl
  cell_hit (some t) = let e : (eqb a a && eqb b b) ≡ true = and_intro (eq-eqb a a refl) (eq-eqb b b refl) in rw (e, target)

  row_other : (next : ℕ → Option ℕ) (s y : ℕ) → (s ≡ a → ⊥) → target (row next s y) a b ≡ none
  unfolding row target
  row_other next s zero h = refl
  row_other next s (suc y) h = find_right (row next s y) (cell s y (next y)) (row_other next s y h) ∙ cell_miss s y (next y) (rw (ne_eqb s a h))

  row_above : (next : ℕ → Option ℕ) (y : ℕ) → y ≤ b → target (row next a y) a b ≡ none
  unfolding row target
  row_above next zero h = refl
  row_above next (suc y) h = find_right (row next a y) (cell a y (next y)) (row_above next y (omega arith))
      ∙ cell_miss a y (next y) (cases_of (eqb a a) (λ q. rw (q, ne_eqb y b (λ e. omega arith))) (λ q. rw q))

  row_in : (next : ℕ → Option ℕ) (y : ℕ) → b < y → target (row next a y) a b ≡ next b
  unfolding row
  row_in next zero h = absurd (not-suc-le-zero h)
  row_in next (suc y) h = cases_of (eqb y b)
      (λ q. let q' = eqb-true y b q in
      rw q' (find_right (row next a b) (cell a b (next b)) (row_above next b (omega arith)) ∙ cell_hit (next b)))
      (λ q. let q' = eqb-false y b q in
      find_left (row next a y) (cell a y (next y)) (cell_miss a y (next y) (cases_of (eqb a a) (λ r. rw (r, ne_eqb y b q')) (λ r. rw r)))
      ∙ row_in next y (omega (arith, q')))

  pub listed_above : (next : ℕ → ℕ → Option ℕ) (m n : ℕ) → n ≤ a → target (listed next n m) a b ≡ none
  unfolding listed target
  listed_above next m zero h = refl
  listed_above next m (suc n) h = find_right (listed next n m) (row (next n) n m) (listed_above next m n (omega arith))
      ∙ row_other (next n) n m (λ e. omega arith)

  pub find_listed : (next : ℕ → ℕ → Option ℕ) (n m : ℕ) → a < n → b < m → target (listed next n m) a b ≡ next a b
  unfolding listed
  find_listed next zero m h l = absurd (not-suc-le-zero h)
  find_listed next (suc n) m h l = cases_of (eqb n a)
      (λ q. rw (eqb-true n a q) (find_right (listed next a m) (row (next a) a m) (listed_above next m a (omega arith)) ∙ row_in (next a) m l))
      (λ q. let q' = eqb-false n a q in
      find_left (listed next n m) (row (next n) n m) (row_other (next n) n m q') ∙ find_listed next n m (omega (arith, q')) l)

-- ---- equal edges give equal lists

row_cong : (f g : ℕ → Option ℕ) (s y : ℕ) → ((i : ℕ) → i < y → f i ≡ g i) → row f s y ≡ row g s y
unfolding row
row_cong f g s zero h = refl
row_cong f g s (suc y) h = ap₂ (λ (a b : List Edge). a ++ b) (row_cong f g s y (λ i l. h i (omega arith))) (ap (cell s y) (h y (omega arith)))

pub listed_cong : (f g : ℕ → ℕ → Option ℕ) (n m : ℕ) → ((k y : ℕ) → k < n → y < m → f k y ≡ g k y) → listed f n m ≡ listed g n m
unfolding listed
listed_cong f g zero m h = refl
listed_cong f g (suc n) m h =
    ap₂ (λ (a b : List Edge). a ++ b) (listed_cong f g n m (λ k y l. h k y (omega arith))) (row_cong (f n) (g n) n m (λ y l. h n y (omega arith) l))

-- ---- counted

-- the pairs a below n, b below m that pass
unfoldable pub cells : (ℕ → ℕ → Bool) → ℕ → ℕ → ℕ
cells q zero m = 0
cells q (suc n) m = cells q n m + count (q n) m

cell-length : (s y : ℕ) (o : Option ℕ) → length (cell s y o) ≡ bit (has o)
unfolding cell
cell-length s y none = refl
cell-length s y (some t) = refl

row-length : (next : ℕ → Option ℕ) (s y : ℕ) → length (row next s y) ≡ count (λ b. has (next b)) y
unfolding row count
row-length next s zero = refl
row-length next s (suc y) = length-append (row next s y) (cell s y (next y)) ∙ ap₂ (λ i j. i + j) (row-length next s y) (cell-length s y (next y))

pub listed-length : (next : ℕ → ℕ → Option ℕ) (n m : ℕ) → length (listed next n m) ≡ cells (λ a b. has (next a b)) n m
unfolding listed cells
listed-length next zero m = refl
listed-length next (suc n) m = length-append (listed next n m) (row (next n) n m) ∙ ap₂ (λ i j. i + j) (listed-length next n m) (row-length (next n) n m)

pub cells_mono : (p q : ℕ → ℕ → Bool) (n m : ℕ) → ((a b : ℕ) → a < n → b < m → p a b ≡ true → q a b ≡ true) → cells p n m ≤ cells q n m
unfolding cells
cells_mono p q zero m h = omega arith
cells_mono p q (suc n) m h = omega (arith, cells_mono p q n m (λ a b k. h a b (omega arith)), count_mono (p n) (q n) m (λ b. h n b (omega arith)))

pub cells_max : (q : ℕ → ℕ → Bool) (n m : ℕ) → cells q n m ≤ n * m
unfolding cells
cells_max q zero m = omega arith
cells_max q (suc n) m = omega (arith, cells_max q n m, count_max (q n) m)

bit_or : (a b : Bool) → bit (a || b) ≤ bit a + bit b
bit_or true b = omega arith
bit_or false b = omega arith

bit_max : (b : Bool) → bit b ≤ 1
bit_max true = omega arith
bit_max false = omega arith

or_no : (a : Bool) {b : Bool} → b ≡ false → (a || b) ≡ true → a ≡ true
or_no true h e = refl
or_no false h e = no_both e h

-- one pair more passes
module _ (x z : ℕ) where
  count_off : (q : ℕ → Bool) (m : ℕ) → m ≤ z → count (λ b. q b || eqb b z) m ≤ count q m
  count_off q m h = count_mono (λ b. q b || eqb b z) q m (λ b l e. or_no (q b) (ne_eqb b z (λ f. omega arith)) e)

  count_on : (q : ℕ → Bool) (m : ℕ) → count (λ b. q b || eqb b z) m ≤ suc (count q m)
  unfolding count
  count_on q zero = omega arith
  count_on q (suc m) = cases_of (eqb m z)
      (λ r. omega (arith, count_off q m (omega (arith, eqb-true m z r)), bit_or (q m) (eqb m z), bit_max (eqb m z)))
      (λ r. omega (arith, count_on q m, bit_or (q m) (eqb m z), ap bit r))

  pub cells_on : (q : ℕ → ℕ → Bool) (n m : ℕ) → cells (λ a b. q a b || (eqb a x && eqb b z)) n m ≤ suc (cells q n m)
  unfolding cells
  cells_on q zero m = omega arith
  cells_on q (suc n) m = cases_of (eqb n x)
      (λ r. omega (
        arith,
        cells_mono (λ a b. q a b || (eqb a x && eqb b z)) q n m (λ a b k l e. or_no (q a b) (rw (ne_eqb a x (λ f. omega (arith, eqb-true n x r)))) e),
        count_mono (λ b. q n b || (eqb n x && eqb b z)) (λ b. q n b || eqb b z) m (λ b l e. rw r at e),
        count_on (q n) m,
      ))
      (λ r. omega (
        arith,
        cells_on q n m,
        count_mono (λ b. q n b || (eqb n x && eqb b z)) (q n) m (λ b l e. or_no (q n b) (rw r) e),
      ))

-- ---- in order, and in range

pub each_append : (p : Edge → Bool) (es fs : List Edge) → each p es ≡ true → each p fs ≡ true → each p (es ++ fs) ≡ true
unfolding each
each_append p [] fs h k = k
each_append p (e ∷ es) fs h k = and_intro (and_left (p e) (each p es) h) (each_append p es fs (and_right (p e) (each p es) h) k)

each-cell : (p : Edge → Bool) (s y : ℕ) (o : Option ℕ) → ((t : ℕ) → o ≡ some t → p (record { source = s; label = y; target = t }) ≡ true) → each p (cell s y o) ≡ true
unfolding each cell
each-cell p s y none h = refl
each-cell p s y (some t) h = and_intro (h t refl) refl

each_row : (p : Edge → Bool) (next : ℕ → Option ℕ) (s y : ℕ) → ((b t : ℕ) → b < y → next b ≡ some t → p (record { source = s; label = b; target = t }) ≡ true) → each p (row next s y) ≡ true
unfolding row each
each_row p next s zero h = refl
each_row p next s (suc y) h = each_append p (row next s y) (cell s y (next y)) (each_row p next s y (λ b t l. h b t (omega arith))) (each-cell p s y (next y) (λ t. h y t (omega arith)))

pub each-listed : (p : Edge → Bool) (next : ℕ → ℕ → Option ℕ) (n m : ℕ) → ((a b t : ℕ) → a < n → b < m → next a b ≡ some t → p (record { source = a; label = b; target = t }) ≡ true) → each p (listed next n m) ≡ true
unfolding listed each
each-listed p next zero m h = refl
each-listed p next (suc n) m h = each_append p (listed next n m) (row (next n) n m) (each-listed p next n m (λ a b t k. h a b t (omega arith))) (each_row p (next n) n m (λ b t. h n b t (omega arith)))

ascending-append : (es fs : List Edge) → ascending es ≡ true → ascending fs ≡ true → each (λ e. leads e fs) es ≡ true → ascending (es ++ fs) ≡ true
unfolding ascending each leads
ascending-append [] fs h k l = k
ascending-append (e ∷ []) fs h k l = and_intro (and_left (leads e fs) true l) k
ascending-append (e ∷ f ∷ es) fs h k l =
    and_intro {a = comes_before e f} (and_left (comes_before e f) (ascending (f ∷ es)) h)
    (ascending-append (f ∷ es) fs (and_right (comes_before e f) (ascending (f ∷ es)) h) k (and_right (leads e fs) (each (λ d. leads d fs) (f ∷ es)) l))

leads-append : (e : Edge) (es fs : List Edge) → leads e es ≡ true → leads e fs ≡ true → leads e (es ++ fs) ≡ true
unfolding leads
leads-append e [] fs h k = k
leads-append e (f ∷ es) fs h k = h

before-source : (e f : Edge) → e.source < f.source → comes_before e f ≡ true
unfolding comes_before
before-source e f h = rw (lt-ltb e.source f.source h)

before_label : (s b y t u : ℕ) → b < y → comes_before (record { source = s; label = b; target = t }) (record { source = s; label = y; target = u }) ≡ true
unfolding comes_before
before_label s b y t u h = or_right (ltb s s) (and_intro (eq-eqb s s refl) (lt-ltb b y h))

leads-cell : (e : Edge) (s y : ℕ) (o : Option ℕ) → ((u : ℕ) → comes_before e (record { source = s; label = y; target = u }) ≡ true) → leads e (cell s y o) ≡ true
unfolding leads cell
leads-cell e s y none h = refl
leads-cell e s y (some u) h = h u

leads-row : (e : Edge) (next : ℕ → Option ℕ) (s y : ℕ) → e.source < s → leads e (row next s y) ≡ true
unfolding leads row
leads-row e next s zero h = refl
leads-row e next s (suc y) h = leads-append e (row next s y) (cell s y (next y)) (leads-row e next s y h) (leads-cell e s y (next y) (λ u. before-source e _ h))

cell_ascends : (s y : ℕ) (o : Option ℕ) → ascending (cell s y o) ≡ true
unfolding ascending leads cell
cell_ascends s y none = refl
cell_ascends s y (some t) = refl

row_ascends : (next : ℕ → Option ℕ) (s y : ℕ) → ascending (row next s y) ≡ true
unfolding ascending row
row_ascends next s zero = refl
row_ascends next s (suc y) = ascending-append (row next s y) (cell s y (next y)) (row_ascends next s y) (cell_ascends s y (next y))
    (each_row (λ e. leads e (cell s y (next y))) next s y (λ b t l o. leads-cell _ s y (next y) (λ u. before_label s b y t u l)))

pub listed_ascends : (next : ℕ → ℕ → Option ℕ) (n m : ℕ) → ascending (listed next n m) ≡ true
unfolding ascending listed
listed_ascends next zero m = refl
listed_ascends next (suc n) m = ascending-append (listed next n m) (row (next n) n m) (listed_ascends next n m) (row_ascends (next n) n m)
    (each-listed (λ e. leads e (row (next n) n m)) next n m (λ a b t k l o. leads-row _ (next n) n m k))

-- what holds of each edge holds of one that is found
pub find_each : (p : Edge → Bool) (es : List Edge) (s y t : ℕ) → each p es ≡ true → target es s y ≡ some t → p (record { source = s; label = y; target = t }) ≡ true
unfolding target each
find_each p [] s y t h e = let z : ◌≡◌ {A = ℕ} 0 1 = cc in absurd (omega arith)
find_each p (d ∷ es) s y t h e = cases_of (eqb d.source s && eqb d.label y)
    (λ q. let o : ◌≡◌ {A = Option ℕ} (some d.target) (some t) = rw (q, target) at e in
    let r = same² d.source s d.label y q in
    let c : d.target ≡ t = cc in
    let w : d ≡ record { source = s; label = y; target = t } = λ i. record { source = r.0 i; label = r.1 i; target = c i } in
    subst (λ (f : Edge). p f ≡ true) w (and_left (p d) (each p es) h))
    (λ q. find_each p es s y t (and_right (p d) (each p es) h) (rw (q, target) at e))
