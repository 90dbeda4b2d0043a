-- Demand 3: what the filter traces, its reduced filter traces with the same colours. Assumes nothing.
use Prim.Native.Nat.{ℕ, zero, suc, ◌≤◌, ◌<◌}
use Rattle.std.specs.Prelude.{◌≡◌, refl, ◌&&◌, ltb}
use Rattle.std.proofs.Math.Path.{sym, ap, ap₂}
use Rattle.std.proofs.Common.{◌∙◌, not-suc-le-zero}
use Rattle.std.proofs.Math.Bool.{Bool, true}
use Rattle.std.proofs.Math.Option.{Option, none, some}
use mathlib.Core.List.{List, [], ◌∷◌}
use native.Mathlib.Omega.{arith}
use Rattle.std.proofs.Math.Dec.{eqb}
use borrow.Author.Tests.{eqb-true, eqb-false, eq-eqb, not-false, ltb-true, ltb-false}
use Rattle.meaning.specs.Search.{least, count, at}
use Rattle.meaning.specs.Cases.{cases_of, and_intro, and_left, and_right, no_both}
use Rattle.meaning.specs.SearchLaws.{any_none, least_of, at_tab, count_step}
use Rattle.meaning.specs.TraceLaws.{ridden_on, halted_on, halted_stop}
use Rattle.meaning.specs.Classes.{chosen, named, classes, number}
use Rattle.meaning.specs.ClassesLaws.{Named, calm}
use Rattle.meaning.proofs.Reduction.{Good}
use Rattle.meaning.specs.Filter.{Filter, states}
use Rattle.meaning.specs.Trace.{colour, edge, later, ridden, halted}
use Rattle.meaning.specs.Reduced.{task, apart, conflict, has, name_of, mapped, class_edge, edge', merged}
use Rattle.meaning.specs.Listing.{find_listed}

-- ---- numbers of classes

-- s is a state, and in a class
pub record In (n : ℕ) (P : List ℕ) (s : ℕ) : Type 0 where
  pub state : s < n
  pub seat : at P s < n

module _ (n : ℕ) (P : List ℕ) (g : Named n P) where
  name_named : (s : ℕ) → In n P s → named P (at P s) ≡ true
  name_named s h = eq-eqb (at P (at P s)) (at P s) (g.own s h.state h.seat)

  pub number_lt : (s : ℕ) → In n P s → number P s < classes n P
  unfolding number classes
  number_lt s h = count_step (named P) (at P s) n h.seat (name_named s h)

  -- one number, one class
  pub number_one : (s t : ℕ) → In n P s → In n P t → number P s ≡ number P t → at P s ≡ at P t
  unfolding number
  number_one s t hs ht e = cases_of (ltb (at P s) (at P t))
      (λ q. absurd (omega (arith, e, count_step (named P) (at P s) (at P t) (ltb-true _ _ q) (name_named s hs))))
      (λ q. cases_of (ltb (at P t) (at P s))
      (λ r. absurd (omega (arith, e, count_step (named P) (at P t) (at P s) (ltb-true _ _ r) (name_named t ht))))
      (λ r. omega (arith, ltb-false (at P s) (at P t) q, ltb-false (at P t) (at P s) r)))

  -- the state that stands for a class is the class's name
  pub name_of_lem : (s : ℕ) → In n P s → name_of n P (number P s) ≡ at P s
  unfolding name_of number
  name_of_lem s h =
      let k = number P s in
      let own = g.own s h.state h.seat in
      let same : number P (at P s) ≡ k = number_own s own in
      let r = least_of (λ t. named P t && eqb (number P t) k) n (at P s) h.seat (and_intro (name_named s h) (eq-eqb _ _ same)) in
      let m = least (λ t. named P t && eqb (number P t) k) n in
      let m-own : at P m ≡ m = eqb-true (at P m) m (and_left (eqb (at P m) m) (eqb (number P m) k) r.1) in
      let m-num : number P m ≡ k = eqb-true (number P m) k (and_right (eqb (at P m) m) (eqb (number P m) k) r.1) in
      let lm : m < n = omega (arith, r.0, h.seat) in
      sym m-own ∙ number_one m s (record { state = lm; seat = omega arith }) h m-num
    where
      number_own : (s : ℕ) → at P (at P s) ≡ at P s → number P (at P s) ≡ number P s
      number_own s e = ap (count (named P)) e

-- each number below the number of classes is some class's
pub nth : (p : ℕ → Bool) (n k : ℕ) → k < count p n → (t : ℕ) × (t < n) × (p t ≡ true) × (count p t ≡ k)
unfolding count
nth p zero k h = absurd (not-suc-le-zero h)
nth p (suc n) k h = cases_of (ltb k (count p n))
    (λ q. let r = nth p n k (ltb-true _ _ q) in (r.0, omega (arith, r.1), r.2, r.3))
    (λ q. let l = ltb-false k (count p n) q in
    cases_of (p n)
    (λ e. (n, omega arith, e, (let w = rw e at h in omega arith)))
    (λ e. absurd (let w = rw e at h in omega arith)))

module _ (n : ℕ) (P : List ℕ) (k : ℕ) (h : k < classes n P) where
  -- the name with number k
  pub name_is : (name_of n P k < n) × (number P (name_of n P k) ≡ k) × (at P (name_of n P k) ≡ name_of n P k)
  unfolding name_of classes number
  name_is =
      let r = nth (named P) n k h in
      let t = r.0 in
      let num : number P t ≡ k = ap (count (named P)) (eqb-true (at P t) t r.2) ∙ r.3 in
      let l = least_of (λ t. named P t && eqb (number P t) k) n t r.1 (and_intro r.2 (eq-eqb _ _ num)) in
      let m = least (λ t. named P t && eqb (number P t) k) n in
      (omega (arith, l.0, r.1), eqb-true _ _ (and_right (eqb (at P m) m) (eqb (number P m) k) l.1), eqb-true _ _ (and_left (eqb (at P m) m) (eqb (number P m) k) l.1))

-- ---- a filter and classes with no conflicting pair

-- The start and the ends of the edges are states, and labels are below m.
pub record Fits (F : Filter) : Type 0 where
  pub few : states F ≤ 256
  pub begins : F.start < states F
  pub within : (s y t : ℕ) → edge F s y ≡ some t → (s < states F) × (y < F.labels) × (t < states F)

pub opt {ℓ} : {A : Type ℓ} (o : Option ℕ) → (o ≡ none → A) → ((t : ℕ) → o ≡ some t → A) → A
opt none f g = f refl
opt (some t) f g = g t refl

later_none : (o : Option ℕ) → later o ≡ none → o ≡ none
later_none none e = refl
later_none (some i) e = cc

pub some_inj : {a b : ℕ} → ◌≡◌ {A = Option ℕ} (some a) (some b) → a ≡ b
some_inj e = cc

stuck : ◌≡◌ {A = Option ℕ} (some 0) none → ⊥
stuck e = let z : ◌≡◌ {A = ℕ} 0 1 = cc in omega arith

module _ (F : Filter) (fits : Fits F) (P : List ℕ) (g : Good (task F) P)
    (leads : (s y t : ℕ) → In (states F) P s → edge F s y ≡ some t → In (states F) P t)
    (still : states F ≤ chosen (task F) P) where
  -- the edge of a class is that of each of its members that has one
  agree : (s t y a b : ℕ) → s < t → In (states F) P t → at P s ≡ at P t → edge F s y ≡ some a → edge F t y ≡ some b → at P a ≡ at P b
  unfolding conflict apart chosen
  agree s t y a b l h e ea eb =
      let c = calm (states F) (conflict (edge F) F.labels P) P still s t l h.state h.seat e in
      let q = any_none (λ y. apart P (edge F s y) (edge F t y)) F.labels y (fits.within t y b eb).1 c in
      eqb-true (at P a) (at P b) (not-false _ (rw (ea, eb) at q))

  class_of : (s t y a b : ℕ) → s ≤ t → In (states F) P t → at P s ≡ at P t → edge F s y ≡ some a → edge F t y ≡ some b → at P a ≡ at P b
  class_of s t y a b l h e ea eb = cases_of (eqb s t)
      (λ q. let q' = eqb-true s t q in ap (at P) (some_inj (sym ea ∙ ap (λ u. edge F u y) q' ∙ eb)))
      (λ q. agree s t y a b (omega (arith, eqb-false s t q)) h e ea eb)

  pub colour_kept : (s : ℕ) → In (states F) P s → colour (merged F P) (number P s) ≡ colour F s
  unfolding merged colour
  colour_kept s h =
      let n = states F in
      at_tab (classes n P) _ (number P s) (number_lt n P g.right s h)
      ∙ ap (colour F) (name_of_lem n P g.right s h) ∙ g.hue s h.state h.seat

  pub edge_kept : (s y t : ℕ) → In (states F) P s → edge F s y ≡ some t → edge (merged F P) (number P s) y ≡ some (number P t)
  unfolding merged edge edge' class_edge mapped number
  edge_kept s y t h e =
      let n = states F in
      let k = number P s in
      let cases-of' : ℕ → Bool = λ u. eqb (at P u) (at P s) && has (edge F u y) in
      let u = least cases-of' n in
      let r = least_of cases-of' n s h.state (and_intro (eq-eqb (at P s) (at P s) refl) (rw e)) in
      let cls : at P u ≡ at P s = eqb-true (at P u) (at P s) (and_left (eqb (at P u) (at P s)) (has (edge F u y)) r.1) in
      let u-has : has (edge F u y) ≡ true = and_right (eqb (at P u) (at P s)) (has (edge F u y)) r.1 in
      find_listed k y (edge' (edge F) (states F) P) (classes n P) F.labels (number_lt n P g.right s h) (fits.within s y t e).1
      ∙ ap (λ c. class_edge (edge F) (states F) P c y) (name_of_lem n P g.right s h)
      ∙ opt (edge F u y)
      (λ o. no_both {b = has (edge F u y)} u-has (rw o))
      (λ t' o. ap (mapped P) o ∙ ap some (ap (count (named P)) (class_of u s y t' t r.0 h cls o e)))

  pub traced : (ys : List ℕ) (s : ℕ) → In (states F) P s → halted (edge F) s ys ≡ none
      → (halted (edge (merged F P)) (number P s) ys ≡ none) × (ridden (edge (merged F P)) (colour (merged F P)) (number P s) ys ≡ ridden (edge F) (colour F) s ys)
  unfolding halted ridden
  traced [] s h e = (refl, ap (λ c. c ∷ []) (colour_kept s h))
  traced (y ∷ ys) s h e = opt (edge F s y)
      (λ o. absurd (stuck (sym (halted_stop (edge F) s y ys o) ∙ e)))
      (λ t o.
      let r = traced ys t (leads s y t h o) (later_none (halted (edge F) t ys) (sym (halted_on (edge F) s y t ys o) ∙ e)) in
      let k = edge_kept s y t h o in (
        halted_on (edge (merged F P)) (number P s) y (number P t) ys k ∙ ap later r.0,
        ridden_on (edge (merged F P)) (colour (merged F P)) (number P s) y (number P t) ys k ∙ ap₂ {C = List ℕ} (λ c cs. c ∷ cs) (colour_kept s h) r.1 ∙ sym (ridden_on (edge F) (colour F) s y t ys o),
      ))
