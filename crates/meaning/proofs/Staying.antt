-- A fault stays a fault: in the reduced filter too no edge leaves the fault colour, and a ride that has shown it shows nothing else to
-- its end. Assumes nothing.
use Rattle.std.specs.Prelude.{ℕ, zero, suc, ◌≤◌, ◌<◌, ◌≡◌, refl, true, List, [], ◌∷◌, eqb, length}
use Rattle.std.proofs.Common.{sym, ◌∙◌, arith}
use Rattle.std.proofs.Math.Path.{ap}
use Rattle.std.proofs.Math.Bool.{not}
use Rattle.std.proofs.Math.Option.{Option, none, some}
use borrow.Author.Tests.{eqb-true, eq-eqb}
use Rattle.meaning.specs.Search.{at}
use Rattle.meaning.specs.Cases.{cases_of, no_both}
use Rattle.meaning.specs.TraceLaws.{ridden_end, ridden-first, ridden_on, ridden_stop}
use Rattle.meaning.specs.Classes.{classes, number}
use Rattle.meaning.specs.Filter.{Edge, Filter, states, in_order}
use Rattle.meaning.specs.Trace.{colour, edge, ridden, shown}
use Rattle.meaning.specs.Reduced.{edge', merged, reduce, reduced}
use Rattle.meaning.specs.Listing.{find_each, each-listed}
use Rattle.meaning.proofs.Traced.{opt, name_is, In, colour_kept}
use Rattle.meaning.proofs.Demand.{fits, source, good, onward, calm_end}
use Rattle.meaning.specs.Fault.{leaves, stays, fault_stays}

-- whether an edge leaves the fault colour depends on the colours of its ends alone
pub leaves_same : (fault : Option ℕ) (f g : ℕ → ℕ) (d e : Edge) → f d.source ≡ g e.source → f d.target ≡ g e.target → leaves fault f d ≡ leaves fault g e
unfolding leaves
leaves_same none f g d e s t = refl
leaves_same (some k) f g d e s t = rw (s, t)

-- ---- the reduced filter

module _ (fault : Option ℕ) (F : Filter) (few : states F ≤ 256) (ok : in_order F ≡ true) (h : fault_stays fault F ≡ true) where
  -- an edge of a class is an edge between members, with the members' colours at its ends
  pub reduced-stays : fault_stays fault (reduced F) ≡ true
  unfolding fault_stays reduced merged edge
  reduced-stays =
      let P = (reduce F).names in
      let R = merged F P in
      let same : (s : ℕ) → In (states F) P s → colour R (number P s) ≡ colour F s =
      colour_kept F (fits F few ok) P (good F few ok) (onward F few ok) (calm_end F few ok) in
      each-listed (stays fault (colour R)) (edge' (edge F) (states F) P) (classes (states F) P) F.labels (λ k y k' l b e.
      let r = source F (fits F few ok) P k y k' l e in
      let m = name_is (states F) P k l in
      let i : In (states F) P r.from = record { state = r.is_state; seat = omega (arith, m.0, r.at_class) } in
      let j = onward F few ok r.from y r.to i r.has_edge in
      ap not (leaves_same fault (colour R) (colour F) (record { source = k; label = y; target = k' }) (record { source = r.from; label = y; target = r.to })
      (ap (colour R) (sym r.of_class) ∙ same r.from i) (ap (colour R) (sym r.to_class) ∙ same r.to j))
      ∙ find_each (stays fault (colour F)) F.edges r.from y r.to h r.has_edge)

-- ---- rides

alone : {x : ℕ} (xs : List ℕ) (j : ℕ) → xs ≡ x ∷ [] → j < length xs → at xs j ≡ x
alone xs zero q l = rw q
alone xs (suc j) q l = absurd (omega (arith, rw q at l))

module _ (fault : ℕ) (F : Filter) (h : fault_stays (some fault) F ≡ true) where
  -- from a state of the fault colour an edge leads to such a state
  pub fault_on : (s y t : ℕ) → edge F s y ≡ some t → colour F s ≡ fault → colour F t ≡ fault
  unfolding fault_stays edge leaves
  fault_on s y t e is = cases_of (eqb (colour F t) fault) (λ q. eqb-true (colour F t) fault q)
      (λ q. no_both (find_each (stays (some fault) (colour F)) F.edges s y t h e) (rw (eq-eqb (colour F s) fault is, q)))

  abbrev colours : ℕ → List ℕ → List ℕ
  colours s ys = ridden (edge F) (colour F) s ys

  -- from there nothing else is shown
  all_fault : (s : ℕ) (ys : List ℕ) (j : ℕ) → colour F s ≡ fault → j < length (colours s ys) → at (colours s ys) j ≡ fault
  all_fault s [] j is l = alone (colours s []) j (ridden_end (edge F) (colour F) s) l ∙ is
  all_fault s (y ∷ ys) j is l = opt (edge F s y)
      (λ o. alone (colours s (y ∷ ys)) j (ridden_stop (edge F) (colour F) s y ys o) l ∙ is)
      (λ t o. onward_at t j (ridden_on (edge F) (colour F) s y t ys o) l (λ k m. all_fault t ys k (fault_on s y t o is) m))
    where
      onward_at : (t j : ℕ) → colours s (y ∷ ys) ≡ colour F s ∷ colours t ys → j < length (colours s (y ∷ ys)) →
          ((k : ℕ) → k < length (colours t ys) → at (colours t ys) k ≡ fault) → at (colours s (y ∷ ys)) j ≡ fault
      onward_at t zero q l rest = rw q is
      onward_at t (suc k) q l rest = rw q (rest k (omega (arith, rw q at l)))

  -- a ride from any state that has shown the fault colour shows it to its end
  pub ridden-stays : (s : ℕ) (ys : List ℕ) (i j : ℕ) → i ≤ j → j < length (colours s ys) → at (colours s ys) i ≡ fault → at (colours s ys) j ≡ fault
  ridden-stays s ys zero j le l is = all_fault s ys j (sym (ridden-first (edge F) (colour F) s ys) ∙ is) l
  ridden-stays s ys (suc i) zero le l is = absurd (omega arith)
  ridden-stays s [] (suc i) (suc j) le l is = absurd (omega (arith, rw (ridden_end (edge F) (colour F) s) at l))
  ridden-stays s (y ∷ ys) (suc i) (suc j) le l is = opt (edge F s y)
      (λ o. absurd (omega (arith, rw (ridden_stop (edge F) (colour F) s y ys o) at l)))
      (λ t o. let q = ridden_on (edge F) (colour F) s y t ys o in
      rw q (ridden-stays t ys i j (omega arith) (omega (arith, rw q at l)) (rw q at is)))

  pub shown-stays : (ys : List ℕ) (i j : ℕ) → i ≤ j → j < length (shown F ys) → at (shown F ys) i ≡ fault → at (shown F ys) j ≡ fault
  unfolding shown
  shown-stays ys = ridden-stays F.start ys
