-- Reducing what is reduced changes nothing, because the rounds of the reduced filter are those of the filter in new numbers.
-- Assumes nothing.
use Prim.Native.Nat.{ℕ, zero, suc, ◌+◌, ◌≤◌, ◌<◌}
use Rattle.std.specs.Prelude.{◌≡◌, ◌&&◌, List, ltb}
use Rattle.std.proofs.Math.Path.{refl, sym, ap, subst}
use Rattle.std.proofs.Common.{◌∙◌, arith}
use Rattle.std.proofs.Math.Bool.{Bool, true}
use Rattle.std.proofs.Math.Dec.{eqb}
use borrow.Author.Tests.{eqb-true, eqb-false, eq-eqb, ltb-true, ltb-false}
use Rattle.meaning.specs.Pick.{pick}
use Rattle.meaning.specs.Search.{least, count, tab, at}
use Rattle.meaning.specs.Cases.{cases_of, and_intro, and_left, and_right}
use Rattle.meaning.specs.SearchLaws.{count_step, tab_cong}
use Rattle.meaning.specs.Filter.{Filter, states, in_order}
use Rattle.meaning.specs.Trace.{edge, colour}
use Rattle.meaning.specs.Classes.{Task, Classes, initial, round, chosen, begin, cut, run, reduction}
use Rattle.meaning.specs.Classes.{named, classes, number}
use Rattle.meaning.specs.ClassesLaws.{Named}
use Rattle.meaning.proofs.Reduction.{Fair, Good, run_on, run_over, good_live, initial_in, initial_good, parted-chosen, classes_max, classes_some}
use Rattle.meaning.specs.Reduced.{live, task, conflict, edge', listed, name_of, merged, reduce, reduced, class_list}
use Rattle.meaning.proofs.Traced.{In, Fits, number_lt, name_of_lem, name_is}
use Rattle.meaning.proofs.Demand.{fits, fair, good, live_lt, target-live, live_in, in_live}
use Rattle.meaning.proofs.Demand.{states-reduced, reduced-in_order, reduced-bound}
use Rattle.meaning.proofs.Demand.{Source, reduced-edge, reduced-has, reduced-colour}
use Rattle.meaning.proofs.Dropped.{reduced-reached}
use Rattle.again.specs.NewNumbers.{NewNumbers, old_lt, old_one, least_old}
use Rattle.again.specs.Mirror.{Mirror, name_is_old, Together, Matched, first_old, first_neither, split_mirror}
use Rattle.again.specs.Runs.{onward, run_refines, onward_good, onward_grows}
use Rattle.again.specs.Conflicts.{parting, conflicts, conflict_turn, conflict_never}
use Rattle.again.specs.Alone.{Alone, number-alone, merged-alone}

merges : (F : Filter) → reduced F ≡ merged F (reduce F).names
unfolding reduced
merges F = refl

-- ---- a filter in order, and its reduced filter R: k and what is primed are R's

module _ (F : Filter) (few : states F ≤ 256) (ok : in_order F ≡ true) where
  abbrev R : Filter
  R = reduced F

  abbrev n : ℕ
  n = states F

  abbrev k : ℕ
  k = states (reduced F)

  abbrev ends : List ℕ
  ends = (reduce F).names

  -- the reduced state of a state, and the smallest state of a reduced state
  abbrev new : ℕ → ℕ
  new = number (reduce F).names

  abbrev old : ℕ → ℕ
  old = name_of (states F) (reduce F).names

  abbrev T : Task
  T = task F

  abbrev T' : Task
  T' = task (reduced F)

  fits₀ : Fits F
  fits₀ = fits F few ok

  fair₀ : Fair T
  fair₀ = fair F few ok

  few' : k ≤ 256
  few' = let b = reduced-bound F few ok in omega (arith, few, b.1, b.2)

  ok' : in_order R ≡ true
  ok' = reduced-in_order F few ok

  fits' : Fits R
  fits' = fits R few' ok'

  fair' : Fair T'
  fair' = fair R few' ok'

  right : Named n ends
  right = (good F few ok).right

  labels_same : R.labels ≡ F.labels
  unfolding reduced merged
  labels_same = refl

  inside : (s : ℕ) → live F s ≡ true → s < n
  inside = live_lt F few ok

  seated : (s : ℕ) → live F s ≡ true → In n ends s
  seated s l = live_in F few ok s (inside s l) l

  -- all states of the reduced filter take part
  all_live : (i : ℕ) → i < k → live R i ≡ true
  all_live = reduced-reached F few ok

  numbered : (i : ℕ) → i < k → (old i < n) × (new (old i) ≡ i) × (at ends (old i) ≡ old i)
  numbered i h = name_is n ends i (omega (arith, states-reduced F few ok))

  ranked : (i : ℕ) → i < k → count (named ends) (old i) ≡ i
  unfolding number
  ranked i h = sym (ap (count (named ends)) (numbered i h).2) ∙ (numbered i h).1

  numbers : NewNumbers n k (live F) new old
  numbers = record {
    live_lt = inside;
    new_lt = λ s l. omega (arith, number_lt n ends right s (seated s l), states-reduced F few ok);
    old_live = λ i h. let o = numbered i h in in_live F few ok (old i) (record { state = o.0; seat = omega (arith, o.0, o.2) });
    new_old = λ i h. (numbered i h).1;
    old_new = λ s l. omega (arith, name_of_lem n ends right s (seated s l), right.low s (inside s l) (seated s l).seat);
    rising = λ i j h l.
        let a = ranked i (omega arith) in
        let b = ranked j l in
        cases_of (ltb (old i) (old j)) (λ q. ltb-true _ _ q) (λ q. absurd (cases_of (eqb (old j) (old i))
        (λ e. omega (arith, ap (count (named ends)) (eqb-true (old j) (old i) e)))
        (λ e. let w : old j < old i = omega (arith, ltb-false (old i) (old j) q, eqb-false (old j) (old i) e) in
        omega (arith, count_step (named ends) (old j) (old i) w (eq-eqb (at ends (old j)) (old j) (numbered j l).2)))));
  }

  -- a member that has an edge of the reduced filter takes part
  from-live : (i y j : ℕ) → i < k → (source : Source F ends i y j) → live F source.from ≡ true
  from-live i y j h a = in_live F few ok a.from
      (record { state = a.is_state; seat = omega (arith, a.at_class, (numbered i h).0) })

  -- Reduced states conflict where members do, judged by names that are the same.
  module _ {P P' : List ℕ} (mirror : Mirror n k (live F) new old P P') where
    -- the target of an edge has the name of its member's target
    target_same : (i y j : ℕ) → i < k → (source : Source F ends i y j) → at P source.to ≡ old (at P' j)
    target_same i y j h a = name_is_old mirror a.to j (target-live F few ok a.from y a.to (from-live i y j h a) a.has_edge) a.to_class

    matched : Matched k (live F) new (conflict (edge F) F.labels P) (conflict (edge R) R.labels P')
    matched = record {
      down = λ s t hs ht e.
          let p = parting (edge F) F.labels P s t e in
          let y = p.label in
          let ha = target-live F few ok s y p.to hs p.leads in
          let hb = target-live F few ok t y p.to' ht p.leads' in
          conflicts (edge R) R.labels P' (new s) (new t) (record {
            label = y;
            label_lt = omega (arith, p.label_lt, labels_same);
            to = new p.to;
            to' = new p.to';
            leads = reduced-has F few ok s y p.to (inside s hs) hs p.leads;
            leads' = reduced-has F few ok t y p.to' (inside t ht) ht p.leads';
            differ = λ o. p.differ (mirror.same p.to ha ∙ ap old o ∙ sym (mirror.same p.to' hb));
          });
      up = λ i j hi hj e.
          let p = parting (edge R) R.labels P' i j e in
          let y = p.label in
          let l : y < F.labels = omega (arith, p.label_lt, labels_same) in
          let a = reduced-edge F few ok i y p.to hi l p.leads in
          let b = reduced-edge F few ok j y p.to' hj l p.leads' in
          let sa : at P a.to ≡ old (at P' p.to) = target_same i y p.to hi a in
          let sb : at P b.to ≡ old (at P' p.to') = target_same j y p.to' hj b in
          record {
            one = a.from;
            other = b.from;
            one_live = from-live i y p.to hi a;
            other_live = from-live j y p.to' hj b;
            one_new = a.of_class;
            other_new = b.of_class;
            clashes = conflicts (edge F) F.labels P a.from b.from (record {
              label = y;
              label_lt = l;
              to = a.to;
              to' = b.to;
              leads = a.has_edge;
              leads' = b.has_edge;
              differ = λ o. p.differ (old_one numbers (at P' p.to) (at P' p.to')
                  (mirror.below p.to (fits'.within i y p.to p.leads).2)
                  (mirror.below p.to' (fits'.within j y p.to' p.leads').2)
                  (sym sa ∙ o ∙ sb));
            });
          };
      turn = conflict_turn (edge F) F.labels P;
      turn' = conflict_turn (edge R) R.labels P';
      never = conflict_never (edge R) R.labels P';
    }

  -- ---- the two runs

  -- names are good on both sides and the same in new numbers, and as many rounds are made
  record Alike (Q Q' : Classes) : Type 0 where
    good₀ : Good T Q.names
    good' : Good T' Q'.names
    mirror : Mirror n k (live F) new old Q.names Q'.names
    rounds_same : Q'.rounds ≡ Q.rounds

  begin_alike : Alike (begin T) (begin T')
  unfolding begin
  begin_alike = record {
    good₀ = initial_good T fair₀;
    good' = initial_good T' fair';
    mirror = record {
      same = λ s v.
          let i = new s in
          let l = numbers.new_lt s v in
          let hue : (t : ℕ) → live F t ≡ true → colour R (new t) ≡ colour F t = λ t w. reduced-colour F few ok t (inside t w) w in
          let p : ℕ → Bool = λ t. live F t && eqb (colour F t) (colour F s) in
          let q : ℕ → Bool = λ j. live R j && eqb (colour R j) (colour R i) in
          let start : at (initial T') i ≡ least q k = initial_in T' fair' i l (all_live i l) in
          initial_in T fair₀ s (inside s v) v
          ∙ least_old numbers p q
          (λ t h e. and_left (live F t) (eqb (colour F t) (colour F s)) e)
          (λ j h e. let w = numbers.old_live j h in
          and_intro w (eq-eqb _ _
          (sym (hue (old j) w) ∙ ap (colour R) (numbers.new_old j h)
          ∙ eqb-true _ _ (and_right (live R j) (eqb (colour R j) (colour R i)) e) ∙ hue s v)))
          (λ t w e. and_intro (all_live (new t) (numbers.new_lt t w)) (eq-eqb _ _
          (hue t w ∙ eqb-true _ _ (and_right (live F t) (eqb (colour F t) (colour F s)) e) ∙ sym (hue s v))))
          (omega (arith, start, (initial_good T' fair').all i l (all_live i l)))
          ∙ ap old (sym start);
      only = λ s h l. good_live T fair₀ (initial T) (initial_good T fair₀) s h l;
      below = λ i h. (initial_good T' fair').all i h (all_live i h);
    };
    rounds_same = refl;
  }

  module _ (Q Q' : Classes) (alike : Alike Q Q') where
    abbrev d : ℕ
    d = chosen (task (reduced F)) Q'.names

    taken_old : d < k → chosen T Q.names ≡ old d
    unfolding chosen
    taken_old = first_old numbers (matched alike.mirror) alike.mirror alike.good₀.right

    taken_neither : k ≤ d → n ≤ chosen T Q.names
    unfolding chosen
    taken_neither = first_neither numbers (matched alike.mirror) alike.mirror alike.good₀.right

    onward_alike : d < k → Together (live F) new old (onward T Q).names → Alike (onward T Q) (onward T' Q')
    unfolding cut round
    onward_alike h together =
        let m = alike.mirror in
        let e = taken_old h in
        let hc : chosen T Q.names < n = omega (arith, e, old_lt numbers d h) in
        record {
          good₀ = onward_good T Q hc fair₀ alike.good₀;
          good' = onward_good T' Q' h fair' alike.good';
          mirror =
              let P' = round T' Q'.names d in
              let parts = parted-chosen T' fair' Q'.names h in
              subst (λ (c : ℕ). Together (live F) new old (round T Q.names c) → Mirror n k (live F) new old (round T Q.names c) P') (sym e)
              (split_mirror numbers (matched m) m alike.good₀.right alike.good'.right d h parts) together;
          rounds_same = ap suc alike.rounds_same;
        }

  -- The runs go alike where both may make more rounds than classes can come, and the filter's ends with such names.
  run_alike : (f g : ℕ) (Q Q' : Classes) → Alike Q Q' → n < f + classes n Q.names → k < g + classes k Q'.names
      → Together (live F) new old (run f T Q).names → Alike (run f T Q) (run g T' Q')
  run_alike zero g Q Q' a h h' together = absurd (omega (arith, classes_max T fair₀ Q.names))
  run_alike (suc f) zero Q Q' a h h' together = absurd (omega (arith, classes_max T' fair' Q'.names))
  run_alike (suc f) (suc g) Q Q' a h h' together = cases_of (ltb (chosen T' Q'.names) k)
      (λ q. let l = ltb-true _ _ q in
      let hc : chosen T Q.names < n = omega (arith, taken_old Q Q' a l, old_lt numbers (chosen T' Q'.names) l) in
      let on = run_on T Q hc f in
      let later : Together (live F) new old (run f T (onward T Q)).names =
      subst (λ (Q : Classes). Together (live F) new old Q.names) on together in
      let now : Together (live F) new old (onward T Q).names = λ s v.
      let o = numbers.old_live (new s) (numbers.new_lt s v) in
      run_refines T fair₀ s (old (new s)) (inside s v) (inside (old (new s)) o) v o
      f (onward T Q) (onward_good T Q hc fair₀ a.good₀) (later s v) in
      let most : n < f + classes n (onward T Q).names = omega (arith, onward_grows T Q hc fair₀ a.good₀) in
      let most' : k < g + classes k (onward T' Q').names = omega (arith, onward_grows T' Q' l fair' a.good') in
      rw (on, run_on T' Q' l g) (run_alike f g (onward T Q) (onward T' Q') (onward_alike Q Q' a l now) most most' later))
      (λ q. let l = ltb-false _ _ q in rw (run_over T Q f (taken_neither Q Q' a l), run_over T' Q' g l) a)

  ends_together : Together (live F) new old ends
  ends_together s l = sym (ap (at ends) (name_of_lem n ends right s (seated s l)) ∙ right.own s (inside s l) (seated s l).seat)

  ends_alike : Alike (reduce F) (reduce R)
  unfolding reduce reduction begin
  ends_alike = run_alike n k (begin T) (begin T') begin_alike
      (omega (arith, classes_some T fair₀ (initial T) (initial_good T fair₀)))
      (omega (arith, classes_some T' fair' (initial T') (initial_good T' fair')))
      ends_together

  -- in the end each state of the reduced filter is a class of its own
  ends_alone : Alone k (reduce R).names
  ends_alone i h =
      let m = ends_alike.mirror in
      let o = numbered i h in
      old_one numbers (at (reduce R).names i) i (m.below i h) h
      (sym (name_is_old m (old i) i (numbers.old_live i h) o.1) ∙ o.2)

  edges_listed : R.edges ≡ listed (edge' (edge F) n ends) k R.labels
  unfolding reduced merged
  edges_listed = ap (λ (i : ℕ). listed (edge' (edge F) n ends) i F.labels) (sym (states-reduced F few ok))

  same_filter : reduced R ≡ R
  same_filter = merges R ∙ merged-alone R fits' (reduce R).names ends_alone (edge' (edge F) n ends) edges_listed

  same_list : class_list R ≡ tab k (λ s. s)
  unfolding class_list
  same_list = tab_cong k _ (λ s. s) (λ i h.
      ap (λ (b : Bool). pick b (number (reduce R).names i) 65535) (all_live i h) ∙ number-alone k (reduce R).names ends_alone i h)

-- Reduced again, a reduced filter stays what it is, each state keeps its number, and as many rounds are made.
pub reduced_again : (F : Filter) → states F ≤ 256 → in_order F ≡ true
    → (reduced (reduced F) ≡ reduced F)
    × (class_list (reduced F) ≡ tab (states (reduced F)) (λ s. s))
    × ((reduce (reduced F)).rounds ≡ (reduce F).rounds)
reduced_again F few ok = (same_filter F few ok, same_list F few ok, (ends_alike F few ok).rounds_same)
