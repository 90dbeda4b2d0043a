-- Leftovers have no say: two filters with as many states and labels that differ only in the colours and edges of states that the start
-- cannot reach have one reduction, one class list and one reduced filter. Assumes nothing.
use Prim.Native.Nat.{ℕ, zero, suc, ◌≤◌, ◌<◌}
use Rattle.std.specs.Prelude.{◌≡◌, true, false, ◌&&◌, ltb}
use Rattle.std.proofs.Math.Path.{refl, sym, ap, ap₂, subst, fun_ext}
use Rattle.std.proofs.Common.{◌∙◌, arith}
use Rattle.std.proofs.Math.Bool.{Bool, not}
use Rattle.std.proofs.Math.Option.{Option, none, some}
use mathlib.Core.List.{List, [], ◌∷◌, ◌++◌}
use Rattle.std.proofs.Math.Dec.{eqb}
use borrow.Author.Tests.{eqb-true, ltb-true, ltb-false}
use Rattle.meaning.specs.Pick.{pick}
use Rattle.meaning.specs.Search.{least, tab, at}
use Rattle.meaning.specs.Cases.{cases_of, no_both, and_left}
use Rattle.meaning.specs.SearchLaws.{any_cong, least_cong, least_ok, least_max, tab_cong}
use Rattle.meaning.specs.Filter.{Filter, states, in_order}
use Rattle.meaning.specs.Trace.{edge, colour}
use Rattle.meaning.specs.Reach.{led}
use Rattle.meaning.proofs.ReachLaws.{led_on, led_some}
use Rattle.meaning.specs.Classes.{Task, Classes, initial, parted, first, free, groups, split, round, chosen, begin, cut, run, reduction, classes, number}
use Rattle.meaning.proofs.Reduction.{Fair, Good, run_on, run_over, good_live, initial_good, round_good, parted-chosen}
use Rattle.meaning.specs.Reduced.{apart, conflict, live, task_over, task, reduce, name_of, has, mapped, class_edge, edge', listed, merged_over, merged, reduced, class_list, distinct}
use Rattle.meaning.specs.Listing.{listed_cong}
use Rattle.meaning.proofs.Traced.{opt, name_is}
use Rattle.meaning.proofs.Demand.{fits, fair, good, start_live, target-live, live-led, led-live}

-- ---- tasks that agree about the states that take part

module _ (lives : ℕ → Bool) (next next' : ℕ → ℕ → Option ℕ) (hue hue' : ℕ → ℕ) (m n : ℕ)
    (edges : (s y : ℕ) → lives s ≡ true → next' s y ≡ next s y) (hues : (s : ℕ) → lives s ≡ true → hue' s ≡ hue s) where
  abbrev T : Task
  T = task_over lives groups next hue m n

  abbrev T' : Task
  T' = task_over lives groups next' hue' m n

  initial_same : initial T' ≡ initial T
  unfolding initial
  initial_same = tab_cong n _ _ (λ s h. cases_of (lives s)
      (λ q. rw q (least_cong _ _ n (λ t l. cases_of (lives t)
      (λ z. rw z (ap₂ eqb (hues t z) (hues s q)))
      (λ z. rw z))))
      (λ q. rw q))

  clash_same : (P : List ℕ) (s t : ℕ) → lives s ≡ true → lives t ≡ true → conflict next' m P s t ≡ conflict next m P s t
  unfolding conflict
  clash_same P s t ls lt = any_cong _ _ m (λ y h. ap₂ (apart P) (edges s y ls) (edges t y lt))

  module _ (fairly : Fair T) where
    module _ (P : List ℕ) (g : Good T P) (c : ℕ) (h : c < n) where
      member_live : (s : ℕ) → s < n → eqb (at P s) c ≡ true → lives s ≡ true
      member_live s l q = good_live T fairly P g s l (omega (arith, h, eqb-true (at P s) c q))

      parted_same : parted n (conflict next' m P) P c ≡ parted n (conflict next m P) P c
      unfolding parted
      parted_same = any_cong _ _ n (λ t lt. cases_of (eqb (at P t) c)
          (λ q. rw q (any_cong _ _ t (λ s ls. cases_of (eqb (at P s) c)
          (λ z. rw z (clash_same P s t (member_live s (omega arith) z) (member_live t lt q)))
          (λ z. rw z))))
          (λ q. rw q))

      -- the group of state k, from those of the states before it
      abbrev group_of : (ℕ → ℕ → Bool) → List ℕ → ℕ → ℕ
      group_of clash G k = elim (eqb (at P k) c) [ true ↦ free (λ s. eqb (at P s) c) clash G k | false ↦ 0 ]

      group_same : (G : List ℕ) (k : ℕ) → k < n → group_of (conflict next' m P) G k ≡ group_of (conflict next m P) G k
      unfolding free
      group_same G k l = cases_of (eqb (at P k) c)
          (λ q. rw (q, group_of) (least_cong _ _ k (λ i j. ap not (any_cong _ _ k (λ t b. cases_of (eqb (at P t) c)
          (λ z. rw z (ap (λ (x : Bool). x && eqb (at G t) i) (clash_same P t k (member_live t (omega arith) z) (member_live k l q))))
          (λ z. rw z))))))
          (λ q. rw (q, group_of))

      groups_same : (k : ℕ) → k ≤ n → groups (λ s. eqb (at P s) c) (conflict next' m P) k ≡ groups (λ s. eqb (at P s) c) (conflict next m P) k
      unfolding groups
      groups_same zero l = refl
      groups_same (suc k) l =
          ap (λ (G : List ℕ). G ++ (group_of (conflict next' m P) G k ∷ [])) (groups_same k (omega arith))
          ∙ ap (λ (x : ℕ). groups (λ s. eqb (at P s) c) (conflict next m P) k ++ (x ∷ [])) (group_same _ k (omega arith))

      round_same : round T' P c ≡ round T P c
      unfolding round
      round_same = ap (split n P c) (groups_same n (omega arith))

    chosen_same : (P : List ℕ) → Good T P → chosen T' P ≡ chosen T P
    unfolding chosen first
    chosen_same P g = least_cong _ _ n (λ c h. parted_same P g c h)

    run_same : (f : ℕ) (Q : Classes) → Good T Q.names → run f T' Q ≡ run f T Q
    unfolding run cut
    run_same zero Q g = refl
    run_same (suc f) Q g =
        let P = Q.names in
        let c = chosen T P in
        let same = chosen_same P g in
        cases_of (ltb c n)
        (λ q. let h = ltb-true c n q in
        let onward : cut T' Q (chosen T' P) ≡ cut T Q c =
        ap (cut T' Q) same ∙ ap (λ (R : List ℕ). record { names = R; rounds = suc Q.rounds }) (round_same P g c h) in
        run_on T' Q (omega (arith, h, same)) f ∙ ap (run f T') onward
        ∙ run_same f (cut T Q c) (round_good T fairly P g c h (parted-chosen T fairly P h)) ∙ sym (run_on T Q h f))
        (λ q. let h = ltb-false c n q in run_over T' Q f (omega (arith, h, same)) ∙ sym (run_over T Q f h))

    reduction_same : reduction T' ≡ reduction T
    unfolding reduction begin
    reduction_same =
        ap (λ (P : List ℕ). run n T' (record { names = P; rounds = 0 })) initial_same
        ∙ run_same n (record { names = initial T; rounds = 0 }) (initial_good T fairly)

    -- ---- and so does what is merged

    module _ (P : List ℕ) (g : Good T P) (bare : (y : ℕ) → next n y ≡ none) (bare' : (y : ℕ) → next' n y ≡ none) where
      name_live : (k : ℕ) → k < classes n P → lives (name_of n P k) ≡ true
      name_live k h = let i = name_is n P k h in good_live T fairly P g (name_of n P k) i.0 (omega (arith, i.0, i.2))

      edge_same : (k y : ℕ) → k < classes n P → edge' next' n P k y ≡ edge' next n P k y
      unfolding edge' class_edge
      edge_same k y h =
          let c = name_of n P k in
          let low = (name_is n P k h).0 in
          let p : ℕ → Bool = λ s. eqb (at P s) c && has (next s y) in
          let same : least (λ s. eqb (at P s) c && has (next' s y)) n ≡ least p n = least_cong _ _ n (λ s l. cases_of (eqb (at P s) c)
          (λ q. rw q (ap has (edges s y (member_live P g c low s l q))))
          (λ q. rw q)) in
          let at_least : next' (least p n) y ≡ next (least p n) y = cases_of (ltb (least p n) n)
          (λ q. let l = ltb-true (least p n) n q in
          edges (least p n) y (member_live P g c low (least p n) l (and_left (eqb (at P (least p n)) c) _ (least_ok p n l))))
          (λ q. let nobody : least p n ≡ n = omega (arith, ltb-false (least p n) n q, least_max p n) in
          ap (λ (s : ℕ). next' s y) nobody ∙ bare' y ∙ sym (ap (λ (s : ℕ). next s y) nobody ∙ bare y)) in
          ap (λ (s : ℕ). mapped P (next' s y)) same ∙ ap (mapped P) at_least

      merged_same : (start : ℕ) → merged_over next' hue' n m start P ≡ merged_over next hue n m start P
      merged_same start =
          let colours-same : tab (classes n P) (λ k. hue' (name_of n P k)) ≡ tab (classes n P) (λ k. hue (name_of n P k)) =
          tab_cong (classes n P) _ _ (λ k h. hues (name_of n P k) (name_live k h)) in
          let edges-same : listed (edge' next' n P) (classes n P) m ≡ listed (edge' next n P) (classes n P) m =
          listed_cong _ _ (classes n P) m (λ k y h l. edge_same k y h) in
          λ i. record { colours = colours-same i; labels = m; start = number P start; edges = edges-same i }

-- ---- filters that agree about what the start can reach

-- As many states, as many labels, the same start, and at each state that F's start can reach the same colour and the same edges.
pub record AsReached (F G : Filter) : Type 0 where
  pub size : states G ≡ states F
  pub labels : G.labels ≡ F.labels
  pub start : G.start ≡ F.start
  pub edges : (s y : ℕ) → live F s ≡ true → edge G s y ≡ edge F s y
  pub hues : (s : ℕ) → live F s ≡ true → colour G s ≡ colour F s

module _ (F G : Filter) (few : states F ≤ 256) (ok : in_order F ≡ true) (ok' : in_order G ≡ true) (like : AsReached F G) where
  few' : states G ≤ 256
  few' = omega (arith, few, like.size)

  -- a sequence leads to the same state in both
  led_down : (ys : List ℕ) (s t : ℕ) → live F s ≡ true → led (edge G) s ys ≡ some t → led (edge F) s ys ≡ some t
  unfolding led
  led_down [] s t l e = e
  led_down (y ∷ ys) s t l e =
      let (u, q, r) = led_some (edge G) s y t ys e in
      let q' = sym (like.edges s y l) ∙ q in
      led_on (edge F) s y u ys q' ∙ led_down ys u t (target-live F few ok s y u l q') r

  led_up : (ys : List ℕ) (s t : ℕ) → live F s ≡ true → led (edge F) s ys ≡ some t → led (edge G) s ys ≡ some t
  unfolding led
  led_up [] s t l e = e
  led_up (y ∷ ys) s t l e =
      let (u, q, r) = led_some (edge F) s y t ys e in
      led_on (edge G) s y u ys (like.edges s y l ∙ q) ∙ led_up ys u t (target-live F few ok s y u l q) r

  begins : live F F.start ≡ true
  begins = start_live F few ok

  live_same : live G ≡ live F
  live_same = fun_ext λ s. cases_of (live F s)
      (λ q. let (ys, e) = live-led F few ok s q in
      led-live G few' ok' ys s (subst (λ (b : ℕ). led (edge G) b ys ≡ some s) (sym like.start) (led_up ys F.start s begins e)) ∙ sym q)
      (λ q. cases_of (live G s)
      (λ z. let (ys, e) = live-led G few' ok' s z in
      no_both (led-live F few ok ys s (led_down ys F.start s begins (subst (λ (b : ℕ). led (edge G) b ys ≡ some s) like.start e))) q)
      (λ z. z ∙ sym q))

  abbrev H : Task
  H = task_over (live F) groups (edge G) (colour G) F.labels (states F)

  task_like : task G ≡ H
  task_like =
      ap₂ (λ (l : ℕ → Bool) (k : ℕ). task_over l groups (edge G) (colour G) G.labels k) live_same like.size
      ∙ ap (λ (m : ℕ). task_over (live F) groups (edge G) (colour G) m (states F)) like.labels

  reduce_same : reduce G ≡ reduce F
  unfolding reduce
  reduce_same = ap reduction task_like
      ∙ reduction_same (live F) (edge F) (edge G) (colour F) (colour G) F.labels (states F) like.edges like.hues (fair F few ok)

  bare : (K : Filter) → states K ≤ 256 → in_order K ≡ true → (y : ℕ) → edge K (states K) y ≡ none
  bare K l o y = opt (edge K (states K) y) (λ q. q) (λ t q. absurd (omega (arith, ((fits K l o).within (states K) y t q).0)))

  reduced_same : reduced G ≡ reduced F
  unfolding reduced merged
  reduced_same =
      ap₂ (λ (k : ℕ) (P : List ℕ). merged_over (edge G) (colour G) k G.labels G.start P) like.size (ap (λ (Q : Classes). Q.names) reduce_same)
      ∙ ap₂ (λ (m b : ℕ). merged_over (edge G) (colour G) (states F) m b (reduce F).names) like.labels like.start
      ∙ merged_same (live F) (edge F) (edge G) (colour F) (colour G) F.labels (states F) like.edges like.hues (fair F few ok)
      (reduce F).names (good F few ok) (bare F few ok)
      (λ y. subst (λ (k : ℕ). edge G k y ≡ none) like.size (bare G few' ok' y)) F.start

  list_same : class_list G ≡ class_list F
  unfolding class_list
  list_same =
      ap₂ (λ (k : ℕ) (P : List ℕ). tab k (λ s. pick (live G s) (number P s) 65535)) like.size (ap (λ (Q : Classes). Q.names) reduce_same)
      ∙ ap (λ (l : ℕ → Bool). tab (states F) (λ s. pick (l s) (number (reduce F).names s) 65535)) live_same

  distinct_same : distinct G ≡ distinct F
  unfolding distinct
  distinct_same =
      ap₂ (λ (k : ℕ) (T : Task). classes k (initial T)) like.size task_like
      ∙ ap (classes (states F))
      (initial_same (live F) (edge F) (edge G) (colour F) (colour G) F.labels (states F) like.edges like.hues)

-- Demand 2 reads over the reached part: whatever colours and edges the leftovers have, there is one class list, one reduced filter, one count
-- of rounds and one of colours.
pub leftovers_idle : (F G : Filter) → states F ≤ 256 → in_order F ≡ true → in_order G ≡ true → AsReached F G
    → (reduce G ≡ reduce F) × (reduced G ≡ reduced F) × (class_list G ≡ class_list F) × (distinct G ≡ distinct F)
leftovers_idle F G few ok ok' like =
    (reduce_same F G few ok ok' like, reduced_same F G few ok ok' like, list_same F G few ok ok' like, distinct_same F G few ok ok' like)
