-- What the dropped states, which the start cannot reach, have to do with a filter and its reduction: nothing. A filter's ride is that
-- of its reached part, the class list tells the dropped states, and a reduced filter has none. Assumes nothing.
use Rattle.std.specs.Prelude.{ℕ, ◌≤◌, ◌<◌, refl, true, false, ltb, length}
use Rattle.std.proofs.Math.Path.{◌≡◌, sym, ap, ap₂}
use Rattle.std.proofs.Common.{◌∙◌, arith}
use Rattle.std.proofs.Math.Option.{Option, none, some}
use mathlib.Core.List.{List, [], ◌∷◌}
use borrow.Author.Tests.{eq-eqb, ne_eqb, lt-ltb, ltb-true}
use Rattle.meaning.specs.Pick.{pick}
use Rattle.meaning.specs.Search.{count, tab, at}
use Rattle.meaning.specs.Cases.{cases_of, impossible}
use Rattle.meaning.specs.SearchLaws.{least_empty, at_tab, length-tab, count_cong}
use Rattle.meaning.specs.TraceLaws.{ridden_on, ridden_stop, halted_on, halted_stop}
use Rattle.meaning.specs.Reach.{led}
use Rattle.meaning.proofs.ReachLaws.{led_on, led_some}
use Rattle.meaning.specs.Filter.{Filter, states, in_order}
use Rattle.meaning.specs.Trace.{colour, edge, later, ridden, halted, shown, stops}
use Rattle.meaning.specs.Classes.{chosen, first, parted, named, classes, number}
use Rattle.meaning.specs.ClassesLaws.{pair}
use Rattle.meaning.proofs.Reduction.{Good}
use Rattle.meaning.specs.Reduced.{live, task, conflict, edge', name_of, merged, reduce, reduced, class_list}
use Rattle.meaning.specs.Listing.{find_listed, find_each, each-listed}
use Rattle.meaning.proofs.Traced.{In, Fits, opt, number_lt, name_of_lem, name_is, colour_kept, edge_kept}
use Rattle.meaning.proofs.Demand.{fits, start_live, target-live, live_lt, live-led, led-live, good, calm_end, live_in, in_live, onward}
use Rattle.meaning.proofs.Demand.{source, states-reduced, reduced-in_order, reduced-bound}

-- Names by which each reached state is a class of its own, and a dropped one is in none.
unfoldable pub alone : Filter → List ℕ
alone F = tab (states F) (λ s. pick (live F s) s 65535)

-- The reached part of a filter: the reached states alone, numbered 0 upward in their order, with their colours and edges.
unfoldable pub reached_part : Filter → Filter
reached_part F = merged F (alone F)

-- ---- a filter and classes with no conflicting pair

module _ (F : Filter) (f : Fits F) (P : List ℕ) (g : Good (task F) P)
    (leads : (s y t : ℕ) → In (states F) P s → edge F s y ≡ some t → In (states F) P t)
    (still : states F ≤ chosen (task F) P) where
  -- where a sequence leads in the filter, it leads to that state's class
  led_kept : (ys : List ℕ) (s t : ℕ) → In (states F) P s → led (edge F) s ys ≡ some t
      → led (edge (merged F P)) (number P s) ys ≡ some (number P t)
  unfolding led
  led_kept [] s t h e = let z : s ≡ t = cc in ap (λ (u : ℕ). some (number P u)) z
  led_kept (y ∷ ys) s t h e =
      let (u, q, r) = led_some (edge F) s y t ys e in
      led_on (edge (merged F P)) (number P s) y (number P u) ys (edge_kept F f P g leads still s y u h q)
      ∙ led_kept ys u t (leads s y u h q) r

-- an edge of a merged filter has a label of the filter
merged_label : (F : Filter) (P : List ℕ) (k y t : ℕ) → edge (merged F P) k y ≡ some t → y < F.labels
unfolding merged edge
merged_label F P k y t e = ltb-true _ _ (find_each (λ d. ltb d.label F.labels) (merged F P).edges k y t
    (each-listed (λ d. ltb d.label F.labels) (edge' (edge F) (states F) P) (classes (states F) P) F.labels
    (λ a b t ha hb o. lt-ltb b F.labels hb)) e)

-- the class list has an entry for each state
pub list_length : (F : Filter) → length (class_list F) ≡ states F
unfolding class_list
list_length F = length-tab (states F) _

module _ (F : Filter) (few : states F ≤ 256) (ok : in_order F ≡ true) where
  abbrev n : ℕ
  n = states F

  -- ---- the reduced filter

  reduced_few : states (reduced F) ≤ 256
  reduced_few = let b = reduced-bound F few ok in omega (arith, few, b.1, b.2)

  -- the start of the reduced filter reaches each of its states
  pub reduced-reached : (i : ℕ) → i < states (reduced F) → live (reduced F) i ≡ true
  unfolding reduced merged
  reduced-reached i h =
      let P = (reduce F).names in
      let m = name_is n P i (omega (arith, states-reduced F few ok)) in
      let s = name_of n P i in
      let inside : In n P s = record { state = m.0; seat = omega (arith, m.0, m.2) } in
      let (ys, e) = live-led F few ok s (in_live F few ok s inside) in
      let begins = live_in F few ok F.start (fits F few ok).begins (start_live F few ok) in
      led-live (reduced F) reduced_few (reduced-in_order F few ok) ys i
      (led_kept F (fits F few ok) P (good F few ok) (onward F few ok) (calm_end F few ok) ys F.start s begins e ∙ ap some m.1)

  -- ---- the class list

  -- a state that takes part gets the number of its class
  pub list_live : (s : ℕ) → s < states F → live F s ≡ true → at (class_list F) s ≡ number (reduce F).names s
  unfolding class_list
  list_live s h l = at_tab n _ s h ∙ rw l

  -- which is a state's number in the reduced filter
  pub list_number : (s : ℕ) → s < states F → live F s ≡ true → at (class_list F) s < states (reduced F)
  list_number s h l = omega (
    arith,
    list_live s h l,
    number_lt n (reduce F).names (good F few ok).right s (live_in F few ok s h l),
    states-reduced F few ok,
  )

  -- and a dropped one 65,535, which is none's
  pub list_dropped : (s : ℕ) → s < states F → live F s ≡ false → at (class_list F) s ≡ 65535
  unfolding class_list
  list_dropped s h l = at_tab n _ s h ∙ rw l

  -- so the list tells which states a sequence leads to from the start, and which none does
  pub list_led : (s : ℕ) → s < states F → (at (class_list F) s ≡ 65535 → ⊥) → (ys : List ℕ) × (led (edge F) F.start ys ≡ some s)
  list_led s h e = live-led F few ok s (cases_of (live F s) (λ q. q) (λ q. absurd (e (list_dropped s h q))))

  pub list_not_led : (s : ℕ) → s < states F → at (class_list F) s ≡ 65535 → (ys : List ℕ) → led (edge F) F.start ys ≡ some s → ⊥
  list_not_led s h e ys q =
      let w = list_number s h (led-live F few ok ys s q) in
      omega (arith, w, e, reduced_few)

  -- ---- the reached part

  alone-live : (s : ℕ) → s < n → live F s ≡ true → at (alone F) s ≡ s
  unfolding alone
  alone-live s h l = at_tab n _ s h ∙ rw l

  alone_dropped : (s : ℕ) → s < n → live F s ≡ false → at (alone F) s ≡ 65535
  unfolding alone
  alone_dropped s h l = at_tab n _ s h ∙ rw l

  alone_in : (s : ℕ) → s < n → at (alone F) s < n → live F s ≡ true
  alone_in s h l = cases_of (live F s) (λ q. q) (λ q. absurd (omega (arith, few, alone_dropped s h q)))

  -- a state in a class is that class's name
  alone_own : (s : ℕ) → s < n → at (alone F) s < n → at (alone F) s ≡ s
  alone_own s h l = alone-live s h (alone_in s h l)

  alone_good : Good (task F) (alone F)
  alone_good = record {
    right = record {
      low = λ s h l. omega (arith, alone_own s h l);
      own = λ s h l. ap (at (alone F)) (alone_own s h l);
    };
    all = λ s h l. omega (arith, h, alone-live s h l);
    out = alone_dropped;
    hue = λ s h l. ap (colour F) (alone_own s h l);
  }

  alone-leads : (s y t : ℕ) → In n (alone F) s → edge F s y ≡ some t → In n (alone F) t
  alone-leads s y t h e =
      let l = target-live F few ok s y t (alone_in s h.state h.seat) e in
      let w = live_lt F few ok t l in
      record { state = w; seat = alone_good.all t w l }

  alone_still : n ≤ chosen (task F) (alone F)
  unfolding chosen first
  alone_still = least_empty (parted n (conflict (edge F) F.labels (alone F)) (alone F)) n (λ c h. cases_of
      (parted n (conflict (edge F) F.labels (alone F)) (alone F) c)
      (λ q. let p = pair n (conflict (edge F) F.labels (alone F)) (alone F) c q in
      let a = alone_own p.lower (omega (arith, p.ascend, p.inside)) (omega (arith, h, p.lower_in)) in
      let b = alone_own p.higher p.inside (omega (arith, h, p.higher_in)) in
      absurd (omega (arith, p.ascend, a, b, p.lower_in, p.higher_in)))
      (λ q. q))

  -- where a state has no edge, it has none in the reached part
  edge_missing : (s y : ℕ) → In n (alone F) s → edge F s y ≡ none → edge (merged F (alone F)) (number (alone F) s) y ≡ none
  unfolding merged edge
  edge_missing s y h e = opt (edge (merged F (alone F)) (number (alone F) s) y) (λ o. o) (λ k o.
      let P = alone F in
      let l = merged_label F P (number P s) y k o in
      let i = number_lt n P alone_good.right s h in
      let listed_at = find_listed (number P s) y (edge' (edge F) n P) (classes n P) F.labels i l in
      let r = source F (fits F few ok) P (number P s) y k i (sym listed_at ∙ o) in
      let c : at P r.from ≡ at P s = r.at_class ∙ name_of_lem n P alone_good.right s h in
      let same : r.from ≡ s = sym (alone_own r.from r.is_state (omega (arith, c, h.seat))) ∙ c ∙ alone_own s h.state h.seat in
      let z : ◌≡◌ {A = Option ℕ} (some r.to) none = sym r.has_edge ∙ ap (λ (u : ℕ). edge F u y) same ∙ e in
      impossible cc)

  -- a ride goes the same way in both
  rides_alike : (ys : List ℕ) (s : ℕ) → In n (alone F) s
      → (halted (edge (merged F (alone F))) (number (alone F) s) ys ≡ halted (edge F) s ys)
      × (ridden (edge (merged F (alone F))) (colour (merged F (alone F))) (number (alone F) s) ys ≡ ridden (edge F) (colour F) s ys)
  unfolding halted ridden
  rides_alike [] s h = (refl, ap (λ (c : ℕ). c ∷ []) (colour_kept F (fits F few ok) (alone F) alone_good alone-leads alone_still s h))
  rides_alike (y ∷ ys) s h =
      let R = merged F (alone F) in
      let k = number (alone F) s in
      let hue = colour_kept F (fits F few ok) (alone F) alone_good alone-leads alone_still s h in
      opt (edge F s y)
      (λ o. let m = edge_missing s y h o in (
        halted_stop (edge R) k y ys m ∙ sym (halted_stop (edge F) s y ys o),
        ridden_stop (edge R) (colour R) k y ys m ∙ ap (λ (c : ℕ). c ∷ []) hue ∙ sym (ridden_stop (edge F) (colour F) s y ys o),
      ))
      (λ t o. let m = edge_kept F (fits F few ok) (alone F) alone_good alone-leads alone_still s y t h o in
      let r = rides_alike ys t (alone-leads s y t h o) in (
        halted_on (edge R) k y (number (alone F) t) ys m ∙ ap later r.0 ∙ sym (halted_on (edge F) s y t ys o),
        ridden_on (edge R) (colour R) k y (number (alone F) t) ys m ∙ ap₂ {C = List ℕ} (λ c cs. c ∷ cs) hue r.1
            ∙ sym (ridden_on (edge F) (colour F) s y t ys o),
      ))

  -- what a filter traces and shows is what its reached part traces and shows
  pub part_rides : (ys : List ℕ) → (stops (reached_part F) ys ≡ stops F ys) × (shown (reached_part F) ys ≡ shown F ys)
  unfolding reached_part merged stops shown
  part_rides ys =
      let b = (fits F few ok).begins in
      rides_alike ys F.start (record { state = b; seat = alone_good.all F.start b (start_live F few ok) })

  -- and it has as many states as the start can reach
  pub part_states : states (reached_part F) ≡ count (live F) (states F)
  unfolding reached_part merged classes
  part_states = length-tab _ _ ∙ count_cong (named (alone F)) (live F) n (λ s h. cases_of (live F s)
      (λ q. eq-eqb (at (alone F) s) s (alone-live s h q) ∙ sym q)
      (λ q. ne_eqb (at (alone F) s) s (λ z. omega (arith, few, alone_dropped s h q)) ∙ sym q))
