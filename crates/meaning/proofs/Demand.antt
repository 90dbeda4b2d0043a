-- The statements about the whole: of a filter in order with at most 256 states, the reduced filter is in order, has no more
-- states than the start can reach and no more edges, and traces whatever the filter traces, with the same colours. Assumes nothing.
use Rattle.std.specs.Prelude.{ℕ, zero, suc, ◌+◌, ◌≤◌, ◌<◌, ◌≡◌, refl, Bool, false, ◌&&◌, ◌||◌, List, [], ◌∷◌, eqb, length}
use Rattle.std.proofs.Common.{sym, ap, ◌∙◌, arith}
use Rattle.std.proofs.Math.Path.{subst}
use Rattle.std.proofs.Math.Bool.{true}
use Rattle.std.proofs.Math.Option.{Option, none, some}
use Rattle.std.proofs.Math.Dec.{ltb}
use borrow.Author.Tests.{eqb-true, eq-eqb, lt-ltb, ltb-true}
use Rattle.meaning.specs.Search.{least, count, at}
use Rattle.meaning.specs.Cases.{or_left, cases_of, same², and_intro, and_left, and_right, no_both, or_right}
use Rattle.meaning.specs.SearchLaws.{count_max, count_none, least_ok, length-tab}
use Rattle.meaning.specs.Classes.{chosen, named, classes, number}
use Rattle.meaning.specs.ClassesLaws.{groups-apart}
use Rattle.meaning.proofs.Reduction.{Fair, Good, good_live, reduction_kept, reduction_calm, reduction-bound}
use Rattle.meaning.specs.Reach.{led}
use Rattle.meaning.proofs.ReachLaws.{Bounded, reached-first, reached_on, reached_lt, reached-led, led-reached}
use Rattle.meaning.specs.Filter.{Edge, Filter, states, each, ascending, inside, in_order}
use Rattle.meaning.specs.Trace.{colour, edge, target, shown, stops}
use Rattle.meaning.specs.Reduced.{live, task, has, mapped, class_edge, edge', merged, reduce, reduced, name_of, distinct}
use Rattle.meaning.proofs.Colours.{occurring, classes-occurring}
use Rattle.meaning.specs.Listing.{find_listed, find_each, cells, listed-length, cells_mono, cells_on, each-listed, listed_ascends}
use Rattle.meaning.proofs.Traced.{Fits, opt, number_lt, name_is, In, colour_kept, edge_kept, traced}

pub fits : (F : Filter) → states F ≤ 256 → in_order F ≡ true → Fits F
unfolding in_order inside edge
fits F few a =
    let n = states F in
    let i = and_left (each (inside n F.labels) F.edges) (ascending F.edges) (and_right (ltb F.start n) _ a) in
    record {
      few = few;
      begins = ltb-true _ _ (and_left (ltb F.start n) _ a);
      within = λ s y t e.
          let q = find_each (inside n F.labels) F.edges s y t i e in
          let v = and_right (ltb s n) (ltb y F.labels && ltb t n) q in (
            ltb-true _ _ (and_left (ltb s n) (ltb y F.labels && ltb t n) q),
            ltb-true _ _ (and_left (ltb y F.labels) (ltb t n) v),
            ltb-true _ _ (and_right (ltb y F.labels) (ltb t n) v),
          );
    }

-- ---- the edges of classes

mapped_some : (P : List ℕ) (o : Option ℕ) (k : ℕ) → mapped P o ≡ some k → (t : ℕ) × (o ≡ some t) × (number P t ≡ k)
unfolding mapped
mapped_some P none k e = let z : ◌≡◌ {A = ℕ} 0 1 = cc in absurd (omega arith)
mapped_some P (some t) k e = (t, refl, cc)

-- a member that has the edge
pub record Source (F : Filter) (P : List ℕ) (k y k' : ℕ) : Type 0 where
  pub from : ℕ
  pub to : ℕ
  pub is_state : from < states F
  pub of_class : number P from ≡ k
  pub at_class : at P from ≡ name_of (states F) P k
  pub has_edge : edge F from y ≡ some to
  pub to_class : number P to ≡ k'

pub source : (F : Filter) → Fits F → (P : List ℕ) (k y k' : ℕ) → k < classes (states F) P → edge' (edge F) (states F) P k y ≡ some k' → Source F P k y k'
unfolding edge' class_edge number
source F f P k y k' h e =
    let c = name_of (states F) P k in
    let m = name_is (states F) P k h in
    let p : ℕ → Bool = λ s. eqb (at P s) c && has (edge F s y) in
    let u = least p (states F) in
    let r = mapped_some P (edge F u y) k' e in
    let l = (f.within u y r.0 r.1).0 in
    let q : at P u ≡ c = eqb-true (at P u) c (and_left (eqb (at P u) c) (has (edge F u y)) (least_ok p (states F) l)) in
    record {
      from = u;
      to = r.0;
      is_state = l;
      of_class = ap (count (named P)) (q ∙ sym m.2) ∙ m.1;
      at_class = q;
      has_edge = r.1;
      to_class = r.2;
    }

-- ---- how many

cells_none : (n m : ℕ) → cells (λ a b. false) n m ≡ 0
unfolding cells
cells_none zero m = refl
cells_none (suc n) m = rw (cells_none n m, count_none m)

keyed : List ℕ → List Edge → ℕ → ℕ → Bool
keyed P [] a b = false
keyed P (e ∷ es) a b = keyed P es a b || (eqb a (number P e.source) && eqb b e.label)

keyed_most : (P : List ℕ) (n m : ℕ) (es : List Edge) → cells (keyed P es) n m ≤ length es
unfolding keyed
keyed_most P n m [] = omega (arith, cells_none n m)
keyed_most P n m (e ∷ es) = omega (arith, cells_on (number P e.source) e.label (keyed P es) n m, keyed_most P n m es)

keyed_find : (P : List ℕ) (es : List Edge) (s y t : ℕ) → target es s y ≡ some t → keyed P es (number P s) y ≡ true
unfolding keyed target
keyed_find P [] s y t e = cc
keyed_find P (d ∷ es) s y t e = cases_of (eqb d.source s && eqb d.label y)
    (λ q. let r = same² d.source s d.label y q in
    or_right (keyed P es (number P s) y) (and_intro (eq-eqb _ _ (ap (number P) (sym r.0))) (eq-eqb _ _ (sym r.1))))
    (λ q. or_left (eqb (number P s) (number P d.source) && eqb y d.label) (keyed_find P es s y t (rw (q, target) at e)))

pub merged_shorter : (F : Filter) → Fits F → (P : List ℕ) → length (merged F P).edges ≤ length F.edges
unfolding merged edge
merged_shorter F f P =
    let n = classes (states F) P in
    omega (
      arith,
      listed-length (edge' (edge F) (states F) P) n F.labels,
      keyed_most P n F.labels F.edges,
      cells_mono (λ a b. has (edge' (edge F) (states F) P a b)) (keyed P F.edges) n F.labels (λ a b k l e. opt (edge' (edge F) (states F) P a b)
          (λ o. no_both e (rw o))
          (λ t o. let r = source F f P a b t k o in
          subst (λ (c : ℕ). keyed P F.edges c b ≡ true) r.of_class (keyed_find P F.edges r.from b r.to r.has_edge))),
    )

-- ---- the reduction of an accepted filter

module _ (F : Filter) (few : states F ≤ 256) (ok : in_order F ≡ true) where
  bounded : Bounded (edge F) F.labels (states F) F.start
  bounded =
      let f = fits F few ok in
      record { begins = f.begins; label_lt = λ s y t e. (f.within s y t e).1; target_lt = λ s y t e. (f.within s y t e).2 }

  pub start_live : live F F.start ≡ true
  unfolding live
  start_live = reached-first (edge F) F.labels (states F) F.start bounded

  pub target-live : (s y t : ℕ) → live F s ≡ true → edge F s y ≡ some t → live F t ≡ true
  unfolding live
  target-live = reached_on (edge F) F.labels (states F) F.start bounded

  pub live_lt : (s : ℕ) → live F s ≡ true → s < states F
  unfolding live
  live_lt = reached_lt (edge F) F.labels (states F) F.start bounded

  -- a state takes part exactly where some sequence of observations leads to it from the start
  pub live-led : (s : ℕ) → live F s ≡ true → (ys : List ℕ) × (led (edge F) F.start ys ≡ some s)
  unfolding live
  live-led = reached-led (edge F) F.labels (states F) F.start bounded

  pub led-live : (ys : List ℕ) (s : ℕ) → led (edge F) F.start ys ≡ some s → live F s ≡ true
  unfolding live
  led-live = led-reached (edge F) F.labels (states F) F.start bounded

  pub fair : Fair (task F)
  fair = record {
    small = omega (arith, (fits F few ok).few);
    somebody = (F.start, (fits F few ok).begins, start_live);
    proper = λ mem clash. groups-apart mem clash (states F);
  }

  pub good : Good (task F) (reduce F).names
  unfolding reduce
  good = (reduction_kept (task F) fair).good

  -- no class has a conflicting pair
  pub calm_end : states F ≤ chosen (task F) (reduce F).names
  unfolding reduce
  calm_end = reduction_calm (task F) fair

  pub live_in : (s : ℕ) → s < states F → live F s ≡ true → In (states F) (reduce F).names s
  live_in s h l = record { state = h; seat = good.all s h l }

  pub in_live : (s : ℕ) → In (states F) (reduce F).names s → live F s ≡ true
  in_live s h = good_live (task F) fair (reduce F).names good s h.state h.seat

  pub onward : (s y t : ℕ) → In (states F) (reduce F).names s → edge F s y ≡ some t → In (states F) (reduce F).names t
  onward s y t h e = live_in t ((fits F few ok).within s y t e).2 (target-live s y t (in_live s h) e)

  pub states-reduced : states (reduced F) ≡ classes (states F) (reduce F).names
  unfolding reduced merged
  states-reduced = length-tab _ _

  -- the reduced filter is in order
  pub reduced-in_order : in_order (reduced F) ≡ true
  unfolding reduced merged in_order inside
  reduced-in_order =
      let P = (reduce F).names in
      let R = reduced F in
      let k = classes (states F) P in
      let size : (a : ℕ) → a < k → ltb a (states R) ≡ true = λ a h. lt-ltb a (states R) (rw states-reduced h) in
      let begin = number_lt (states F) P good.right F.start (live_in F.start (fits F few ok).begins start_live) in
      and_intro (size (number P F.start) begin)
      (and_intro
      (each-listed (inside (states R) F.labels) (edge' (edge F) (states F) P) k F.labels (λ a b t ha hb e.
      let r = source F (fits F few ok) P a b t ha e in
      let m = name_is (states F) P a ha in
      let ht : t < k = subst (λ (c : ℕ). c < k) r.to_class (number_lt (states F) P good.right r.to
      (onward r.from b r.to (record { state = r.is_state; seat = omega (arith, m.0, r.at_class) }) r.has_edge)) in
      and_intro (size a ha) (and_intro (lt-ltb b F.labels hb) (size t ht))))
      (listed_ascends (edge' (edge F) (states F) P) k F.labels))

  -- rounds + distinct colours ≤ reduced states ≤ states that take part ≤ states
  pub reduced-bound : ((reduce F).rounds + distinct F ≤ states (reduced F)) × (states (reduced F) ≤ count (live F) (states F)) × (count (live F) (states F) ≤ states F)
  unfolding reduce distinct
  reduced-bound = let b = reduction-bound (task F) fair in (rw states-reduced b.0, rw states-reduced b.1, count_max (live F) (states F))

  -- distinct colours are those that states which take part have, whatever bounds them
  pub distinct-occurring : (k : ℕ) → ((s : ℕ) → s < states F → colour F s < k) → distinct F ≡ occurring (live F) (colour F) (states F) k
  unfolding distinct
  distinct-occurring k h = classes-occurring (task F) fair k h

  pub reduced_edges : length (reduced F).edges ≤ length F.edges
  unfolding reduced
  reduced_edges = merged_shorter F (fits F few ok) (reduce F).names

  -- every sequence that the filter traces, the reduced one traces, with the same colours
  pub reduced_traces : (ys : List ℕ) → stops F ys ≡ none → (stops (reduced F) ys ≡ none) × (shown (reduced F) ys ≡ shown F ys)
  unfolding reduced merged stops shown
  reduced_traces ys e = traced F (fits F few ok) (reduce F).names good onward calm_end ys F.start (live_in F.start (fits F few ok).begins start_live) e

  -- an edge stands where some member has it, and only there
  pub reduced-edge : (k y k' : ℕ) → k < states (reduced F) → y < F.labels → edge (reduced F) k y ≡ some k' → Source F (reduce F).names k y k'
  unfolding reduced merged edge
  reduced-edge k y k' h l e =
      let w = rw states-reduced at h in
      source F (fits F few ok) (reduce F).names k y k' w (sym (find_listed k y _ _ F.labels w l) ∙ e)

  pub reduced-has : (s y t : ℕ) → s < states F → live F s ≡ true → edge F s y ≡ some t → edge (reduced F) (number (reduce F).names s) y ≡ some (number (reduce F).names t)
  unfolding reduced
  reduced-has s y t h l e = edge_kept F (fits F few ok) (reduce F).names good onward calm_end s y t (live_in s h l) e

  -- the colour of a reduced state is that of the members
  pub reduced-colour : (s : ℕ) → s < states F → live F s ≡ true → colour (reduced F) (number (reduce F).names s) ≡ colour F s
  unfolding reduced
  reduced-colour s h l = colour_kept F (fits F few ok) (reduce F).names good onward calm_end s (live_in s h l)
