-- Laws of faults: what edges without a fault are, and the first fault one edge further. Assumes nothing.
use mathlib.Core.Path.{◌≡◌, refl, sym, ◌∙◌}
use mathlib.Core.Bool.{Bool, true, false, ◌&&◌, ◌||◌}
use mathlib.Core.List.{List, [], ◌∷◌, map}
use mathlib.Core.Option.{Option, none, some}
use Prim.Native.Nat.{ℕ, suc, ◌≤◌, ◌<◌}
use native.Mathlib.Omega.{arith}
use lib.Dec.{eqb, leb, ltb}
use borrow.Author.Tests.{lt-ltb, le-ltb, lt-leb, eq-eqb, ne_eqb, ltb-true, ltb-false, leb-false, eqb-true, eqb-false}
use Rattle.meaning.specs.Pick.{pick}
use Rattle.meaning.specs.Cases.{impossible, cases_of, and_left, and_right}
use Rattle.meaning.specs.Filter.{Edge, inside, comes_before, same_place, each, leads, ascending}
use Rattle.refusals.specs.Refusals.{Outcome, accepted}
use Rattle.layout.specs.declared.edge.Placed.{Placed}
use Rattle.layout.specs.Contents.{values}
use Rattle.edges.specs.Faults.{listed_from, Fault, faulty, order_fault, edge_fault, or_else, first_fault, edges_then}
use Rattle.edges.specs.Walk.{rank_of, Ranked}

pub edges_accepted : (f : Option Fault) (next : Outcome) (vs : List ℕ) → edges_then f next ≡ accepted vs → (f ≡ none) × (next ≡ accepted vs)
edges_accepted none next vs h = (refl, h)
edges_accepted (some f) next vs h = impossible cc

pub listed-values : (i : ℕ) (es : List Edge) → map values (listed_from i es) ≡ es
unfolding listed_from
listed-values i [] = refl
listed-values i (e ∷ es) = rw (listed-values (suc i) es)

order : (x y : ℕ) → y ≤ x → (x ≡ y → ⊥) → y < x
order x y h n = go (ltb y x) refl
  where
    go : (t : Bool) → ltb y x ≡ t → y < x
    go true e = ltb-true y x e
    go false e = absurd (n (omega (arith, ltb-false y x e)))

-- an edge that does not come before another and is not at its place comes after it
after : (a b : Edge) → comes_before a b ≡ false → same_place a b ≡ false → comes_before b a ≡ true
unfolding comes_before same_place
after a b h k = go (ltb b.source a.source) refl
  where
    go : (t : Bool) → ltb b.source a.source ≡ t → ltb b.source a.source || (eqb b.source a.source && ltb b.label a.label) ≡ true
    go true e = rw e
    go false e = low (ltb a.source b.source) refl
      where
        low : (t : Bool) → ltb a.source b.source ≡ t → ltb b.source a.source || (eqb b.source a.source && ltb b.label a.label) ≡ true
        low true f = let z : true ≡ false = rw f at h in impossible cc
        low false f =
            let s : a.source ≡ b.source = omega (arith, ltb-false b.source a.source e, ltb-false a.source b.source f) in
            let s1 : eqb a.source b.source ≡ true = eq-eqb _ _ s in
            let s2 : eqb b.source a.source ≡ true = eq-eqb _ _ (sym s) in
            let l1 : ltb a.label b.label ≡ false = rw (f, s1) at h in
            let l2 : eqb a.label b.label ≡ false = rw s1 at k in
            let l : b.label < a.label = order a.label b.label (ltb-false a.label b.label l1) (eqb-false a.label b.label l2) in
            rw (e, s2) (lt-ltb _ _ l)

pick_clear : (b : Bool) (f : Fault) (next : Option Fault) → pick b (some f) next ≡ none → (b ≡ false) × (next ≡ none)
pick_clear true f next h = impossible cc
pick_clear false f next h = (refl, h)

order_clear : (e : Placed) (b : Edge) → order_fault (some b) e ≡ none → comes_before b (values e) ≡ true
order_clear e b h =
    let p = pick_clear (comes_before (values e) b) _ _ h in
    let q = pick_clear (same_place (values e) b) _ none p.1 in
    after (values e) b p.0 q.0

-- fields that are not too high are inside
pub fields-inside : (n m : ℕ) (e : Placed) → leb n e.source.value ≡ false → leb m e.label.value ≡ false → leb n e.target.value ≡ false → inside n m (values e) ≡ true
unfolding inside
fields-inside n m e s l t =
    rw (
      lt-ltb e.source.value n (leb-false _ _ s),
      lt-ltb e.label.value m (leb-false _ _ l),
      lt-ltb e.target.value n (leb-false _ _ t),
    )

inside_clear : (n m : ℕ) (before : Option Edge) (e : Placed) → edge_fault n m before e ≡ none → (inside n m (values e) ≡ true) × (order_fault before e ≡ none)
unfolding edge_fault
inside_clear n m before e h =
    let source = pick_clear (leb n e.source.value) _ _ h in
    let label = pick_clear (leb m e.label.value) _ _ source.1 in
    let target = pick_clear (leb n e.target.value) _ (order_fault before e) label.1 in
    (fields-inside n m e source.0 label.0 target.0, target.1)

-- an edge without a fault leads from a state to a state
pub clear_ends : (n m : ℕ) (before : Option Edge) (e : Placed) → edge_fault n m before e ≡ none → (e.source.value < n) × (e.target.value < n)
unfolding inside
clear_ends n m before e h =
    let s = ltb e.source.value n in
    let l = ltb e.label.value m in
    let t = ltb e.target.value n in
    let all = (inside_clear n m before e h).0 in
    (ltb-true _ _ (and_left s (l && t) all), ltb-true _ _ (and_right l t (and_right s (l && t) all)))

else_clear : (f next : Option Fault) → or_else f next ≡ none → (f ≡ none) × (next ≡ none)
else_clear none next h = (refl, h)
else_clear (some f) next h = impossible cc

pub else_else : (a b c : Option Fault) → or_else a (or_else b c) ≡ or_else (or_else a b) c
else_else none b c = refl
else_else (some f) b c = refl

pub else_none : (f : Option Fault) → or_else f none ≡ f
else_none none = refl
else_none (some f) = refl

-- the first fault is the first edge's, or there is none there and it is the next one
pub else_cases : {A : Type 0} (o next : Option Fault) (f : Fault) → or_else o next ≡ some f → (o ≡ some f → A) → (o ≡ none → next ≡ some f → A) → A
else_cases (some g) next f h here later = here h
else_cases none next f h here later = later refl h

clear_first : (n m : ℕ) (before : Option Edge) (e : Placed) (es : List Placed) → first_fault n m before (e ∷ es) ≡ none →
    (edge_fault n m before e ≡ none) × (first_fault n m (some (values e)) es ≡ none)
unfolding first_fault
clear_first n m before e es h = else_clear (edge_fault n m before e) _ h

-- edges without a fault are inside and ascend strictly
pub record InOrder (n m : ℕ) (before : Option Edge) (es : List Edge) : Type 0 where
  pub all_inside : each (inside n m) es ≡ true
  pub ascend : ascending es ≡ true
  pub lead : (b : Edge) → before ≡ some b → leads b es ≡ true

pub fault_free : (n m : ℕ) (before : Option Edge) (es : List Placed) → first_fault n m before es ≡ none → InOrder n m before (map values es)
unfolding each ascending leads
fault_free n m before [] h = record { all_inside = refl; ascend = refl; lead = λ b e. refl }
fault_free n m before (e ∷ es) h =
    let c = clear_first n m before e es h in
    let q = inside_clear n m before e c.0 in
    let r = fault_free n m (some (values e)) es c.1 in
    record {
      all_inside = rw q.0 r.all_inside;
      ascend = rw (r.lead (values e) refl) r.ascend;
      lead = λ b p. order_clear e b (rw p at q.1);
    }

-- and edges that are inside and ascend strictly have none
after_not : (a b : Edge) → comes_before b a ≡ true → (comes_before a b ≡ false) × (same_place a b ≡ false)
unfolding comes_before same_place
after_not a b h = cases_of (ltb b.source a.source)
    (λ q. let l = ltb-true b.source a.source q in
    (rw (le-ltb a.source b.source (omega arith), ne_eqb a.source b.source (λ e. omega arith)), rw (ne_eqb a.source b.source (λ e. omega arith))))
    (λ q. let r : eqb b.source a.source && ltb b.label a.label ≡ true = rw q at h in
    let s = eqb-true b.source a.source (and_left (eqb b.source a.source) (ltb b.label a.label) r) in
    let l = ltb-true b.label a.label (and_right (eqb b.source a.source) (ltb b.label a.label) r) in
    let e = eq-eqb a.source b.source (sym s) in
    (rw (le-ltb a.source b.source (omega arith), e, le-ltb a.label b.label (omega arith)), rw (e, ne_eqb a.label b.label (λ z. omega arith))))

order_free : (before : Option Edge) (e : Placed) → ((b : Edge) → before ≡ some b → comes_before b (values e) ≡ true) → order_fault before e ≡ none
order_free none e h = refl
order_free (some b) e h = let q = after_not (values e) b (h b refl) in rw (q.0, q.1)

-- past the tests for 7 the order decides
pub order_decides : (n m : ℕ) (before : Option Edge) (e : Placed) → e.source.value < n → e.label.value < m → e.target.value < n → edge_fault n m before e ≡ order_fault before e
unfolding edge_fault
order_decides n m before e s l t = rw (lt-leb n e.source.value s, lt-leb m e.label.value l, lt-leb n e.target.value t)

inside-free : (n m : ℕ) (before : Option Edge) (e : Placed) → inside n m (values e) ≡ true → edge_fault n m before e ≡ order_fault before e
unfolding inside
inside-free n m before e h =
    let s = ltb e.source.value n in
    let l = ltb e.label.value m in
    let t = ltb e.target.value n in
    let rest = and_right s (l && t) h in
    order_decides n m before e (ltb-true _ _ (and_left s (l && t) h)) (ltb-true _ _ (and_left l t rest)) (ltb-true _ _ (and_right l t rest))

-- labels below 256: the order of edges is that of their ranks
by_rank : (a b : Edge) → b.label < 256 → rank_of (some a) < rank_of (some b) → comes_before a b ≡ true
unfolding comes_before
by_rank a b low h =
    cases_of (ltb a.source b.source) (λ p. rw p)
    (λ p. let l = ltb-false a.source b.source p in
    rw (p, eq-eqb a.source b.source (omega arith), lt-ltb a.label b.label (omega arith)))

at_rank : (a b : Edge) → a.label < 256 → b.label < 256 → rank_of (some a) ≡ rank_of (some b) →
    (comes_before a b ≡ false) × (same_place a b ≡ true)
unfolding comes_before same_place
at_rank a b al bl h =
    let s = eq-eqb a.source b.source (omega arith) in
    (rw (s, le-ltb a.source b.source (omega arith), le-ltb a.label b.label (omega arith)), rw (s, eq-eqb a.label b.label (omega arith)))

pub ranked_none : Ranked 0 none
ranked_none = record { rank = refl; label = λ b p. impossible cc }

pub ranked_edge : (last : ℕ) (e : Edge) → last ≡ rank_of (some e) → e.label < 256 → Ranked last (some e)
ranked_edge last e is low = record { rank = is; label = λ b p. let q : e ≡ b = cc in rw (← q) low }

-- 8, 9 or neither, by the rank of an edge and that of the edge before it
module _ (e : Placed) (low : e.label.value < 256) (last : ℕ) where
  pub rank_less : (before : Option Edge) → Ranked last before → rank_of (some (values e)) < last → order_fault before e ≡ faulty 8 e.source
  rank_less none r h = absurd (omega (arith, r.rank))
  rank_less (some b) r h = rw (by_rank (values e) b (r.label b refl) (omega (arith, r.rank)))

  pub rank_same : (before : Option Edge) → Ranked last before → rank_of (some (values e)) ≡ last → order_fault before e ≡ faulty 9 e.source
  rank_same none r h = absurd (omega (arith, r.rank))
  rank_same (some b) r h = let q = at_rank (values e) b low (r.label b refl) (h ∙ r.rank) in rw (q.0, q.1)

  pub rank_more : (before : Option Edge) → Ranked last before → last < rank_of (some (values e)) → order_fault before e ≡ none
  rank_more none r h = refl
  rank_more (some b) r h = let q = after_not (values e) b (by_rank b (values e) low (omega (arith, r.rank))) in rw (q.0, q.1)

pub clear_order : (n m : ℕ) (before : Option Edge) (es : List Placed) → each (inside n m) (map values es) ≡ true → ascending (map values es) ≡ true →
    ((b : Edge) → before ≡ some b → leads b (map values es) ≡ true) → first_fault n m before es ≡ none
unfolding first_fault each ascending leads
clear_order n m before [] ins asc lead = refl
clear_order n m before (e ∷ es) ins asc lead =
    let ds = map values es in
    let here = and_left (inside n m (values e)) (each (inside n m) ds) ins in
    rw (inside-free n m before e here, order_free before e lead)
    (clear_order n m (some (values e)) es (and_right (inside n m (values e)) (each (inside n m) ds) ins) (and_right (leads (values e) ds) (ascending ds) asc)
    (λ b p. let q : values e ≡ b = cc in rw (← q) (and_left (leads (values e) ds) (ascending ds) asc)))

-- whether edges have a fault does not depend on where they stand
pub clear_elsewhere : (n m : ℕ) (es ds : List Placed) → map values es ≡ map values ds → first_fault n m none es ≡ none → first_fault n m none ds ≡ none
clear_elsewhere n m es ds same clear =
    let r : InOrder n m none (map values ds) = rw (← same) (fault_free n m none es clear) in
    clear_order n m none ds r.all_inside r.ascend r.lead

-- a list in order has none
pub listed_clear : (n m : ℕ) (es : List Edge) → each (inside n m) es ≡ true → ascending es ≡ true → first_fault n m none (listed_from 0 es) ≡ none
listed_clear n m es ins asc =
    let is = sym (listed-values 0 es) in
    clear_order n m none (listed_from 0 es) (rw is at ins) (rw is at asc) (λ b e. impossible cc)

-- ---- the first fault, one edge further

pub fault_next : (n m : ℕ) (before : Option Edge) (e : Placed) (es : List Placed) → edge_fault n m before e ≡ none →
    first_fault n m before (e ∷ es) ≡ first_fault n m (some (values e)) es
unfolding first_fault
fault_next n m before e es h = rw h

pub fault_here : (n m : ℕ) (before : Option Edge) (e : Placed) (es : List Placed) (f : Fault) → edge_fault n m before e ≡ some f →
    first_fault n m before (e ∷ es) ≡ some f
unfolding first_fault
fault_here n m before e es f h = rw h
