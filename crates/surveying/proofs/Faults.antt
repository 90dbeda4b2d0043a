-- The faults of edges, one edge further.
-- Assumes nothing.
use Prim.Native.Nat.{ℕ, suc, ◌+◌, ◌≤◌}
use mathlib.Core.Path.{◌≡◌, refl, sym, ap, ◌∙◌}
use mathlib.Core.Bool.{true, false, ◌&&◌}
use mathlib.Core.List.{List, [], ◌∷◌, ◌++◌}
use mathlib.Core.Option.{Option, none, some}
use native.Mathlib.Nat.{add-zero, zero-add}
use native.Mathlib.Omega.{arith}
use lib.Dec.{leb, ltb}
use lib.ListN.{length}
use borrow.Author.Tests.{ltb-true, ltb-false, lt-ltb, lt-leb, leb-false}
use Rattle.meaning.specs.Cases.{cases_of, no_both, impossible, and_left, and_right}
use Rattle.meaning.specs.Search.{at}
use Rattle.meaning.specs.Filter as meaning
use Rattle.meaning.specs.Fault.{leaves}
use Rattle.refusals.specs.declared.Refusal.{Refusal}
use Rattle.layout.specs.declared.edge.Edge.{Edge}
use Rattle.layout.specs.Code.{edge_of, Small}
use Rattle.std.specs.Prelude.{Ok, Err, None}
use Rattle.std.specs.Result.{is_err}
use Rattle.edges.specs.Faults.{listed_at, listed_from, Fault, edge_fault, or_else, first_fault, first_leaving}
use Rattle.edges.specs.Walk.{Verdict, fault_is, fault_of, rank_of, Tested}
use Rattle.edges.proofs.Tests.{else_else, else_none, ranked_none, ranked_edge, clear_ends}
use Rattle.surveying.specs.declared.Testing.{Testing}
use Rattle.surveying.specs.Surveys.{smaller, fault_among, bytes, last_of, leaving_is, leaving_by, Judged, JudgedOn}
use Rattle.surveying.proofs.Marks.{leaving_by_lem}

-- ---- edges behind edges

faults_append : (n m i : ℕ) (before : Option meaning.Edge) (es ds : List meaning.Edge) →
    first_fault n m before (listed_from i (es ++ ds)) ≡ or_else (first_fault n m before (listed_from i es)) (first_fault n m (last_of before es) (listed_from (i + length es) ds))
unfolding first_fault listed_from last_of
faults_append n m i before [] ds = ap (λ (k : ℕ). first_fault n m before (listed_from k ds)) (sym (add-zero i))
faults_append n m i before (e ∷ es) ds =
    let count : suc i + length es ≡ i + suc (length es) = omega arith in
    let here = first_fault n m (some e) (listed_from (suc i) es) in
    let next = last_of (some e) es in
    ap (or_else (edge_fault n m before (listed_at i e))) (faults_append n m (suc i) (some e) es ds ∙ ap (λ (k : ℕ). or_else here (first_fault n m next (listed_from k ds))) count)
    ∙ else_else (edge_fault n m before (listed_at i e)) here (first_fault n m next (listed_from (i + suc (length es)) ds))

leaving_append : (fault : Option ℕ) (colours : List ℕ) (i : ℕ) (es ds : List meaning.Edge) →
    first_leaving fault colours (listed_from i (es ++ ds)) ≡ or_else (first_leaving fault colours (listed_from i es)) (first_leaving fault colours (listed_from (i + length es) ds))
unfolding first_leaving listed_from
leaving_append fault colours i [] ds = ap (λ (k : ℕ). first_leaving fault colours (listed_from k ds)) (sym (add-zero i))
leaving_append fault colours i (e ∷ es) ds =
    let count : suc i + length es ≡ i + suc (length es) = omega arith in
    cases_of (leaves fault (at colours) e) (λ q. rw q)
    (λ q. rw (q, ← count) (leaving_append fault colours (suc i) es ds))

last_more : (before : Option meaning.Edge) (es : List meaning.Edge) (e : meaning.Edge) → last_of before (es ++ (e ∷ [])) ≡ some e
unfolding last_of
last_more before [] e = refl
last_more before (d ∷ es) e = last_more (some d) es e

module _ (n : ℕ) (es : List meaning.Edge) (e : meaning.Edge) where
  -- a fault stays the first
  fault_kept : (f : Fault) → fault_among n es ≡ some f → fault_among n (es ++ (e ∷ [])) ≡ some f
  fault_kept f h = faults_append (smaller n 256) 256 0 none es (e ∷ []) ∙ rw h

  -- without one the next edge decides
  fault_more : fault_among n es ≡ none → fault_among n (es ++ (e ∷ [])) ≡ edge_fault (smaller n 256) 256 (last_of none es) (listed_at (length es) e)
  unfolding first_fault listed_from
  fault_more h =
      faults_append (smaller n 256) 256 0 none es (e ∷ []) ∙ rw (h, zero-add (length es))
      (else_none (edge_fault (smaller n 256) 256 (last_of none es) (listed_at (length es) e)))

-- 17 of one edge more
leaving_more : (fault : Option ℕ) (colours : List ℕ) (es : List meaning.Edge) (e : meaning.Edge) →
    first_leaving fault colours (listed_from 0 (es ++ (e ∷ []))) ≡ or_else (first_leaving fault colours (listed_from 0 es)) (first_leaving fault colours (listed_at (length es) e ∷ []))
unfolding listed_from
leaving_more fault colours es e = leaving_append fault colours 0 es (e ∷ []) ∙ rw (zero-add (length es))

-- ---- edges whose numbers are bytes

smaller_low : (n : ℕ) → smaller n 256 ≤ 256
smaller_low n = cases_of (ltb n 256) (λ q. rw q (omega (arith, ltb-true n 256 q))) (λ q. rw q (omega arith))

pub small_edge : (e : Edge) → bytes e ≡ true → Small e
small_edge e q =
    let r = and_right (ltb e.source 256) (ltb e.label 256 && ltb e.target 256) q in
    record {
      source = ltb-true e.source 256 (and_left (ltb e.source 256) (ltb e.label 256 && ltb e.target 256) q);
      label = ltb-true e.label 256 (and_left (ltb e.label 256) (ltb e.target 256) r);
      target = ltb-true e.target 256 (and_right (ltb e.label 256) (ltb e.target 256) r);
    }

-- no more states than 256 have such numbers
small_fault : (n i : ℕ) (before : Option meaning.Edge) (e : Edge) → Small e →
    edge_fault (smaller n 256) 256 before (listed_at i (edge_of e)) ≡ edge_fault n 256 before (listed_at i (edge_of e))
unfolding edge_fault
small_fault n i before e s = cases_of (ltb n 256) (λ q. rw q)
    (λ q. let high = ltb-false n 256 q in
    rw (
      q,
      lt-leb 256 e.source s.source,
      lt-leb n e.source (omega (arith, s.source)),
      lt-leb 256 e.target s.target,
      lt-leb n e.target (omega (arith, s.target)),
    ))

-- another edge is outside, and each of its fields has the edge's index
large_fault : (n i : ℕ) (before : Option meaning.Edge) (e : Edge) → bytes e ≡ false →
    edge_fault (smaller n 256) 256 before (listed_at i (edge_of e)) ≡ some (record { number = 7; place = i })
unfolding edge_fault
large_fault n i before e h = cases_of (leb (smaller n 256) e.source) (λ q. rw q)
    (λ q. cases_of (leb 256 e.label) (λ t. rw (q, t))
    (λ t. cases_of (leb (smaller n 256) e.target) (λ u. rw (q, t, u))
    (λ u. let low = smaller_low n in
    no_both {b = bytes e}
    (rw (
      lt-ltb e.source 256 (omega (arith, leb-false (smaller n 256) e.source q)),
      lt-ltb e.label 256 (leb-false 256 e.label t),
      lt-ltb e.target 256 (omega (arith, leb-false (smaller n 256) e.target u)),
    )) h)))

-- ---- one edge more

-- what a verdict is, by its test
faulty : (v : Verdict) → is_err v ≡ true → (r : Refusal) × (v ≡ Err r)
faulty (Ok passed) h = absurd cc
faulty (Err r) h = (r, refl)

faultless : (v : Verdict) → is_err v ≡ false → v ≡ Ok tt
faultless (Ok passed) h = refl
faultless (Err r) h = absurd cc

abbrev pub untested : Testing
untested = record { verdict = Ok tt; last = 0; leaving = None }

pub judged_untested : (fault : Option ℕ) → Judged fault [] [] untested
unfolding first_fault first_leaving listed_from last_of
judged_untested fault = record { own = refl; ranked = λ z. ranked_none; leaving = λ z. refl }

-- without edges the states do not matter
pub judged_none : (fault : Option ℕ) (cs ds : List ℕ) (t : Testing) → Judged fault cs [] t → Judged fault ds [] t
unfolding first_fault first_leaving listed_from
judged_none fault cs ds t j = record { own = j.own; ranked = j.ranked; leaving = j.leaving }

module _ (n : ℕ) (words : List ℕ) (i : ℕ) (e : Edge) (t : Testing) where
  pub judged_faulty : is_err t.verdict ≡ true → JudgedOn n words i e t t
  judged_faulty v fault cs es states m count j =
      let r = faulty t.verdict v in
      let f : fault_of t.verdict ≡ fault_is r.0 = ap fault_of r.1 in
      record {
        own = f ∙ sym (fault_kept (length cs) es (edge_of e) _ (sym j.own ∙ f));
        ranked = λ z. impossible (cc (z, f));
        leaving = λ z. impossible (cc (z, f));
      }

  module _ (t' : Testing) (v : is_err t.verdict ≡ false) where
    -- what the edge's own fault is
    judged_by : (fault : Option ℕ) (cs : List ℕ) (es : List meaning.Edge) → length cs ≡ n → length es ≡ i → Judged fault cs es t →
        fault_among (length cs) (es ++ (edge_of e ∷ [])) ≡ edge_fault (smaller n 256) 256 (last_of none es) (listed_at i (edge_of e))
    judged_by fault cs es states count j = fault_more (length cs) es (edge_of e) (sym j.own ∙ ap fault_of (faultless t.verdict v)) ∙ rw (states, count)

    pub judged_outside : bytes e ≡ false → fault_of t'.verdict ≡ some (record { number = 7; place = i }) → JudgedOn n words i e t t'
    judged_outside b h fault cs es states m count j = record {
      own = h ∙ sym (judged_by fault cs es states count j ∙ large_fault n i (last_of none es) e b);
      ranked = λ z. impossible (cc (z, h));
      leaving = λ z. impossible (cc (z, h));
    }

    pub judged_tested : bytes e ≡ true → Tested n 256 t.last (listed_at i (edge_of e)) t'.verdict → t'.last ≡ rank_of (some (edge_of e)) →
        leaving_is t'.leaving ≡ or_else (leaving_is t.leaving) (leaving_by words i e) → JudgedOn n words i e t t'
    judged_tested b h l found fault cs es states m count j =
        let small = small_edge e b in
        let own = h (last_of none es) (j.ranked (ap fault_of (faultless t.verdict v))) in
        record {
          own = own ∙ sym (judged_by fault cs es states count j ∙ small_fault n i (last_of none es) e small);
          ranked = λ z. rw (last_more none es (edge_of e)) (ranked_edge t'.last (edge_of e) l small.label);
          leaving = λ z. let ends = clear_ends n 256 (last_of none es) (listed_at i (edge_of e)) (sym own ∙ z) in
              let here = leaving_by_lem fault cs words i e m small (rw states ends.0) (rw states ends.1) in
              found ∙ sym (leaving_more fault cs es (edge_of e) ∙ rw (count, here, j.leaving (ap fault_of (faultless t.verdict v))));
        }
