-- Where a file is refused with 7, 8 or 9 at a place, the bits at that place are the faulty field: the first one of the first faulty edge; and
-- with 17, the source of the first edge that leaves the fault colour (document 02, "Say where in the bits", "A fault stays a fault").
-- Assumes nothing.
use Prim.Native.Nat.{ℕ, zero, suc, ◌+◌, ◌*◌, ◌≤◌, ◌<◌}
use Rattle.std.specs.Prelude.{◌≡◌, refl, Bool, true, List, leb}
use Rattle.std.proofs.Math.Path.{sym}
use Rattle.std.proofs.Common.{◌∙◌, mul-zero, le_refl, arith}
use Rattle.std.proofs.Math.Option.{Option, none, some}
use Rattle.std.proofs.Math.Nat.{add-zero, mul-suc, mul-le-mul}
use Rattle.std.proofs.Math.ListN.{length}
use borrow.Author.Tests.{lt-ltb, leb-true, leb-false, ltb-false}
use Rattle.bits.specs.Bits.{field}
use Rattle.meaning.specs.Cases.{impossible, cases_of}
use Rattle.meaning.specs.Search.{at}
use Rattle.meaning.specs.Filter.{Edge, inside, comes_before, same_place}
use Rattle.meaning.specs.Fault.{leaves}
use Rattle.refusals.specs.Refusals.{Outcome, refused}
use Rattle.refusals.proofs.Laws.{numbers_below, first-behind}
use Rattle.layout.specs.declared.profile.Profile.{Profile}
use Rattle.layout.specs.declared.edge.Placed.{Placed}
use Rattle.layout.specs.Layout.{fault_colour, edge_bits, edges_begin, file_bits, bytes_for, file_length}
use Rattle.layout.specs.Contents.{states_in, labels_in, count_in, colours_in, values, placed_at, placed_from, placed_in, edge_at, length_in}
use Rattle.edges.specs.Faults.{Fault, faulty, order_fault, edge_fault, first_fault, first_leaving, edges_then}
use Rattle.edges.proofs.Tests.{fields-inside, else_cases}
use Rattle.files.specs.Files.{file_tests, from_edges, check_of}

-- The position of edge i's first bit.
abbrev pub edge_begins : Profile → List ℕ → ℕ → ℕ
edge_begins P file i = edges_begin P (states_in P file) + edge_bits P * i

-- Edge i is there with all its bits, and no edge before it has a fault.
pub record ClearBefore (P : Profile) (file : List ℕ) (i : ℕ) : Type 0 where
  pub inside : i < count_in P file
  pub bits : edge_begins P file i + edge_bits P ≤ 8 * length file
  pub clear : first_fault (states_in P file) (labels_in P file) none (placed_from P file (edges_begin P (states_in P file)) i) ≡ none

-- 7: at the place stands the source of such an edge, and it is n or more; or its label, which is m or more, behind a source below n; or its
-- target, which is n or more, behind a source below n and a label below m.
pub data Outside (P : Profile) (file : List ℕ) (place : ℕ) : Type 0 where
  source_at : (i : ℕ) → ClearBefore P file i → place ≡ edge_begins P file i → states_in P file ≤ field file place P.states → Outside P file place
  label_at : (i : ℕ) → ClearBefore P file i → place ≡ edge_begins P file i + P.states → labels_in P file ≤ field file place P.labels →
      (edge_at P file (edge_begins P file i)).source < states_in P file → Outside P file place
  target_at : (i : ℕ) → ClearBefore P file i → place ≡ edge_begins P file i + P.states + P.labels → states_in P file ≤ field file place P.states →
      (edge_at P file (edge_begins P file i)).source < states_in P file → (edge_at P file (edge_begins P file i)).label < labels_in P file → Outside P file place

-- 8 and 9: such an edge, whose source stands at the place, has no field that is too high, and does not come behind edge `index`, the one before it;
-- `fault` says how: `comes_before` for 8, `same_place` for 9.
pub record NotBehind (fault : Edge → Edge → Bool) (P : Profile) (file : List ℕ) (place : ℕ) : Type 0 where
  pub index : ℕ
  pub clear : ClearBefore P file (suc index)
  pub source_at : place ≡ edge_begins P file (suc index)
  pub within : inside (states_in P file) (labels_in P file) (edge_at P file place) ≡ true
  pub holds : fault (edge_at P file place) (edge_at P file (edge_begins P file index)) ≡ true

-- 17: no edge has a fault of its own, and the edge whose source stands at the place is the first that leaves the fault colour.
pub record LeavesFault (P : Profile) (file : List ℕ) (place : ℕ) : Type 0 where
  pub index : ℕ
  pub inside : index < count_in P file
  pub bits : edge_begins P file index + edge_bits P ≤ 8 * length file
  pub clear : first_fault (states_in P file) (labels_in P file) none (placed_in P file) ≡ none
  pub earlier : first_leaving (fault_colour P) (colours_in P file) (placed_from P file (edges_begin P (states_in P file)) index) ≡ none
  pub source_at : place ≡ edge_begins P file index
  pub goes : leaves (fault_colour P) (at (colours_in P file)) (edge_at P file place) ≡ true

-- What stands at the place of a refusal of a file's edges.
pub data FaultyField (P : Profile) (file : List ℕ) (number place : ℕ) : Type 0 where
  outside : number ≡ 7 → Outside P file place → FaultyField P file number place
  disorder : number ≡ 8 → NotBehind comes_before P file place → FaultyField P file number place
  repetition : number ≡ 9 → NotBehind same_place P file place → FaultyField P file number place
  leaving : number ≡ 17 → LeavesFault P file place → FaultyField P file number place

-- ---- the fault of one edge

-- which field is faulty, and why
pub data Faulty (n m : ℕ) (before : Option Edge) (e : Placed) (f : Fault) : Type 0 where
  source : n ≤ e.source.value → faulty 7 e.source ≡ some f → Faulty n m before e f
  label : e.source.value < n → m ≤ e.label.value → faulty 7 e.label ≡ some f → Faulty n m before e f
  target : e.source.value < n → e.label.value < m → n ≤ e.target.value → faulty 7 e.target ≡ some f → Faulty n m before e f
  order : (b : Edge) → inside n m (values e) ≡ true → before ≡ some b → comes_before (values e) b ≡ true → faulty 8 e.source ≡ some f → Faulty n m before e f
  repeated : (b : Edge) → inside n m (values e) ≡ true → before ≡ some b → same_place (values e) b ≡ true → faulty 9 e.source ≡ some f → Faulty n m before e f

order_faulty : (n m : ℕ) (before : Option Edge) (e : Placed) (f : Fault) → inside n m (values e) ≡ true → order_fault before e ≡ some f → Faulty n m before e f
order_faulty n m none e f i h = impossible cc
order_faulty n m (some b) e f i h = cases_of (comes_before (values e) b) (λ q. order b i refl q (rw q at h))
    (λ q. cases_of (same_place (values e) b) (λ t. repeated b i refl t (rw (q, t) at h))
    (λ t. let z : none ≡ some f = rw (q, t) at h in impossible cc))

pub edge-faulty : (n m : ℕ) (before : Option Edge) (e : Placed) (f : Fault) → edge_fault n m before e ≡ some f → Faulty n m before e f
unfolding edge_fault
edge-faulty n m before e f h = cases_of (leb n e.source.value) (λ q. source (leb-true _ _ q) (rw q at h))
    (λ q. let low = leb-false _ _ q in
    cases_of (leb m e.label.value) (λ t. label low (leb-true _ _ t) (rw (q, t) at h))
    (λ t. cases_of (leb n e.target.value) (λ u. target low (leb-false _ _ t) (leb-true _ _ u) (rw (q, t, u) at h))
    (λ u. order_faulty n m before e f (fields-inside n m e q t u) (rw (q, t, u) at h))))

pub fault_is_lem : {k place : ℕ} (f : Fault) → some (record { number = k; place = place }) ≡ some f → (f.number ≡ k) × (f.place ≡ place)
fault_is_lem f is = (cc, cc)

-- ---- the first fault of a file's edges

module _ (P : Profile) (file : List ℕ) where
  -- the edge before edge i, where the first begins at bit `at` behind `before`
  abbrev edge_before : Option Edge → ℕ → ℕ → Option Edge
  edge_before before at zero = before
  edge_before before at (suc i) = some (edge_at P file (at + edge_bits P * i))

  before_next : (before : Option Edge) (at i : ℕ) → edge_before (some (values (placed_at P file at))) (at + edge_bits P) i ≡ edge_before before at (suc i)
  unfolding edge_at
  before_next before at zero = rw (mul-zero (edge_bits P), add-zero at)
  before_next before at (suc i) = let k : at + edge_bits P + edge_bits P * i ≡ at + edge_bits P * suc i = omega (arith, mul-suc (edge_bits P) i) in rw k

module _ (P : Profile) (file : List ℕ) (n m : ℕ) where
  pub record FirstOf (before : Option Edge) (at e : ℕ) (f : Fault) : Type 0 where
    pub index : ℕ
    pub inside : index < e
    pub clear : first_fault n m before (placed_from P file at index) ≡ none
    pub fault : Faulty n m (edge_before P file before at index) (placed_at P file (at + edge_bits P * index)) f

  pub first_of_lem : (before : Option Edge) (at e : ℕ) (f : Fault) → first_fault n m before (placed_from P file at e) ≡ some f → FirstOf before at e f
  unfolding placed_from first_fault
  first_of_lem before at zero f h = impossible cc
  first_of_lem before at (suc e) f h =
      let edge = placed_at P file at in
      else_cases (edge_fault n m before edge) _ f h
      (λ q. record {
        index = 0;
        inside = omega arith;
        clear = refl;
        fault = rw (mul-zero (edge_bits P), add-zero at) (edge-faulty n m before edge f q);
      })
      (λ q rest. let r = first_of_lem (some (values edge)) (at + edge_bits P) e f rest in
      let k : at + edge_bits P + edge_bits P * r.index ≡ at + edge_bits P * suc r.index = omega (arith, mul-suc (edge_bits P) r.index) in
      record {
        index = suc r.index;
        inside = omega (arith, r.inside);
        clear = rw q r.clear;
        fault = rw (← before_next P file before at r.index, ← k) r.fault;
      })

-- ---- the first edge of a file that leaves the fault colour

-- among e edges, the first of which begins at bit `begin`
module _ (P : Profile) (file : List ℕ) (fault : Option ℕ) (colours : List ℕ) where
  pub record FirstToLeave (begin e : ℕ) (f : Fault) : Type 0 where
    pub index : ℕ
    pub inside : index < e
    pub earlier : first_leaving fault colours (placed_from P file begin index) ≡ none
    pub goes : leaves fault (at colours) (edge_at P file (begin + edge_bits P * index)) ≡ true
    pub number : f.number ≡ 17
    pub place : f.place ≡ begin + edge_bits P * index

  pub first_to_leave : (begin e : ℕ) (f : Fault) → first_leaving fault colours (placed_from P file begin e) ≡ some f → FirstToLeave begin e f
  unfolding placed_from first_leaving edge_at placed_at
  first_to_leave begin zero f h = impossible cc
  first_to_leave begin (suc e) f h = cases_of (leaves fault (at colours) (values (placed_at P file begin)))
      (λ q. let is = fault_is_lem f (rw q at h) in
      record {
        index = 0;
        inside = omega arith;
        earlier = refl;
        goes = rw (mul-zero (edge_bits P), add-zero begin) q;
        number = is.0;
        place = is.1 ∙ sym (rw (mul-zero (edge_bits P), add-zero begin));
      })
      (λ q. let r = first_to_leave (begin + edge_bits P) e f (rw q at h) in
      let k : begin + edge_bits P + edge_bits P * r.index ≡ begin + edge_bits P * suc r.index = omega (arith, mul-suc (edge_bits P) r.index) in
      record {
        index = suc r.index;
        inside = omega (arith, r.inside);
        earlier = rw q r.earlier;
        goes = rw (← k) r.goes;
        number = r.number;
        place = r.place ∙ k;
      })

-- ---- what a refusal names

-- a refusal that edges lead to is their first fault's, or comes from what follows
edges_refused : {A : Type 0} (o : Option Fault) (next : Outcome) (k p : ℕ) → edges_then o next ≡ refused k p →
    (o ≡ some (record { number = k; place = p }) → A) → (o ≡ none → next ≡ refused k p → A) → A
edges_refused none next k p h here later = later refl h
edges_refused (some f) next k p h here later =
    let a : f.number ≡ k = cc in
    let b : f.place ≡ p = cc in
    here (rw (← a, ← b))

module _ (P : Profile) (file : List ℕ) where
  abbrev before : ℕ → Option Edge
  before = edge_before P file none (edges_begin P (states_in P file))

  -- the edge before another is the one with the index before
  not_behind : (fault : Edge → Edge → Bool) (i : ℕ) (b : Edge) (place : ℕ) → ClearBefore P file i → inside (states_in P file) (labels_in P file) (values (placed_at P file (edge_begins P file i))) ≡ true →
      before i ≡ some b → fault (values (placed_at P file (edge_begins P file i))) b ≡ true → place ≡ edge_begins P file i → NotBehind fault P file place
  unfolding edge_at
  not_behind fault zero b place there all e q at = impossible cc
  not_behind fault (suc i) b place there all e q at =
      let is : edge_at P file (edge_begins P file i) ≡ b = cc in
      record { index = i; clear = there; source_at = at; within = rw at all; holds = rw (at, is) q }

  field-named : (i : ℕ) (f : Fault) → ClearBefore P file i → Faulty (states_in P file) (labels_in P file) (before i) (placed_at P file (edge_begins P file i)) f →
      FaultyField P file f.number f.place
  unfolding placed_at edge_at
  field-named i f there (source high is) =
      let at = fault_is_lem f is in outside at.0 (source_at i there at.1 (rw at.1 high))
  field-named i f there (label low high is) =
      let at = fault_is_lem f is in outside at.0 (label_at i there at.1 (rw at.1 high) low)
  field-named i f there (target low known high is) =
      let at = fault_is_lem f is in outside at.0 (target_at i there at.1 (rw at.1 high) low known)
  field-named i f there (order b all e q is) = let at = fault_is_lem f is in disorder at.0 (not_behind comes_before i b f.place there all e q at.1)
  field-named i f there (repeated b all e q is) = let at = fault_is_lem f is in repetition at.0 (not_behind same_place i b f.place there all e q at.1)

  tests_below : (number : ℕ) → 6 < number → numbers_below number (file_tests P file) ≡ true
  unfolding file_tests
  tests_below k h =
      rw (
        lt-ltb 1 k (omega arith),
        lt-ltb 2 k (omega arith),
        lt-ltb 3 k (omega arith),
        lt-ltb 4 k (omega arith),
        lt-ltb 5 k (omega arith),
        lt-ltb 6 k (omega arith),
      )

  -- a file that is refused with a number above 6 is refused with 7, 8, 9 or 17, and has the faulty field at the place
  pub faulty-field : (number place : ℕ) → 6 < number → check_of P file ≡ refused number place → FaultyField P file number place
  unfolding check_of file_tests placed_in length_in file_length bytes_for file_bits
  faulty-field number place above h =
      let p = first-behind (file_tests P file) (from_edges P file) number place (tests_below number above) h in
      let f : Fault = record { number = number; place = place } in
      let begin = edges_begin P (states_in P file) in
      let long = ltb-false (length file) (length_in P file) p.0.1.1.1.0 in
      let fits : (i : ℕ) → i < count_in P file → edge_begins P file i + edge_bits P ≤ 8 * length file =
      λ i l. omega (arith, long, mul-le-mul {m₁ = suc i} {m₂ = count_in P file} (le_refl (edge_bits P)) l, mul-suc (edge_bits P) i) in
      edges_refused _ _ number place p.1
      (λ faults.
      let first = first_of_lem P file (states_in P file) (labels_in P file) none begin (count_in P file) f faults in
      let there : ClearBefore P file first.index = record {
        inside = first.inside;
        bits = fits first.index first.inside;
        clear = first.clear;
      } in
      field-named first.index f there first.fault)
      (λ clear rest. edges_refused _ _ number place rest
      (λ leaves. let first = first_to_leave P file (fault_colour P) (colours_in P file) begin (count_in P file) f leaves in
      leaving first.number (record {
        index = first.index;
        inside = first.inside;
        bits = fits first.index first.inside;
        clear = clear;
        earlier = first.earlier;
        source_at = first.place;
        goes = rw first.place first.goes;
      }))
      (λ _ z. impossible cc))
