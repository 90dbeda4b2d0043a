-- A refusal's number has at most two digits, and its place at most six: it is a bit's position in a file, the index of an edge in a list
-- or of an observation, or 0.
-- Assumes nothing.
use Rattle.std.specs.Prelude.{ℕ, suc, ◌+◌, ◌*◌, ◌≤◌, ◌<◌, ◌≡◌, Bool, true, false, List, [], ◌∷◌, ltb, length}
use Rattle.std.proofs.Math.Path.{refl}
use Rattle.std.proofs.Math.Option.{Option, none, some}
use Rattle.std.proofs.Common.{mul-le-mul, arith, ltb-true}
use Rattle.meaning.specs.Pick.{pick}
use Rattle.meaning.specs.Cases.{impossible, cases_of, and_left, and_right}
use Rattle.meaning.specs.Search.{at}
use Rattle.meaning.specs.Filter.{Edge}
use Rattle.meaning.specs.Fault.{leaves}
use Rattle.refusals.specs.Refusals.{Outcome, accepted, refused, Test, first_of, onward}
use Rattle.refusals.proofs.Laws.{Passed, numbers_below}
use Rattle.layout.specs.declared.profile.Profile.{Profile}
use Rattle.layout.specs.declared.Field.{Field}
use Rattle.layout.specs.declared.edge.Placed.{Placed}
use Rattle.layout.specs.Layout.{fault_colour, edge_bits, edges_begin}
use Rattle.layout.specs.Code.{Usable}
use Rattle.layout.specs.Contents.{states_in, labels_in, count_in, colours_in, placed_at, placed_in}
use Rattle.layout.proofs.Bounds.{states_high, count_high, edge_high, begin_high}
use Rattle.edges.specs.Faults.{listed_at, listed_from, Fault, faulty, edge_fault, first_fault, first_leaving, edges_then}
use Rattle.edges.proofs.Tests.{else_cases}
use Rattle.files.specs.Files.{file_tests, check_of}
use Rattle.files.specs.Faulty.{Faulty, source, label, target, order, repeated, edge-faulty, fault_is_lem, first_of_lem, first_to_leave}

abbrev pub Small : Outcome → Type 0
Small o = (number place : ℕ) → o ≡ refused number place → (number < 100) × (place < 1000000)

pub small_accepted : (vs : List ℕ) → Small (accepted vs)
small_accepted vs number place e = impossible cc

pub small_at : (k p : ℕ) → k < 100 → p < 1000000 → Small (refused k p)
small_at k p hk hp number place e =
    let a : k ≡ number = cc in
    let b : p ≡ place = cc in
    (omega arith, omega arith)

small_pick : (b : Bool) (o next : Outcome) → Small o → (b ≡ false → Small next) → Small (pick b o next)
small_pick true o next h k = h
small_pick false o next h k = k refl

-- behind tests that were passed
pub small_first : (ts : List Test) (next : Outcome) → numbers_below 100 ts ≡ true → (Passed ts → Small next) → Small (first_of ts next)
small_first [] next e h = h tt
small_first (t ∷ ts) next e h =
    small_pick t.given (refused t.number 0) (first_of ts next) (small_at t.number 0 (ltb-true t.number 100 (and_left _ (numbers_below 100 ts) e)) (omega arith))
    (λ q. small_first ts next (and_right (ltb t.number 100) (numbers_below 100 ts) e) (λ p. h (q, p)))

pub small_onward : (o next : Outcome) → Small o → Small next → Small (onward o next)
small_onward (accepted vs) next h k = k
small_onward (refused a b) next h k = h

-- ---- the edges

-- a fault with a small number, at a place below a limit
abbrev pub SmallFault : ℕ → Fault → Type 0
SmallFault limit f = (f.number < 10) × (f.place < limit)

small_fault : (limit number : ℕ) (x : Field) (f : Fault) → number < 10 → x.place < limit → faulty number x ≡ some f → SmallFault limit f
small_fault limit number x f h l is = let at = fault_is_lem f is in (omega (arith, at.0), omega (arith, at.1))

-- of an edge whose fields are below the limit
faulty_small : (n m limit : ℕ) (before : Option Edge) (e : Placed) (f : Fault) → e.source.place < limit → e.label.place < limit → e.target.place < limit →
    Faulty n m before e f → SmallFault limit f
faulty_small n m limit before e f s l t (source q is) = small_fault limit 7 e.source f (omega arith) s is
faulty_small n m limit before e f s l t (label p q is) = small_fault limit 7 e.label f (omega arith) l is
faulty_small n m limit before e f s l t (target p o q is) = small_fault limit 7 e.target f (omega arith) t is
faulty_small n m limit before e f s l t (order b i p q is) = small_fault limit 8 e.source f (omega arith) s is
faulty_small n m limit before e f s l t (repeated b i p q is) = small_fault limit 9 e.source f (omega arith) s is

pub small_edges : (fault : Option Fault) (next : Outcome) → ((f : Fault) → fault ≡ some f → SmallFault 1000000 f) → Small next → Small (edges_then fault next)
small_edges none next h k = k
small_edges (some f) next h k = let s = h f refl in small_at f.number f.place (omega (arith, s.0)) s.1

-- 17 at a place below a limit
abbrev pub LeavingBelow : ℕ → Fault → Type 0
LeavingBelow limit f = (f.number ≡ 17) × (f.place < limit)

pub small_leaving : (fault : Option Fault) (next : Outcome) → ((f : Fault) → fault ≡ some f → LeavingBelow 1000000 f) → Small next → Small (edges_then fault next)
small_leaving none next h k = k
small_leaving (some f) next h k = let s = h f refl in small_at f.number f.place (omega (arith, s.0)) s.1

-- the place of a list's fault is the index of an edge
pub listed_small : (n m i : ℕ) (before : Option Edge) (es : List Edge) (f : Fault) → first_fault n m before (listed_from i es) ≡ some f → SmallFault (i + length es) f
unfolding first_fault listed_from
listed_small n m i before [] f e = impossible cc
listed_small n m i before (d ∷ es) f e =
    else_cases (edge_fault n m before (listed_at i d)) _ f e
    (λ q. faulty_small n m (i + length (d ∷ es)) before (listed_at i d) f (omega arith) (omega arith) (omega arith) (edge-faulty n m before (listed_at i d) f q))
    (λ q rest. let r = listed_small n m (suc i) (some d) es f rest in (r.0, omega (arith, r.1)))

pub listed_leaving : (fault : Option ℕ) (colours : List ℕ) (i : ℕ) (es : List Edge) (f : Fault) → first_leaving fault colours (listed_from i es) ≡ some f → LeavingBelow (i + length es) f
unfolding first_leaving listed_from
listed_leaving fault colours i [] f e = impossible cc
listed_leaving fault colours i (d ∷ es) f e = cases_of (leaves fault (at colours) d)
    (λ q. let is = fault_is_lem f (rw q at e) in (is.0, omega (arith, is.1)))
    (λ q. let r = listed_leaving fault colours (suc i) es f (rw q at e) in (r.0, omega (arith, r.1)))

-- ---- of a file

module _ (P : Profile) (ok : Usable P) where
  -- a file states at most 32,767 edges, behind at most 256 colours
  edge_begins_lem : (s : List ℕ) (i : ℕ) → i < count_in P s → edges_begin P (states_in P s) + edge_bits P * i < 999000
  edge_begins_lem s i l =
      let begin = begin_high P ok (states_in P s) (states_high P ok s) in
      let most : i ≤ 32767 = omega (arith, count_high P ok s) in
      let behind : edge_bits P * i ≤ 24 * 32767 = mul-le-mul (edge_high P ok) most in
      omega (arith, begin, behind)

  placed_small : (s : List ℕ) (f : Fault) → first_fault (states_in P s) (labels_in P s) none (placed_in P s) ≡ some f → SmallFault 1000000 f
  unfolding placed_in placed_at
  placed_small s f e =
      let first = first_of_lem P s (states_in P s) (labels_in P s) none (edges_begin P (states_in P s)) (count_in P s) f e in
      let low = edge_begins_lem s first.index first.inside in
      let wide = ok.states≤ in
      let high = ok.labels≤ in
      faulty_small _ _ 1000000 _ _ f (omega (arith, low)) (omega (arith, low, wide)) (omega (arith, low, wide, high)) first.fault

  leaving_small : (s : List ℕ) (f : Fault) → first_leaving (fault_colour P) (colours_in P s) (placed_in P s) ≡ some f → LeavingBelow 1000000 f
  unfolding placed_in
  leaving_small s f e =
      let first = first_to_leave P s (fault_colour P) (colours_in P s) (edges_begin P (states_in P s)) (count_in P s) f e in
      (first.number, omega (arith, first.place, edge_begins_lem s first.index first.inside))

  pub check_small : (s : List ℕ) → Small (check_of P s)
  unfolding check_of file_tests
  check_small s = small_first (file_tests P s) _ refl λ _. small_edges _ _ (placed_small s) (small_leaving _ _ (leaving_small s) (small_accepted _))
