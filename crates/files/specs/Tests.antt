-- Tests in a row, taken apart: what an accepted file and an accepted filter have passed.
-- Assumes nothing.
use Rattle.std.specs.Prelude.{◌≡◌, refl, Bool, true, ◌&&◌, List, [], ◌∷◌, map, ℕ, zero, suc, ◌*◌, ◌^◌, ◌≤◌, ◌<◌, eqb, leb, ltb, length, get_or}
use Rattle.std.proofs.Common.{sym, ◌∙◌, lt_of_lt_of_le, arith, pow_pos, lt-ltb, le-ltb, le-leb, eq-eqb, ne_eqb, ltb-true, ltb-false, leb-true, leb-false, eqb-true}
use Rattle.std.proofs.Math.Path.{ap}
use Rattle.std.proofs.Math.Option.{Option, none, some}
use Rattle.std.proofs.lemmas.Bool.{lt-leb, not-false}
use Rattle.meaning.specs.Cases.{and_left, and_right}
use Rattle.meaning.specs.Filter.{Edge, Filter, states, each, in_order}
use Rattle.meaning.specs.Trace.{colour}
use Rattle.meaning.specs.Fault.{leaves, stays, fault_stays}
use Rattle.refusals.specs.declared.Refusal.{Refusal}
use Rattle.refusals.specs.Refusals.{accepted, refusal_outcome, onward, room_test}
use Rattle.refusals.proofs.Laws.{first_accepted, first_passed, first-onward}
use Rattle.layout.specs.declared.profile.Profile.{Profile}
use Rattle.layout.specs.declared.Reading.{Reading}
use Rattle.layout.specs.Layout.{fault_colour, header_bits, bytes_for, edges_begin, length_of}
use Rattle.layout.specs.Contents.{states_in, labels_in, start_in, count_in, colours_in, placed_from, placed_in, values, edges_from, edges_in, filter_in, length_in, filling_in}
use Rattle.edges.specs.Faults.{listed_from, Fault, first_fault, first_leaving, edges_then}
use Rattle.edges.specs.Walk.{fault_is}
use Rattle.edges.proofs.Tests.{edges_accepted, listed-values, InOrder, fault_free}
use Rattle.edges.proofs.Leaving.{leaving_stays, stays_leaving}
use Rattle.files.specs.Files.{reading_outcome, file_tests, numbers_in, head_of, from_leaving, from_edges, check_of, within, all_below, holdable, write_tests, write_of}

-- ---- a file

-- no edge leaves the fault colour, of the edges in the file and of the filter's
file_stays : (P : Profile) (s : List ℕ) → first_leaving (fault_colour P) (colours_in P s) (placed_in P s) ≡ none → fault_stays (fault_colour P) (filter_in P s) ≡ true
unfolding fault_stays colour filter_in edges_in
file_stays P s h = leaving_stays (fault_colour P) (colours_in P s) (placed_in P s) h

stays_file : (P : Profile) (s : List ℕ) → fault_stays (fault_colour P) (filter_in P s) ≡ true → first_leaving (fault_colour P) (colours_in P s) (placed_in P s) ≡ none
unfolding fault_stays colour filter_in edges_in
stays_file P s h = stays_leaving (fault_colour P) (colours_in P s) (placed_in P s) h

-- the same of a filter that is to be written
pub list_stays : (fault : Option ℕ) (F : Filter) → first_leaving fault F.colours (listed_from 0 F.edges) ≡ none → fault_stays fault F ≡ true
unfolding fault_stays colour
list_stays fault F h = rw (listed-values 0 F.edges) at (leaving_stays fault F.colours (listed_from 0 F.edges) h)

stays_list : (fault : Option ℕ) (F : Filter) → fault_stays fault F ≡ true → first_leaving fault F.colours (listed_from 0 F.edges) ≡ none
unfolding fault_stays colour
stays_list fault F h = stays_leaving fault F.colours (listed_from 0 F.edges) (rw (sym (listed-values 0 F.edges)) at h)

-- What an accepted file has passed.
pub record Sound (P : Profile) (s : List ℕ) : Type 0 where
  pub begins : bytes_for (header_bits P) ≤ length s
  pub start_in_lem : start_in P s < states_in P s
  pub count_in_lem : count_in P s ≤ states_in P s * labels_in P s
  pub long : length s ≡ length_in P s
  pub filled : filling_in P s ≡ 0
  pub clear : first_fault (states_in P s) (labels_in P s) none (placed_in P s) ≡ none
  pub stays : fault_stays (fault_colour P) (filter_in P s) ≡ true

pub check_sound : (P : Profile) (s vs : List ℕ) → check_of P s ≡ accepted vs → Sound P s × (numbers_in P s ≡ vs)
unfolding check_of file_tests
check_sound P s vs h =
    let p = first_accepted (file_tests P s) (from_edges P s) vs h in
    let t = p.0 in
    let q = edges_accepted (first_fault (states_in P s) (labels_in P s) none (placed_in P s)) (from_leaving P s) vs p.1 in
    let l = edges_accepted (first_leaving (fault_colour P) (colours_in P s) (placed_in P s)) (accepted (numbers_in P s)) vs q.1 in (
      record {
        begins = ltb-false (length s) (bytes_for (header_bits P)) t.0;
        start_in_lem = leb-false (states_in P s) (start_in P s) t.1.0;
        count_in_lem = ltb-false (states_in P s * labels_in P s) (count_in P s) t.1.1.0;
        long = omega (arith, ltb-false (length s) (length_in P s) t.1.1.1.0, ltb-false (length_in P s) (length s) t.1.1.1.1.0);
        filled = eqb-true (filling_in P s) 0 (not-false (eqb (filling_in P s) 0) t.1.1.1.1.1.0);
        clear = q.0;
        stays = file_stays P s l.0;
      },
      cc l.1,
    )

pub sound_check : (P : Profile) (s : List ℕ) → Sound P s → check_of P s ≡ accepted (numbers_in P s)
unfolding check_of file_tests
sound_check P s h =
    let e : eqb (filling_in P s) 0 ≡ true = eq-eqb (filling_in P s) 0 h.filled in
    first_passed (file_tests P s) (from_edges P s)
    (le-ltb _ _ h.begins, (lt-leb _ _ h.start_in_lem, (le-ltb _ _ h.count_in_lem, (le-ltb (length s) (length_in P s) (omega (arith, h.long)), (le-ltb (length_in P s) (length s) (omega (arith, h.long)), (rw e, tt))))))
    ∙ rw (h.clear, stays_file P s h.stays)

-- The numbers of a reading are the file's.
pub record ReadIs (P : Profile) (s : List ℕ) (r : Reading) : Type 0 where
  pub sound : Sound P s
  pub answer : check_of P s ≡ reading_outcome r
  pub states_are : r.states ≡ states_in P s
  pub labels_are : r.labels ≡ labels_in P s
  pub start_is : r.start ≡ start_in P s
  pub count_is : r.edges ≡ count_in P s

-- ---- a file, before and behind its edges

-- a check is the tests before the edges, and then the first fault of the edges
pub check_headed : (P : Profile) (s : List ℕ) → check_of P s ≡ onward (head_of P s) (from_edges P s)
unfolding check_of head_of
check_headed P s = first-onward (file_tests P s) (numbers_in P s) (from_edges P s)

-- The numbers that are read before the edges are the file's.
pub record HeadIs (P : Profile) (s : List ℕ) (r : Reading) : Type 0 where
  pub onto_edges : check_of P s ≡ from_edges P s
  pub states_are : r.states ≡ states_in P s
  pub labels_are : r.labels ≡ labels_in P s
  pub start_is : r.start ≡ start_in P s
  pub count_is : r.edges ≡ count_in P s

pub head_is : (P : Profile) (s : List ℕ) (r : Reading) → head_of P s ≡ reading_outcome r → HeadIs P s r
unfolding head_of
head_is P s r h =
    let q = first_accepted (file_tests P s) (accepted (numbers_in P s)) _ h in
    let n : numbers_in P s ≡ r.states ∷ r.labels ∷ r.start ∷ r.edges ∷ [] = cc q.1 in
    record {
      onto_edges = check_headed P s ∙ ap (λ o. onward o (from_edges P s)) h;
      states_are = cc;
      labels_are = cc;
      start_is = cc;
      count_is = cc;
    }

-- a refusal before the edges is the check's
pub head_refused : (P : Profile) (s : List ℕ) (why : Refusal) → head_of P s ≡ refusal_outcome why → check_of P s ≡ refusal_outcome why
head_refused P s why h = check_headed P s ∙ ap (λ o. onward o (from_edges P s)) h

placed : (P : Profile) (s : List ℕ) → placed_from P s (edges_begin P (states_in P s)) (count_in P s) ≡ placed_in P s
unfolding placed_in
placed P s = refl

-- what the edges decide, as they are read from where they begin
module _ (P : Profile) (s : List ℕ) (r : Reading) (is : HeadIs P s r) (at : ℕ) (begin : at ≡ edges_begin P r.states) where
  placed_read : placed_from P s at r.edges ≡ placed_in P s
  placed_read = rw (begin, is.states_are, is.count_is) (placed P s)

  pub edges_read : edges_from P s at r.edges ≡ edges_in P s
  unfolding edges_from edges_in
  edges_read = ap (map values) placed_read

  faults_read : first_fault r.states r.labels none (placed_from P s at r.edges) ≡ first_fault (states_in P s) (labels_in P s) none (placed_in P s)
  faults_read = rw (placed_read, is.states_are, is.labels_are)

  -- without a fault of its own in any edge, 17 decides
  pub check_faultless : first_fault r.states r.labels none (placed_from P s at r.edges) ≡ none → (leaving : Option Fault) →
      first_leaving (fault_colour P) (colours_in P s) (placed_from P s at r.edges) ≡ leaving → check_of P s ≡ edges_then leaving (reading_outcome r)
  check_faultless h leaving l =
      is.onto_edges ∙ rw (sym faults_read ∙ h, sym (ap (first_leaving (fault_colour P) (colours_in P s)) placed_read) ∙ l)
      (ap (λ (vs : List ℕ). edges_then leaving (accepted vs)) (sym (rw (is.states_are, is.labels_are, is.start_is, is.count_is))))

  pub check_faulty : (why : Refusal) → first_fault r.states r.labels none (placed_from P s at r.edges) ≡ fault_is why → check_of P s ≡ refusal_outcome why
  check_faulty why h = is.onto_edges ∙ rw (sym faults_read ∙ h)

-- ---- a filter that is to be written

-- What accepted lists have passed, apart from the room.
pub record Writable (P : Profile) (F : Filter) : Type 0 where
  pub states_low : 1 ≤ states F
  pub states_high : states F ≤ 2 ^ P.states
  pub labels_low : 1 ≤ F.labels
  pub labels_high : F.labels ≤ 2 ^ P.labels
  pub colours_below : all_below (2 ^ P.colour) F.colours ≡ true
  pub start_in_lem : F.start < states F
  pub count_in_lem : length F.edges ≤ states F * F.labels
  pub clear : first_fault (states F) F.labels none (listed_from 0 F.edges) ≡ none
  pub stays : fault_stays (fault_colour P) F ≡ true

-- its edges are inside and ascend strictly
pub writable_edges : (P : Profile) (F : Filter) → Writable P F → InOrder (states F) F.labels none F.edges
writable_edges P F w =
    rw (listed-values 0 F.edges) at (fault_free (states F) F.labels none (listed_from 0 F.edges) w.clear)

-- what is accepted is in order: the start is a state, every edge is inside, and the edges ascend strictly
pub writable_in_order : (P : Profile) (F : Filter) → Writable P F → in_order F ≡ true
unfolding in_order
writable_in_order P F w =
    let r = writable_edges P F w in
    rw (lt-ltb _ _ w.start_in_lem, r.all_inside) r.ascend

-- what the widths can hold
pub record Held (P : Profile) (colours : List ℕ) (m : ℕ) : Type 0 where
  pub states_low : 1 ≤ length colours
  pub states_high : length colours ≤ 2 ^ P.states
  pub labels_low : 1 ≤ m
  pub labels_high : m ≤ 2 ^ P.labels
  pub colours_below : all_below (2 ^ P.colour) colours ≡ true

pub held : (P : Profile) (colours : List ℕ) (m : ℕ) → holdable P colours m ≡ true → Held P colours m
unfolding holdable
held P colours m h =
    let ns = and_left (within 1 (2 ^ P.states) (length colours)) _ h in
    let rest = and_right (within 1 (2 ^ P.states) (length colours)) _ h in
    let ms = and_left (within 1 (2 ^ P.labels) m) _ rest in
    record {
      states_low = leb-true 1 (length colours) (and_left (leb 1 (length colours)) _ ns);
      states_high = leb-true (length colours) (2 ^ P.states) (and_right (leb 1 (length colours)) _ ns);
      labels_low = leb-true 1 m (and_left (leb 1 m) _ ms);
      labels_high = leb-true m (2 ^ P.labels) (and_right (leb 1 m) _ ms);
      colours_below = and_right (within 1 (2 ^ P.labels) m) _ rest;
    }

-- what the widths can hold, and is in order, can be written
held_in_order : (P : Profile) (F : Filter) → Held P F.colours F.labels → F.start < states F → length F.edges ≤ states F * F.labels →
    first_fault (states F) F.labels none (listed_from 0 F.edges) ≡ none → fault_stays (fault_colour P) F ≡ true → Writable P F
held_in_order P F k starts few clear stays = record {
  states_low = k.states_low;
  states_high = k.states_high;
  labels_low = k.labels_low;
  labels_high = k.labels_high;
  colours_below = k.colours_below;
  start_in_lem = starts;
  count_in_lem = few;
  clear = clear;
  stays = stays;
}

-- what is below a limit throughout is so at each place
pub below_at : (limit : ℕ) (xs : List ℕ) → 0 < limit → all_below limit xs ≡ true → (i : ℕ) → get_or xs i 0 < limit
unfolding all_below
below_at limit [] z h i = z
below_at limit (x ∷ xs) z h zero = ltb-true x limit (and_left (ltb x limit) (all_below limit xs) h)
below_at limit (x ∷ xs) z h (suc i) = below_at limit xs z (and_right (ltb x limit) (all_below limit xs) h) i

-- The fault colour of Q, if it has one, is above the colours of P.
abbrev pub FaultAbove : Profile → Profile → Type 0
FaultAbove P Q = (c : ℕ) → fault_colour Q ≡ some c → 2 ^ P.colour ≤ c

-- a filter without states of the fault colour has no edge that leaves it
each-stays : (fault : Option ℕ) (hue : ℕ → ℕ) → ((c s : ℕ) → fault ≡ some c → hue s < c) → (es : List Edge) → each (stays fault hue) es ≡ true
unfolding each leaves
each-stays fault hue low [] = refl
each-stays none hue low (e ∷ es) = each-stays none hue low es
each-stays (some c) hue low (e ∷ es) =
    let l = low c e.source refl in
    rw (ne_eqb (hue e.source) c (λ q. omega arith)) (each-stays (some c) hue low es)

pub above_stays : (P Q : Profile) (F : Filter) → FaultAbove P Q → all_below (2 ^ P.colour) F.colours ≡ true → fault_stays (fault_colour Q) F ≡ true
unfolding fault_stays colour
above_stays P Q F above low =
    each-stays (fault_colour Q) _ (λ c s e. lt_of_lt_of_le (below_at (2 ^ P.colour) F.colours (pow_pos P.colour) low s) (above c e)) F.edges

-- a filter that one file has and the other can hold can be written there
pub held_writable : (P Q : Profile) (F : Filter) → FaultAbove P Q → Writable P F → holdable Q F.colours F.labels ≡ true → Writable Q F
held_writable P Q F above w h = held_in_order Q F (held Q F.colours F.labels h) w.start_in_lem w.count_in_lem w.clear (above_stays P Q F above w.colours_below)

-- what can be written, the widths can hold
pub writable_held : (P : Profile) (F : Filter) → Writable P F → holdable P F.colours F.labels ≡ true
unfolding holdable
writable_held P F w = simp (le-leb _ _ w.states_low, le-leb _ _ w.states_high, le-leb _ _ w.labels_low, le-leb _ _ w.labels_high, w.colours_below)

pub record Written (P : Profile) (F : Filter) (whole : Bool) (room : ℕ) (vs : List ℕ) : Type 0 where
  pub writable : Writable P F
  pub is_whole : whole ≡ true
  pub roomy : length_of P F ≤ room
  pub are : length_of P F ∷ [] ≡ vs

pub write_written : (P : Profile) (F : Filter) (whole : Bool) (room : ℕ) (vs : List ℕ) → write_of P F whole room ≡ accepted vs → Written P F whole room vs
unfolding write_of write_tests
write_written P F whole room vs h =
    let p = first_accepted (write_tests P F whole) _ vs h in
    let t = p.0 in
    let q = edges_accepted (first_fault (states F) F.labels none (listed_from 0 F.edges)) _ vs p.1 in
    let l = edges_accepted (first_leaving (fault_colour P) F.colours (listed_from 0 F.edges)) _ vs q.1 in
    let r = first_accepted (room_test (length_of P F) room) (accepted (length_of P F ∷ [])) vs l.1 in
    let hold = holdable P F.colours F.labels in
    let a : hold && whole ≡ true = not-false (hold && whole) t.0 in
    let k = held P F.colours F.labels (and_left hold whole a) in
    record {
      writable =
          held_in_order P F k (leb-false (states F) F.start t.1.0) (ltb-false (states F * F.labels) (length F.edges) t.1.1.0) q.0 (list_stays _ F l.0);
      is_whole = and_right hold whole a;
      roomy = ltb-false room (length_of P F) r.0.0;
      are = cc r.1;
    }

pub writable_write : (P : Profile) (F : Filter) (room : ℕ) → Writable P F → length_of P F ≤ room → write_of P F true room ≡ accepted (length_of P F ∷ [])
unfolding write_of write_tests
writable_write P F room w l =
    simp (writable_held P F w, lt-leb _ _ w.start_in_lem, le-ltb _ _ w.count_in_lem, w.clear, stays_list _ F w.stays, le-ltb _ _ l)
