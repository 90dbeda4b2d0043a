-- Laws of looking for 17: eight colours looked at as one number, and edges that ascend. Assumes nothing.
use Prim.Native.Nat.{ℕ, zero, suc, ◌+◌, ◌*◌, ◌-◌, ◌/◌, ◌%◌, ◌^◌, ◌≤◌, ◌<◌}
use mathlib.Core.Path.{◌≡◌, refl, sym, ap, ◌∙◌}
use mathlib.Core.Bool.{Bool, true, false, not, ◌&&◌}
use mathlib.Core.Logic.{◌⊎◌, inr, ⊎_elim}
use mathlib.Core.List.{List, [], ◌∷◌}
use mathlib.Core.Option.{none, some}
use native.Mathlib.Nat.{div-add-mod', mod-lt, mul-add-div_right, div-lt_iff_lt-mul, mul_comm, add-mul, add-zero, mul-zero, mul-suc, le_trans, lt_of_le_of_lt}
use native.Mathlib.Omega.{arith}
use lib.Dec.{eqb, ltb}
use lib.Pow.{pow_pos, shr-shr}
use borrow.Author.Tests.{eq-eqb, ne_eqb, eqb-true, ltb-true, ltb-false, not-false}
use Rattle.bits.specs.Bits.{field}
use Rattle.bits.proofs.Reading.{field-within}
use Rattle.pen.proofs.Runs.{run_at}
use Rattle.sets.specs.Sets.{holds}
use Rattle.sets.proofs.Laws.{holds_none}
use Rattle.meaning.specs.Search.{any, at}
use Rattle.meaning.specs.SearchLaws.{any_none}
use Rattle.meaning.specs.Cases.{cases_of, and_left, and_right, no_both}
use Rattle.meaning.specs.Filter.{Edge, inside, comes_before, leads, ascending}
use Rattle.meaning.specs.Fault.{leaves}
use Rattle.layout.specs.declared.profile.Profile.{Profile}
use Rattle.std.specs.Prelude.{Some, None}
use Rattle.layout.specs.declared.edge.Placed.{Placed}
use Rattle.layout.specs.Layout.{colour_of, fault_colour, header_bits, edge_bits, edges_begin}
use Rattle.layout.specs.Contents.{states_in, colours_in, colour_at, placed_at, placed_from, edge_at, edges_from}
use Rattle.layout.specs.Code.{Usable}
use Rattle.layout.proofs.Bounds.{states_high}
use Rattle.layout.proofs.EdgeLists.{each_at}
use Rattle.edges.specs.Faults.{first_leaving}
use Rattle.edges.proofs.Tests.{InOrder, fault_free}
use Rattle.leaving.specs.Leaving.{NoneIs63, Passed, leaving_in, nth_edge, source, NoneBefore, Halved}

-- ---- eight fields of six bits

-- one in each field, and the top bit of each
abbrev ones : ℕ
ones = 4467856773185

abbrev tops : ℕ
tops = 142971416741920

abbrev otherwise : ℕ → Bool
otherwise k = not (eqb (ones / 2 ^ (6 * k) % 64) 1 && holds tops (6 * k + 5))

none_otherwise : any otherwise 8 ≡ false
unfolding any holds
none_otherwise = refl

-- a sum in parts of q, with at most one carried
carried : (x y q : ℕ) → 0 < q → (c : ℕ) × (c < 2) × ((x + y) / q ≡ x / q + y / q + c)
carried x y q pos =
    let low = x % q + y % q in
    let sum : x + y ≡ (x / q + y / q) * q + low = omega (arith, div-add-mod' x q, div-add-mod' y q, add-mul (x / q) (y / q) q) in (
      low / q,
      (div-lt_iff_lt-mul {k = q} {x = low} {y = 2} pos).1 (omega (arith, mod-lt x pos, mod-lt y pos)),
      ap (λ (z : ℕ). z / q) sum ∙ mul-add-div_right pos (x / q + y / q) low,
    )

-- 63 and one more has its top bit clear, whatever is carried
top_gone : (x k : ℕ) → x / 2 ^ (6 * k) % 64 ≡ 63 → ones / 2 ^ (6 * k) % 64 ≡ 1 → holds (x + ones) (6 * k + 5) ≡ false
unfolding holds
top_gone x k h one =
    let (c, low, is) = carried x ones (2 ^ (6 * k)) (pow_pos (6 * k)) in
    let zero : (x + ones) / 2 ^ (6 * k + 5) % 2 ≡ 0 = rw (← shr-shr (x + ones) (6 * k) 5, is) (omega arith) in
    rw zero

top_there : (x k : ℕ) → x / 2 ^ (6 * k) % 64 ≡ 63 → holds x (6 * k + 5) ≡ true
unfolding holds
top_there x k h =
    let one : x / 2 ^ (6 * k + 5) % 2 ≡ 1 = rw (← shr-shr x (6 * k) 5) (omega arith) in
    rw one

-- no top bit is gone: no field is 63
pub none_is_63 : (eight there gone : ℕ) → ((j : ℕ) → holds there j ≡ (holds eight j && holds tops j)) →
    ((j : ℕ) → holds gone j ≡ (holds there j && not (holds (eight + ones) j))) → gone ≡ 0 → NoneIs63 eight
none_is_63 eight there gone th gh is-0 k l is =
    let each = not-false _ (any_none otherwise 8 k l none_otherwise) in
    let one = eqb-true _ 1 (and_left (eqb (ones / 2 ^ (6 * k) % 64) 1) _ each) in
    let top = and_right (eqb (ones / 2 ^ (6 * k) % 64) 1) (holds tops (6 * k + 5)) each in
    let set : holds gone (6 * k + 5) ≡ true = gh (6 * k + 5) ∙ rw (th (6 * k + 5), top_there eight k is, top, top_gone eight k is one) in
    no_both set (rw is-0 (holds_none (6 * k + 5)))

-- so none of eight neighbouring fields is
none_of_eight : (file : List ℕ) (begin eight : ℕ) → eight ≡ field file begin 48 → NoneIs63 eight → (i : ℕ) → i < 8 → field file (begin + 6 * i) 6 ≡ 63 → ⊥
none_of_eight file begin eight is clear i l e =
    let whole : 6 * i + 6 + 6 * (7 - i) ≡ 48 = omega arith in
    let z : field file begin 48 / 2 ^ (6 * (7 - i)) % 64 ≡ 63 = rw whole at (sym (field-within file begin (6 * i) 6 (6 * (7 - i))) ∙ e) in
    clear (7 - i) (omega arith) (rw is z)

-- ---- colours at their positions

colour_at_lem : (P : Profile) (file : List ℕ) (s : ℕ) → s < states_in P file → at (colours_in P file) s ≡ colour_at P file s
unfolding colours_in colour_at
colour_at_lem P file s l = run_at file (header_bits P) P.colour (states_in P file) s l ∙ ap (λ (k : ℕ). field file (header_bits P + k) P.colour) (mul_comm s P.colour)

-- a fault colour is 63, in six bits
six_bits : (P : Profile) (file : List ℕ) → Usable P → (c : ℕ) → P.fault ≡ Some c → (s : ℕ) → colour_at P file s ≡ c → field file (header_bits P + 6 * s) 6 ≡ 63
unfolding colour_at header_bits
six_bits P file ok c q s e = let six = ok.six_ones c q in rw (six.0, six.1) at e

-- ---- edges that ascend

later-source : (a b : Edge) → comes_before a b ≡ true → a.source ≤ b.source
unfolding comes_before
later-source a b h = cases_of (ltb a.source b.source) (λ q. omega (arith, ltb-true a.source b.source q))
    (λ q. let same : eqb a.source b.source && ltb a.label b.label ≡ true = rw q at h in
    omega (arith, eqb-true a.source b.source (and_left (eqb a.source b.source) _ same)))

module _ (P : Profile) (file : List ℕ) where
  abbrev bits : ℕ
  bits = edge_bits P

  -- the bit bit which the next edge begins, counted from the first one's or from its own
  next_bit : (bit k : ℕ) → bit + bits + bits * k ≡ bit + bits * suc k
  next_bit bit k = omega (arith, mul-suc bits k)

  neighbours : (bit e : ℕ) → ascending (edges_from P file bit e) ≡ true → (k : ℕ) → suc k < e → (edge_at P file (bit + bits * k)).source ≤ (edge_at P file (bit + bits * suc k)).source
  unfolding edges_from placed_from ascending leads edge_at
  neighbours bit zero h k l = absurd (omega arith)
  neighbours bit (suc zero) h k l = absurd (omega arith)
  neighbours bit (suc (suc e)) h zero l =
      let next : bit + bits * 1 ≡ bit + bits = omega (arith, mul-suc bits 0) in
      let lead = comes_before (edge_at P file bit) (edge_at P file (bit + bits)) in
      rw (mul-zero bits, add-zero bit, next) (later-source _ _ (and_left lead _ h))
  neighbours bit (suc (suc e)) h (suc k) l =
      let lead = comes_before (edge_at P file bit) (edge_at P file (bit + bits)) in
      rw (← next_bit bit k, ← next_bit bit (suc k)) (neighbours (bit + bits) (suc e) (and_right lead _ h) k (omega arith))

  -- 17 of edges that are told apart by their index
  module _ (c : ℕ) where
    abbrev goes : Edge → Bool
    goes e = leaves (some c) (at (colours_in P file)) e

    first_none : (bit e : ℕ) → ((k : ℕ) → k < e → goes (edge_at P file (bit + bits * k)) ≡ false) → first_leaving (some c) (colours_in P file) (placed_from P file bit e) ≡ none
    unfolding placed_from first_leaving edge_at
    first_none bit zero h = refl
    first_none bit (suc e) h =
        let here : goes (edge_at P file bit) ≡ false = rw (mul-zero bits, add-zero bit) at (h 0 (omega arith)) in
        rw here (first_none (bit + bits) e (λ k l. rw (next_bit bit k) (h (suc k) (omega arith))))

    first_at : (bit e i : ℕ) → i < e → ((k : ℕ) → k < i → goes (edge_at P file (bit + bits * k)) ≡ false) → goes (edge_at P file (bit + bits * i)) ≡ true →
        first_leaving (some c) (colours_in P file) (placed_from P file bit e) ≡ some (record { number = 17; place = bit + bits * i })
    unfolding placed_from placed_at first_leaving edge_at
    first_at bit zero i l h go = absurd (omega arith)
    first_at bit (suc e) zero l h go =
        let here : goes (edge_at P file bit) ≡ true = rw (mul-zero bits, add-zero bit) at go in
        rw (here, mul-zero bits, add-zero bit)
    first_at bit (suc e) (suc i) l h go =
        let here : goes (edge_at P file bit) ≡ false = rw (mul-zero bits, add-zero bit) at (h 0 (omega arith)) in
        rw (here, ← next_bit bit i) (first_at (bit + bits) e i (omega arith) (λ k m. rw (next_bit bit k) (h (suc k) (omega arith))) (rw (next_bit bit i) go))

-- without a fault colour no edge leaves it
never_leaves : (colours : List ℕ) (es : List Placed) → first_leaving none colours es ≡ none
unfolding first_leaving leaves
never_leaves colours [] = refl
never_leaves colours (d ∷ es) = never_leaves colours es

-- Edges before edge i have a source before state s or do not leave colour c, and those from it on have no source before s.
pub record Going (P : Profile) (file : List ℕ) (n e c s i : ℕ) : Type 0 where
  pub within : i ≤ e
  pub before : (k : ℕ) → k < i → (source P file n k < s) ⊎ (leaves (some c) (at (colours_in P file)) (nth_edge P file n k) ≡ false)
  pub behind : (k : ℕ) → i ≤ k → k < e → s ≤ source P file n k

-- ---- the edges of a file that have passed

module _ (P : Profile) (file : List ℕ) (n e : ℕ) (passed : Passed P file n e) where
  abbrev from : ℕ → ℕ
  from k = source P file n k

  in_order_lem : InOrder n passed.labels none (edges_from P file (edges_begin P n) e)
  unfolding edges_from
  in_order_lem = fault_free n passed.labels none (placed_from P file (edges_begin P n) e) passed.clear

  pub few_states : n ≤ 256
  few_states = rw passed.states (states_high P P.usable file)

  -- an edge's ends are states
  pub ends : (k : ℕ) → k < e → ((nth_edge P file n k).source < n) × ((nth_edge P file n k).target < n)
  unfolding inside
  ends k l =
      let d = nth_edge P file n k in
      let s = ltb d.source n in
      let y = ltb d.label passed.labels in
      let t = ltb d.target n in
      let here = each_at P (inside n passed.labels) file (edges_begin P n) e in_order_lem.all_inside k l in
      (ltb-true _ _ (and_left s (y && t) here), ltb-true _ _ (and_right y t (and_right s (y && t) here)))

  sorted : (k j : ℕ) → k ≤ j → j < e → from k ≤ from j
  sorted k zero le l = let z : k ≡ 0 = omega arith in rw z (omega arith)
  sorted k (suc j) le l = cases_of (ltb k (suc j))
      (λ q. le_trans (sorted k j (omega (arith, ltb-true k (suc j) q)) (omega arith)) (neighbours P file (edges_begin P n) e in_order_lem.ascend j l))
      (λ q. let z : k ≡ suc j = omega (arith, ltb-false k (suc j) q) in rw z (omega arith))

  hue_at : (s : ℕ) → s < n → at (colours_in P file) s ≡ colour_at P file s
  hue_at s l = colour_at_lem P file s (rw (← passed.states) l)

  pub found_never : P.fault ≡ None → leaving_in P file n e ≡ none
  found_never q = rw (ap colour_of q) (never_leaves (colours_in P file) (placed_from P file (edges_begin P n) e))

  -- ---- halving

  module _ (s : ℕ) where
    module _ (low high middle : ℕ) (w : Halved P file n e s low high) (l : low ≤ middle) (h : middle < high) where
      pub halved_low : from middle < s → Halved P file n e s (middle + 1) high
      halved_low is = record {
        ordered = omega arith;
        within = w.within;
        before = λ k m. lt_of_le_of_lt (sorted k middle (omega arith) (omega (arith, w.within))) is;
        behind = w.behind;
      }

      pub halved_high : s ≤ from middle → Halved P file n e s low middle
      halved_high is = record {
        ordered = l;
        within = omega (arith, w.within);
        before = w.before;
        behind = λ k m o. le_trans is (sorted middle k m o);
      }

  -- ---- there is a fault colour

  module _ (c : ℕ) (q : P.fault ≡ Some c) where
    is_fault : fault_colour P ≡ some c
    is_fault = ap colour_of q

    abbrev leaving : ℕ → Bool
    leaving k = leaves (some c) (at (colours_in P file)) (nth_edge P file n k)

    source_other : (k : ℕ) → k < e → (colour_at P file (from k) ≡ c → ⊥) → leaving k ≡ false
    unfolding leaves
    source_other k l differs = rw (ne_eqb (at (colours_in P file) (from k)) c (λ is. differs (sym (hue_at (from k) (ends k l).0) ∙ is)))

    -- all states are passed
    pub none_left : (s : ℕ) → n ≤ s → NoneBefore P file n e c s → leaving_in P file n e ≡ none
    none_left s all clear = rw is_fault (first_none P file c (edges_begin P n) e (λ k l. clear k l (omega (arith, (ends k l).0))))

    pub none_eight : (s eight : ℕ) → NoneBefore P file n e c s → eight ≡ field file (header_bits P + 6 * s) 48 → NoneIs63 eight → NoneBefore P file n e c (s + 8)
    none_eight s eight clear is no63 k l m = cases_of (ltb (from k) s) (λ b. clear k l (ltb-true (from k) s b))
        (λ b. let high = ltb-false (from k) s b in
        let there : header_bits P + 6 * s + 6 * (from k - s) ≡ header_bits P + 6 * from k = omega arith in
        source_other k l (λ f. none_of_eight file (header_bits P + 6 * s) eight is no63 (from k - s) (omega arith) (rw there (six_bits P file P.usable c q (from k) f))))

    pub none_other : (s : ℕ) → NoneBefore P file n e c s → (colour_at P file s ≡ c → ⊥) → NoneBefore P file n e c (s + 1)
    none_other s clear differs k l m = cases_of (ltb (from k) s) (λ b. clear k l (ltb-true (from k) s b))
        (λ b. let same : from k ≡ s = omega (arith, ltb-false (from k) s b) in source_other k l (rw same differs))

    -- ---- the edges of a state

    module _ (s : ℕ) where
      module _ (i : ℕ) (w : Going P file n e c s i) where
        -- no edge before it leaves
        passed_by : NoneBefore P file n e c s → (k : ℕ) → k < i → leaving k ≡ false
        passed_by clear k l = ⊎_elim (λ low. clear k (omega (arith, w.within)) low) (λ stays. stays) (w.before k l)

        pub going_other : i < e → (from i ≡ s → ⊥) → NoneBefore P file n e c s → NoneBefore P file n e c (s + 1)
        going_other more differs clear k l m = cases_of (ltb k i) (λ b. passed_by clear k (ltb-true k i b))
            (λ b. let up = sorted i k (ltb-false k i b) l in
            let least = w.behind i (omega arith) more in
            absurd (differs (omega arith)))

        pub going_on : i < e → from i ≡ s → colour_at P file s ≡ c → colour_at P file (nth_edge P file n i).target ≡ c → Going P file n e c s (i + 1)
        unfolding leaves
        going_on more same is to =
            let stays : leaving i ≡ false = rw (
              eq-eqb (at (colours_in P file) (from i)) c (hue_at (from i) (ends i more).0 ∙ ap (colour_at P file) same ∙ is),
              eq-eqb (at (colours_in P file) (nth_edge P file n i).target) c (hue_at _ (ends i more).1 ∙ to),
            ) in
            record {
              within = omega arith;
              before = λ k l. cases_of (ltb k i) (λ b. w.before k (ltb-true k i b)) (λ b. let z : k ≡ i = omega (arith, ltb-false k i b) in inr (rw z stays));
              behind = λ k l m. w.behind k (omega arith) m;
            }

        pub going_leaves : i < e → from i ≡ s → colour_at P file s ≡ c → (colour_at P file (nth_edge P file n i).target ≡ c → ⊥) → NoneBefore P file n e c s →
            leaving_in P file n e ≡ some (record { number = 17; place = edges_begin P n + edge_bits P * i })
        unfolding leaves
        going_leaves more same is to clear =
            let goes_on : leaving i ≡ true = rw (
              eq-eqb (at (colours_in P file) (from i)) c (hue_at (from i) (ends i more).0 ∙ ap (colour_at P file) same ∙ is),
              ne_eqb (at (colours_in P file) (nth_edge P file n i).target) c (λ f. to (sym (hue_at _ (ends i more).1) ∙ f)),
            ) in
            rw is_fault (first_at P file c (edges_begin P n) e i more (passed_by clear) goes_on)
