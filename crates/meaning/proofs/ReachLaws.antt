-- A code is reached exactly where some sequence of labels leads to it from the first code. Assumes nothing.
use Prim.Native.Nat.{ℕ, zero, suc, ◌≤◌, ◌<◌}
use Rattle.std.specs.Prelude.{◌≡◌, Bool, ◌||◌, ◌⊎◌, eqb}
use Rattle.std.proofs.Math.Path.{refl, sym, ap, subst, fun_ext}
use Rattle.std.proofs.Common.{◌∙◌, not-suc-le-zero, length-append}
use Rattle.std.proofs.Math.Bool.{true, false}
use Rattle.std.proofs.Math.Logic.{inl, inr, ⊎_elim}
use Rattle.std.proofs.Math.Option.{Option, none, some}
use mathlib.Core.List.{List, [], ◌∷◌, ◌++◌}
use native.Mathlib.Omega.{arith}
use Rattle.std.proofs.Math.Dec.{ltb}
use Rattle.std.proofs.Math.ListN.{length, get_or-append}
use borrow.Author.Tests.{eqb-true, eqb-false, eq-eqb, lt-ltb, le-ltb, ltb-true, ltb-false}
use Rattle.meaning.specs.Pick.{pick}
use Rattle.meaning.specs.Search.{count, at}
use Rattle.meaning.specs.Cases.{cases_of, no_both, impossible, or_left, or_right}
use Rattle.meaning.specs.SearchLaws.{count_cong, count_full, count_max, count_none, count_or}
use Rattle.meaning.specs.Reach.{among, meet, visited, walked, walk, reached, led}

-- ---- lists of codes

-- one of the codes stands at some place
pub among_at : (xs : List ℕ) (c : ℕ) → among xs c ≡ true → (i : ℕ) × (i < length xs) × (at xs i ≡ c)
unfolding among
among_at [] c e = no_both {b = false} e refl
among_at (x ∷ xs) c e = cases_of (eqb x c)
    (λ q. (0, omega arith, eqb-true x c q))
    (λ q. let r = among_at xs c (rw q at e) in (suc r.0, omega (arith, r.1), r.2))

pub at_among : (xs : List ℕ) (i : ℕ) → i < length xs → among xs (at xs i) ≡ true
unfolding among
at_among [] i h = absurd (not-suc-le-zero h)
at_among (x ∷ xs) zero h = or_left (among xs x) (eq-eqb x x refl)
at_among (x ∷ xs) (suc i) h = or_right (eqb x (at xs i)) (at_among xs i (omega arith))

or_assoc : (a b c : Bool) → (a || (b || c)) ≡ ((a || b) || c)
or_assoc true b c = refl
or_assoc false b c = refl

pub or-false : (a : Bool) → (a || false) ≡ a
or-false true = refl
or-false false = refl

or_turn : (a b : Bool) → (a || b) ≡ (b || a)
or_turn true true = refl
or_turn true false = refl
or_turn false true = refl
or_turn false false = refl

pub among-snoc : (xs : List ℕ) (c d : ℕ) → among (xs ++ (c ∷ [])) d ≡ (among xs d || eqb c d)
unfolding among
among-snoc [] c d = or-false (eqb c d)
among-snoc (x ∷ xs) c d = ap (λ (b : Bool). eqb x d || b) (among-snoc xs c d) ∙ or_assoc (eqb x d) (among xs d) (eqb c d)

-- ---- following an edge

pub meet_old : (met : List ℕ) (c : ℕ) → among met c ≡ true → meet met (some c) ≡ met
unfolding meet
meet_old met c e = rw e

pub meet_new : (met : List ℕ) (c : ℕ) → among met c ≡ false → meet met (some c) ≡ met ++ (c ∷ [])
unfolding meet
meet_new met c e = rw e

-- the codes met before and the one that the edge leads to, and no others
pub meet_says : (met : List ℕ) (c d : ℕ) → among (meet met (some c)) d ≡ (among met d || eqb c d)
meet_says met c d = cases_of (among met c)
    (λ e. ap (λ (xs : List ℕ). among xs d) (meet_old met c e) ∙ cases_of (eqb c d)
    (λ q. let w : among met d ≡ true = subst (λ (x : ℕ). among met x ≡ true) (eqb-true c d q) e in rw w)
    (λ q. sym (ap (λ (b : Bool). among met d || b) q ∙ or-false (among met d))))
    (λ e. ap (λ (xs : List ℕ). among xs d) (meet_new met c e) ∙ among-snoc met c d)

-- what was met stays where it stands
pub record Longer (met met' : List ℕ) : Type 0 where
  pub long : length met ≤ length met'
  pub front : (i : ℕ) → i < length met → at met' i ≡ at met i

longer_same : (met : List ℕ) → Longer met met
longer_same met = record { long = omega arith; front = λ i h. refl }

longer_on : {a b c : List ℕ} → Longer a b → Longer b c → Longer a c
longer_on p q = record {
  long = omega (arith, p.long, q.long);
  front = λ i h. q.front i (omega (arith, p.long)) ∙ p.front i h;
}

meet_longer : (met : List ℕ) (o : Option ℕ) → Longer met (meet met o)
unfolding meet
meet_longer met none = longer_same met
meet_longer met (some c) = cases_of (among met c)
    (λ e. subst (Longer met) (sym (meet_old met c e)) (longer_same met))
    (λ e. subst (Longer met) (sym (meet_new met c e)) (record {
      long = omega (arith, length-append met (c ∷ []));
      front = λ i h. get_or-append met (c ∷ []) 0 i h;
    }))

longer_among : {met met' : List ℕ} → Longer met met' → (c : ℕ) → among met c ≡ true → among met' c ≡ true
longer_among {met} {met'} r c e =
    let p = among_at met c e in
    let w : among met' (at met' p.0) ≡ true = at_among met' p.0 (omega (arith, p.1, r.long)) in
    subst (λ (x : ℕ). among met' x ≡ true) (r.front p.0 p.1 ∙ p.2) w

-- each code stands once, and all are below n
pub record Codes (n : ℕ) (met : List ℕ) : Type 0 where
  pub below : (c : ℕ) → among met c ≡ true → c < n
  pub once : count (among met) n ≡ length met

-- so they are no more than n
pub codes_few : (n : ℕ) (met : List ℕ) → Codes n met → length met ≤ n
codes_few n met r = omega (arith, r.once, count_max (among met) n)

codes_first : (n first : ℕ) → first < n → Codes n (first ∷ [])
unfolding among
codes_first n first h = record {
  below = λ c e. let q = eqb-true first c (sym (or-false (eqb first c)) ∙ e) in omega (arith, h, q);
  once = count_or true first (λ d. false) n h ∙ rw (count_none n);
}

pub codes_meet : (n : ℕ) (met : List ℕ) (o : Option ℕ) → ((c : ℕ) → o ≡ some c → c < n) → Codes n met → Codes n (meet met o)
unfolding meet
codes_meet n met none h r = r
codes_meet n met (some c) h r = cases_of (among met c)
    (λ e. subst (Codes n) (sym (meet_old met c e)) r)
    (λ e. subst (Codes n) (sym (meet_new met c e)) (record {
      below = λ d v. cases_of (among met d) (r.below d) (λ q.
          let w : eqb c d ≡ true = sym (ap (λ (b : Bool). b || eqb c d) q) ∙ sym (among-snoc met c d) ∙ v in
          omega (arith, h c refl, eqb-true c d w));
      once =
          count_cong _ _ n (λ d l. among-snoc met c d ∙ or_turn (among met d) (eqb c d))
          ∙ count_or true c (among met) n (h c refl) ∙ rw (e, r.once, length-append);
    }))

-- ---- visiting a code

module _ (out : ℕ → Option ℕ) (met : List ℕ) where
  pub visited_longer : (y : ℕ) → Longer met (visited out y met)
  unfolding visited
  visited_longer zero = longer_same met
  visited_longer (suc y) = longer_on (visited_longer y) (meet_longer (visited out y met) (out y))

  pub visited_codes : (n y : ℕ) → ((b c : ℕ) → out b ≡ some c → c < n) → Codes n met → Codes n (visited out y met)
  unfolding visited
  visited_codes n zero h r = r
  visited_codes n (suc y) h r = codes_meet n (visited out y met) (out y) (h y) (visited_codes n y h r)

  -- each edge's code is met
  pub visited_meets : (y b c : ℕ) → b < y → out b ≡ some c → among (visited out y met) c ≡ true
  unfolding visited
  visited_meets zero b c h e = absurd (not-suc-le-zero h)
  visited_meets (suc y) b c h e = cases_of (eqb b y)
      (λ q. let w : out y ≡ some c = sym (ap out (eqb-true b y q)) ∙ e in
      ap (λ (o : Option ℕ). among (meet (visited out y met) o) c) w
      ∙ meet_says (visited out y met) c c ∙ or_right (among (visited out y met) c) (eq-eqb c c refl))
      (λ q. longer_among (meet_longer (visited out y met) (out y)) c (visited_meets y b c (omega (arith, eqb-false b y q)) e))

  -- what is met was met before or is an edge's code
  pub visited-from : (y c : ℕ) → among (visited out y met) c ≡ true → (among met c ≡ true) ⊎ ((b : ℕ) × (b < y) × (out b ≡ some c))
  unfolding visited meet
  visited-from zero c e = inl e
  visited-from (suc y) c e =
      go (λ q. ⊎_elim inl (λ r. inr (r.0, omega (arith, r.1), r.2)) (visited-from y c q)) (out y) refl e
    where
      Before : Type 0
      Before = (among met c ≡ true) ⊎ ((b : ℕ) × (b < suc y) × (out b ≡ some c))

      go : (among (visited out y met) c ≡ true → Before) → (o : Option ℕ) → out y ≡ o
          → among (meet (visited out y met) o) c ≡ true → Before
      go before none q k = before k
      go before (some d) q k = cases_of (among (visited out y met) c) before (λ z.
          let w : eqb d c ≡ true = sym (ap (λ (b : Bool). b || eqb d c) z) ∙ sym (meet_says (visited out y met) d c) ∙ k in
          inr (y, omega arith, q ∙ ap some (eqb-true d c w)))

-- a visit that leads only to what is met changes nothing
visited_same : (out : ℕ → Option ℕ) (met : List ℕ) → ((b c : ℕ) → out b ≡ some c → among met c ≡ true) → (y : ℕ) → visited out y met ≡ met
unfolding visited meet
visited_same out met h zero = refl
visited_same out met h (suc y) = ap (λ (xs : List ℕ). meet xs (out y)) (visited_same out met h y) ∙ go (out y) refl
  where
    go : (o : Option ℕ) → out y ≡ o → meet met o ≡ met
    go none e = refl
    go (some c) e = meet_old met c (h y c e)

-- labels without an edge need not be looked at
pub visited_skip : (out : ℕ → Option ℕ) (met : List ℕ) (y z : ℕ) → y ≤ z → ((j : ℕ) → y ≤ j → j < z → out j ≡ none)
    → visited out z met ≡ visited out y met
unfolding visited meet
visited_skip out met y zero l h = let e : zero ≡ y = omega arith in ap (λ (i : ℕ). visited out i met) e
visited_skip out met y (suc z) l h = cases_of (ltb z y)
    (λ q. let e : suc z ≡ y = omega (arith, ltb-true z y q) in ap (λ (i : ℕ). visited out i met) e)
    (λ q. let w = ltb-false z y q in
    ap (meet (visited out z met)) (h z w (omega arith)) ∙ visited_skip out met y z w (λ j a b. h j a (omega arith)))

-- ---- sequences of labels

module _ (next : ℕ → ℕ → Option ℕ) where
  pub led_on : (s y t : ℕ) (ys : List ℕ) → next s y ≡ some t → led next s (y ∷ ys) ≡ led next t ys
  unfolding led
  led_on s y t ys e = rw (e, led)

  -- where a sequence leads somewhere, there is a first edge, and the rest leads there from its end
  pub led_some : (s y t : ℕ) (ys : List ℕ) → led next s (y ∷ ys) ≡ some t → (u : ℕ) × (next s y ≡ some u) × (led next u ys ≡ some t)
  unfolding led
  led_some s y t ys e = go (next s y) refl e
    where
      go : (o : Option ℕ) → next s y ≡ o → elim o [ none ↦ none | some u ↦ led next u ys ] ≡ some t
          → (u : ℕ) × (next s y ≡ some u) × (led next u ys ≡ some t)
      go none q k = impossible cc
      go (some u) q k = (u, q, k)

  -- one label more at the end
  led-snoc : (ys : List ℕ) (s t y u : ℕ) → led next s ys ≡ some t → next t y ≡ some u → led next s (ys ++ (y ∷ [])) ≡ some u
  unfolding led
  led-snoc [] s t y u e f =
      let z : s ≡ t = cc in
      led_on s y u [] (ap (λ (x : ℕ). next x y) z ∙ f)
  led-snoc (b ∷ ys) s t y u e f =
      let (r, q, k) = led_some s b t ys e in
      led_on s b r (ys ++ (y ∷ [])) q ∙ led-snoc ys r t y u k f

-- ---- the walk

-- a visit more, or none where all are visited
module _ (next : ℕ → ℕ → Option ℕ) (m first : ℕ) where
  pub walked_on : (i : ℕ) → i < length (walked next m first i)
      → walked next m first (suc i) ≡ visited (next (at (walked next m first i) i)) m (walked next m first i)
  unfolding walked
  walked_on i h = rw (lt-ltb i (length (walked next m first i)) h)

  walked_over : (i : ℕ) → length (walked next m first i) ≤ i → (k : ℕ) → i ≤ k → walked next m first k ≡ walked next m first i
  unfolding walked
  walked_over i h zero l = let e : zero ≡ i = omega arith in ap (walked next m first) e
  walked_over i h (suc k) l = cases_of (ltb k i)
      (λ q. let e : suc k ≡ i = omega (arith, ltb-true k i q) in ap (walked next m first) e)
      (λ q. let w = ltb-false k i q in
      let same = walked_over i h k w in
      let all : ltb k (length (walked next m first k)) ≡ false = le-ltb k (length (walked next m first k)) (omega (arith, ap length same)) in
      rw all same)

  -- two counts of visits that are both enough
  pub walked_enough : (i k : ℕ) → length (walked next m first i) ≤ i → length (walked next m first k) ≤ k → walked next m first i ≡ walked next m first k
  walked_enough i k h l = cases_of (ltb i k)
      (λ q. sym (walked_over i h k (omega (arith, ltb-true i k q))))
      (λ q. walked_over k l i (ltb-false i k q))

-- labels from m on that no code has need not be looked at
module _ (next : ℕ → ℕ → Option ℕ) (m k first : ℕ) (few : m ≤ k) (bare : (s y : ℕ) → m ≤ y → next s y ≡ none) where
  walked_labels : (i : ℕ) → walked next k first i ≡ walked next m first i
  unfolding walked
  walked_labels zero = refl
  walked_labels (suc i) =
      let met = walked next m first i in
      ap (λ (xs : List ℕ). pick (ltb i (length xs)) (visited (next (at xs i)) k xs) xs) (walked_labels i)
      ∙ ap (λ (xs : List ℕ). pick (ltb i (length met)) xs met)
      (visited_skip (next (at met i)) met m k few (λ j a b. bare (at met i) j a))

  pub reached_labels : (n : ℕ) → reached next k n first ≡ reached next m n first
  unfolding reached
  reached_labels n = fun_ext λ c. ap (λ (xs : List ℕ). among xs c) (walked_labels n)

-- The first code and what edges lead to are codes below n, and labels are below m.
pub record Bounded (next : ℕ → ℕ → Option ℕ) (m n first : ℕ) : Type 0 where
  pub begins : first < n
  pub label_lt : (s y t : ℕ) → next s y ≡ some t → y < m
  pub target_lt : (s y t : ℕ) → next s y ≡ some t → t < n

module _ (next : ℕ → ℕ → Option ℕ) (m n first : ℕ) (bounded : Bounded next m n first) where
  -- what i visits leave
  record Visited (i : ℕ) (met : List ℕ) : Type 0 where
    codes : Codes n met
    start : among met first ≡ true
    closed : (j y c : ℕ) → j < i → j < length met → next (at met j) y ≡ some c → among met c ≡ true
    sequence : (c : ℕ) → among met c ≡ true → (ys : List ℕ) × (led next first ys ≡ some c)

  visited-first : Visited 0 (first ∷ [])
  unfolding among led
  visited-first = record {
    codes = codes_first n first bounded.begins;
    start = or_left false (eq-eqb first first refl);
    closed = λ j y c h. absurd (not-suc-le-zero h);
    sequence = λ c e. ([], ap some (eqb-true first c (sym (or-false (eqb first c)) ∙ e)));
  }

  visited_next : (i : ℕ) (met : List ℕ) → i < length met → Visited i met → Visited (suc i) (visited (next (at met i)) m met)
  visited_next i met h r =
      let out = next (at met i) in
      let met' = visited out m met in
      let on = visited_longer out met m in
      record {
        codes = visited_codes out met n m (λ b c. bounded.target_lt (at met i) b c) r.codes;
        start = longer_among on first r.start;
        closed = λ j y c l k e. cases_of (eqb j i)
            (λ q. let w : out y ≡ some c = ap (λ (x : ℕ). next x y) (sym (on.front i h) ∙ ap (at met') (sym (eqb-true j i q))) ∙ e in
            visited_meets out met m y c (bounded.label_lt (at met i) y c w) w)
            (λ q. let b : j < i = omega (arith, l, eqb-false j i q) in
            let v : j < length met = omega (arith, b, h) in
            longer_among on c (r.closed j y c b v (ap (λ (x : ℕ). next x y) (sym (on.front j v)) ∙ e)));
        sequence = λ c e. ⊎_elim (r.sequence c)
            (λ b. let p = r.sequence (at met i) (at_among met i h) in (p.0 ++ (b.0 ∷ []), led-snoc next p.0 first (at met i) b.0 c p.1 b.2))
            (visited-from out met m c e);
      }

  walked-visited : (i : ℕ) → Visited i (walked next m first i)
  unfolding walked
  walked-visited zero = visited-first
  walked-visited (suc i) =
      let met = walked next m first i in
      let r = walked-visited i in
      cases_of (ltb i (length met))
      (λ q. rw q (visited_next i met (ltb-true _ _ q) r))
      (λ q. let l = ltb-false i (length met) q in rw q (record {
        codes = r.codes;
        start = r.start;
        closed = λ j y c b v. r.closed j y c (omega (arith, l, v)) v;
        sequence = r.sequence;
      }))

  pub walked_codes : (i : ℕ) → Codes n (walked next m first i)
  walked_codes i = (walked-visited i).codes

  -- once all n codes are met, no visit finds more
  pub walked_full : (i : ℕ) → length (walked next m first i) ≡ n → (k : ℕ) → i ≤ k → walked next m first k ≡ walked next m first i
  unfolding walked
  walked_full i full zero l = let e : zero ≡ i = omega arith in ap (walked next m first) e
  walked_full i full (suc k) l = cases_of (ltb k i)
      (λ q. let e : suc k ≡ i = omega (arith, ltb-true k i q) in ap (walked next m first) e)
      (λ q. let same = walked_full i full k (ltb-false k i q) in
      let met = walked next m first k in
      let codes = walked_codes k in
      let all : (c : ℕ) → c < n → among met c ≡ true = count_full (among met) n (codes.once ∙ ap length same ∙ full) in
      cases_of (ltb k (length met))
      (λ z. rw z (visited_same (next (at met k)) met (λ b c e. all c (bounded.target_lt (at met k) b c e)) m ∙ same))
      (λ z. rw z same))

  -- n visits are enough: where an edge of a code that is met leads is met
  pub walk_closed : (s y t : ℕ) → among (walk next m n first) s ≡ true → next s y ≡ some t → among (walk next m n first) t ≡ true
  walk_closed s y t e f =
      let met = walk next m n first in
      let r = walked-visited n in
      let p = among_at met s e in
      r.closed p.0 y t (omega (arith, p.1, codes_few n met r.codes)) p.1 (ap (λ (x : ℕ). next x y) p.2 ∙ f)

  pub reached-first : reached next m n first first ≡ true
  unfolding reached
  reached-first = (walked-visited n).start

  pub reached_on : (s y t : ℕ) → reached next m n first s ≡ true → next s y ≡ some t → reached next m n first t ≡ true
  unfolding reached
  reached_on = walk_closed

  pub reached_lt : (s : ℕ) → reached next m n first s ≡ true → s < n
  unfolding reached
  reached_lt s = (walked-visited n).codes.below s

  -- where a code is reached, a sequence leads to it: this one
  pub reached-led : (s : ℕ) → reached next m n first s ≡ true → (ys : List ℕ) × (led next first ys ≡ some s)
  unfolding reached
  reached-led s = (walked-visited n).sequence s

  onward : (ys : List ℕ) (s t : ℕ) → reached next m n first s ≡ true → led next s ys ≡ some t → reached next m n first t ≡ true
  unfolding led
  onward [] s t e f = let z : s ≡ t = cc in subst (λ (x : ℕ). reached next m n first x ≡ true) z e
  onward (y ∷ ys) s t e f = let (r, q, k) = led_some next s y t ys f in onward ys r t (reached_on s y r e q) k

  -- where a sequence leads is reached
  pub led-reached : (ys : List ℕ) (s : ℕ) → led next first ys ≡ some s → reached next m n first s ≡ true
  led-reached ys s = onward ys first s reached-first
