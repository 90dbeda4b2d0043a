-- Laws of the walk: a code met, a label or a state further; and of the states that are listed. Assumes nothing.
use Prim.Native.Nat.{ℕ, zero, suc, ◌+◌, ◌≤◌, ◌<◌}
use mathlib.Core.Path.{◌≡◌, refl, sym, ap, ap₂, ◌∙◌, subst}
use mathlib.Core.Bool.{Bool, true, false, not, ◌&&◌}
use mathlib.Core.List.{List, [], ◌∷◌, ◌++◌, append-nil}
use mathlib.Core.Option.{Option, none, some}
use native.Mathlib.Nat.{not-suc-le-zero}
use native.Mathlib.Numerals.{add-one}
use native.Mathlib.Omega.{arith}
use lib.Dec.{eqb, ltb}
use lib.ListN.{length, set, take, replicate, length-set, length-append, length-replicate, get_or-replicate, get_or-append}
use lib.Seq.{get_or_at, get_or-set_same, get_or-set_other, length-take-le, take-suc-set}
use borrow.Author.Tests.{eq-eqb, ne_eqb, eqb-true, eqb-false, ltb-true, ltb-false, lt-ltb, le-ltb, not-true, not-false}
use Rattle.meaning.specs.Pick.{pick}
use Rattle.meaning.specs.Cases.{cases_of, no_both, or_right}
use Rattle.meaning.specs.Search.{count, at}
use Rattle.meaning.specs.SearchLaws.{at_take, count_none}
use Rattle.meaning.specs.Reach.{among, meet, visited, walked, walk, reached}
use Rattle.meaning.proofs.ReachLaws.{Codes, codes_few, codes_meet, at_among, among-snoc, or-false, meet_old, meet_new, visited_skip}
use Rattle.meaning.proofs.ReachLaws.{Bounded, walked_on, walked_enough, walked_codes, walked_full}
use Rattle.sets.specs.Sets.{holds, Lowest}
use Rattle.sets.proofs.Laws.{From, from_all, from_above, from_gap, from_next, from_none}
use Rattle.table.specs.Table.{Table, look}
use Rattle.table.proofs.Laws.{look_there}
use Rattle.reach.specs.Walking.{Queue, Walked, Walkable, those, Rises}

-- ---- a code is met

not_not : (b : Bool) → not (not b) ≡ b
not_not true = refl
not_not false = refl

-- as many are listed as are met
walked_long : {codes numbers all : List ℕ} {met : ℕ} → Walked codes numbers met all → length all ≡ met
walked_long {codes = codes} {met = met} w =
    ap length (sym w.says) ∙ length-take-le met codes (omega (arith, w.queue.most, w.queue.codes_long))

module _ (codes numbers : List ℕ) (met c : ℕ) (q : Queue codes numbers met) (h : c < 256) where
  abbrev all : List ℕ
  all = take met codes

  -- a code with a number is met already
  pub met_old : (at numbers c ≡ 65535 → ⊥) → Walked codes numbers met (meet all (some c))
  met_old e =
      let old : among all c ≡ true = not-false (among all c) (sym (q.numbered c h) ∙ ne_eqb (at numbers c) 65535 e) in
      record { queue = q; says = sym (meet_old all c old) }

  module _ (e : at numbers c ≡ 65535) where
    new : among all c ≡ false
    new = not-true (among all c) (sym (q.numbered c h) ∙ eq-eqb (at numbers c) 65535 e)

    more : meet all (some c) ≡ all ++ (c ∷ [])
    more = meet_new all c new

    once_more : Codes 256 (all ++ (c ∷ []))
    once_more = subst (Codes 256) more (codes_meet 256 all (some c) (λ d z. let w : c ≡ d = cc in omega (arith, h)) q.once)

    -- there is a place for a new one
    pub met_room : met < 256
    met_room =
        let listed = walked_long {all = all} record { queue = q; says = refl } in
        omega (arith, codes_few 256 (all ++ (c ∷ [])) once_more, length-append all (c ∷ []), listed)

    abbrev codes' : List ℕ
    codes' = set codes met c

    abbrev numbers' : List ℕ
    numbers' = set numbers c met

    front : take (met + 1) codes' ≡ all ++ (c ∷ [])
    front = rw (add-one met) (take-suc-set codes met c (omega (arith, met_room, q.codes_long)))

    pub met_new : Walked (set codes met c) (set numbers c met) (met + 1) (meet all (some c))
    met_new = record {
      queue = record {
        codes_long = length-set codes met c ∙ q.codes_long;
        numbers_long = length-set numbers c met ∙ q.numbers_long;
        most = omega (arith, met_room);
        once = rw front once_more;
        numbered = λ d l. rw front (cases_of (eqb c d)
            (λ z. let same = eqb-true c d z in
            let mark : at numbers' d ≡ met = rw (← same) (get_or-set_same numbers c met 0 (omega (arith, h, q.numbers_long))) in
            let there : among (all ++ (c ∷ [])) d ≡ true = among-snoc all c d ∙ rw z (or_right (among all d) refl) in
            ne_eqb (at numbers' d) 65535 (λ u. omega (arith, met_room, mark, u)) ∙ sym (ap not there))
            (λ z. let same : among (all ++ (c ∷ [])) d ≡ among all d = among-snoc all c d ∙ rw z (or-false (among all d)) in
            ap (λ (x : ℕ). eqb x 65535) (get_or-set_other numbers c d met 0 (λ u. eqb-false c d z (sym u))) ∙ q.numbered d l
            ∙ ap not (sym same)));
      };
      says = front ∙ sym more;
    }

-- ---- a state is visited

-- The edges at the labels `set` are followed up to a label; `rest` holds the labels from there on.
pub record Visiting (out : ℕ → Option ℕ) (set : ℕ) (all codes numbers : List ℕ) (met rest : ℕ) : Type 0 where
  pub label : ℕ
  pub most : label ≤ 64
  pub from : From set label rest
  pub walked : Walked codes numbers met (visited out label all)

pub visiting_begun : (out : ℕ → Option ℕ) (set : ℕ) (codes numbers : List ℕ) (met : ℕ) → Queue codes numbers met
    → Visiting out set (take met codes) codes numbers met set
unfolding visited
visiting_begun out set codes numbers met q =
    record { label = 0; most = omega arith; from = from_all set; walked = record { queue = q; says = refl } }

module _ {out : ℕ → Option ℕ} {set : ℕ} {all codes numbers : List ℕ} {met rest : ℕ} (r : Visiting out set all codes numbers met rest)
    (only : (j : ℕ) → holds set j ≡ false → out j ≡ none) where
  pub visiting_more : (y t : ℕ) → y < 64 → Lowest rest y → out y ≡ some t → {codes' numbers' : List ℕ} {met' rest' : ℕ}
      → Walked codes' numbers' met' (meet (take met codes) (some t))
      → ((j : ℕ) → holds rest' j ≡ (holds rest j && not (eqb y j))) → Visiting out set all codes' numbers' met' rest'
  unfolding visited
  visiting_more y t high lowest is w less =
      let skip = visited_skip out all r.label y (from_above r.from y lowest.there) (λ j a b. only j (from_gap r.from y lowest j a b)) in
      record {
        label = suc y;
        most = omega arith;
        from = from_next r.from y lowest less;
        walked = record {
          queue = w.queue;
          says = w.says ∙ ap₂ (λ (xs : List ℕ) (o : Option ℕ). meet xs o) (r.walked.says ∙ sym skip) (sym is);
        };
      }

  pub visiting_ended : rest ≡ 0 → Walked codes numbers met (visited out 64 all)
  visiting_ended e = record {
    queue = r.walked.queue;
    says = r.walked.says ∙ sym (visited_skip out all r.label 64 r.most (λ j a b. only j (from_none r.from e j a)));
  }

-- ---- the walk

pub queue_none : (codes numbers : List ℕ) → length codes ≡ 256 → numbers ≡ replicate 256 65535 → Queue codes numbers 0
unfolding among
queue_none codes numbers l e = rw e record {
  codes_long = l;
  numbers_long = length-replicate {A = ℕ} 256 65535;
  most = omega arith;
  once = record { below = λ c z. no_both {b = false} z refl; once = none_once 256 };
  numbered = λ c h. eq-eqb _ _ (get_or-replicate 256 c 65535 0 h);
}
  where
    none_once : (n : ℕ) → count (λ c. false) n ≡ 0
    none_once n = count_none n

-- a table of n states has 64 labels
pub look_bounded : (T : Table) (n start : ℕ) → start < n → ((s y t : ℕ) → look T s y ≡ some t → t < n) → Bounded (look T) 64 n start
look_bounded T n start begins inside =
    record { begins = begins; label_lt = λ s y t e. (look_there T s y t e).0; target_lt = inside }

module _ (T : Table) (n start : ℕ) (codes numbers : List ℕ) (lent : Walkable T n start codes numbers) where
  bounded : Bounded (look T) 64 n start
  bounded = look_bounded T n start lent.begins lent.inside

  -- the state that is visited next is one of the n
  pub next_state : (codes' numbers' : List ℕ) (met i : ℕ) → Walked codes' numbers' met (walked (look T) 64 start i) → i < met → at codes' i < n
  next_state codes' numbers' met i w h =
      let all = walked (look T) 64 start i in
      let here : at all i ≡ at codes' i = ap (λ (xs : List ℕ). at xs i) (sym w.says) ∙ at_take codes' met i h in
      subst (λ (c : ℕ). c < n) here
      ((walked_codes (look T) 64 n start bounded i).below (at all i) (at_among all i (omega (arith, h, walked_long w))))

  -- a visit more
  pub walk_more : {codes' numbers' : List ℕ} {met i s : ℕ} → Walked codes' numbers' met (walked (look T) 64 start i) → i < met → s ≡ at codes' i
      → {codes'' numbers'' : List ℕ} {met' : ℕ} → Walked codes'' numbers'' met' (visited (look T s) 64 (take met codes'))
      → Walked codes'' numbers'' met' (walked (look T) 64 start (i + 1))
  walk_more {codes' = codes'} {met = met} {i = i} {s = s} w h e v =
      let all = walked (look T) 64 start i in
      let here : s ≡ at all i = e ∙ sym (at_take codes' met i h) ∙ ap (λ (xs : List ℕ). at xs i) w.says in
      record {
        queue = v.queue;
        says = v.says ∙ ap₂ (λ (s : ℕ) (xs : List ℕ). visited (look T s) 64 xs) here w.says
            ∙ sym (ap (walked (look T) 64 start) (add-one i) ∙ walked_on (look T) 64 start i (omega (arith, h, walked_long w)));
      }

  -- all are met
  pub walk_full : {codes' numbers' : List ℕ} {met i : ℕ} → Walked codes' numbers' met (walked (look T) 64 start i) → i < met → met ≡ n
      → Walked codes' numbers' met (walk (look T) 64 n start)
  walk_full {i = i} w h e = record {
    queue = w.queue;
    says = w.says ∙ sym (walked_full (look T) 64 n start bounded i (walked_long w ∙ e) n (omega (arith, h, e)));
  }

  -- all are visited
  pub walk-all : {codes' numbers' : List ℕ} {met i : ℕ} → Walked codes' numbers' met (walked (look T) 64 start i) → met ≤ i
      → Walked codes' numbers' met (walk (look T) 64 n start)
  walk-all {i = i} w h = record {
    queue = w.queue;
    says = w.says ∙ walked_enough (look T) 64 start i n (omega (arith, h, walked_long w))
        (codes_few n (walk (look T) 64 n start) (walked_codes (look T) 64 n start bounded n));
  }

-- the start is met first
pub walk_first : (next : ℕ → ℕ → Option ℕ) (m start : ℕ) (codes : List ℕ) → meet (take 0 codes) (some start) ≡ walked next m start 0
unfolding meet among walked
walk_first next m start codes = refl

-- ---- those that pass

pub those_cong : (p q : ℕ → Bool) (n : ℕ) → ((s : ℕ) → s < n → p s ≡ q s) → those p n ≡ those q n
unfolding those
those_cong p q zero h = refl
those_cong p q (suc n) h = ap₂ (λ (xs : List ℕ) (b : Bool). xs ++ pick b (n ∷ []) []) (those_cong p q n (λ s l. h s (omega arith))) (h n (omega arith))

module _ (p : ℕ → Bool) where
  pub those_hit : (n : ℕ) → p n ≡ true → those p (n + 1) ≡ those p n ++ (n ∷ [])
  unfolding those
  those_hit n e = rw (add-one n, e)

  pub those_miss : (n : ℕ) → p n ≡ false → those p (n + 1) ≡ those p n
  unfolding those
  those_miss n e = rw (add-one n, e) (append-nil (those p n))

  -- they are those that pass
  pub those-among : (n s : ℕ) → among (those p n) s ≡ (ltb s n && p s)
  unfolding those among
  those-among zero s = rw (le-ltb s 0 (omega arith))
  those-among (suc n) s = cases_of (p n)
      (λ e. rw e (among-snoc (those p n) n s ∙ cases_of (eqb n s)
      (λ z. let same : n ≡ s = eqb-true n s z in rw (z, ← same, lt-ltb n (suc n) (omega arith), e) (or_right (among (those p n) n) refl))
      (λ z. let other = eqb-false n s z in rw z (or-false (among (those p n) s) ∙ those-among n s ∙ ap (λ (b : Bool). b && p s) (below n s other)))))
      (λ e. rw e (ap (λ (xs : List ℕ). among xs s) (append-nil (those p n)) ∙ those-among n s ∙ cases_of (eqb n s)
      (λ z. let same : n ≡ s = eqb-true n s z in rw (← same, e) (and-false (ltb n n) ∙ sym (and-false (ltb n (suc n)))))
      (λ z. ap (λ (b : Bool). b && p s) (below n s (eqb-false n s z)))))
    where
      and-false : (b : Bool) → (b && false) ≡ false
      and-false true = refl
      and-false false = refl

      below : (n s : ℕ) → (n ≡ s → ⊥) → ltb s n ≡ ltb s (suc n)
      below n s d = cases_of (ltb s n)
          (λ q. q ∙ sym (lt-ltb s (suc n) (omega (arith, ltb-true s n q))))
          (λ q. q ∙ sym (le-ltb s (suc n) (omega (arith, ltb-false s n q))))

  -- and they ascend
  pub those_rise : (n : ℕ) → Rises n (those p n)
  unfolding those
  those_rise zero = record { below = λ j h. absurd (not-suc-le-zero h); rising = λ i j h l. absurd (not-suc-le-zero l) }
  those_rise (suc n) = cases_of (p n)
      (λ e. rw e (rises_more n (those p n) (those_rise n)))
      (λ e. rw e (subst (Rises (suc n)) (sym (append-nil (those p n))) (let r = those_rise n in record {
        below = λ j h. omega (arith, r.below j h);
        rising = r.rising;
      })))
    where
      rises_more : (n : ℕ) (xs : List ℕ) → Rises n xs → Rises (suc n) (xs ++ (n ∷ []))
      rises_more n xs r = record {
        below = λ j h. cases_of (ltb j (length xs))
            (λ q. let l = ltb-true j (length xs) q in omega (arith, get_or-append xs (n ∷ []) 0 j l, r.below j l))
            (λ q. let e : j ≡ length xs = omega (arith, h, length-append xs (n ∷ []), ltb-false j (length xs) q) in
            omega (arith, get_or_at xs n [] 0 j (sym e)));
        rising = λ i j h l. cases_of (ltb j (length xs))
            (λ q. let k = ltb-true j (length xs) q in
            omega (arith, get_or-append xs (n ∷ []) 0 j k, get_or-append xs (n ∷ []) 0 i (omega (arith, h, k)), r.rising i j h k))
            (λ q. let e : j ≡ length xs = omega (arith, l, length-append xs (n ∷ []), ltb-false j (length xs) q) in
            let k : i < length xs = omega (arith, h, e) in
            omega (arith, get_or_at xs n [] 0 j (sym e), get_or-append xs (n ∷ []) 0 i k, r.below i k));
      }

pub rises_below : {n k : ℕ} {xs : List ℕ} → n ≤ k → Rises n xs → Rises k xs
rises_below h r = record { below = λ j l. omega (arith, h, r.below j l); rising = r.rising }

-- ---- those that have a number

-- a state has a number
abbrev pub numbered : List ℕ → ℕ → Bool
numbered numbers s = not (eqb (at numbers s) 65535)

-- after the walk, those that are reached
pub numbered-reached : (next : ℕ → ℕ → Option ℕ) (m n start : ℕ) {codes numbers : List ℕ} {met : ℕ}
    → Walked codes numbers met (walk next m n start) → (s : ℕ) → s < 256 → numbered numbers s ≡ reached next m n start s
unfolding reached
numbered-reached next m n start {codes = codes} {met = met} w s h =
    ap not (w.queue.numbered s h) ∙ not_not (among (take met codes) s) ∙ ap (λ (xs : List ℕ). among xs s) w.says

-- those before s stand in the first k places, and from s on the numbers are as they were
pub record Sorting (before : List ℕ) (n : ℕ) (numbers : List ℕ) (k s : ℕ) : Type 0 where
  pub long : length numbers ≡ 256
  pub inside : s ≤ n
  pub few : k ≤ s
  pub front : take k numbers ≡ those (numbered before) s
  pub still : (t : ℕ) → s ≤ t → at numbers t ≡ at before t

pub sorting_begun : (numbers : List ℕ) (n : ℕ) → length numbers ≡ 256 → Sorting numbers n numbers 0 0
unfolding those
sorting_begun numbers n l = record { long = l; inside = omega arith; few = omega arith; front = refl; still = λ t h. refl }

module _ {before : List ℕ} {n : ℕ} {numbers : List ℕ} {k s : ℕ} (r : Sorting before n numbers k s) where
  pub sorting_more : s < n → n ≤ 256 → (at numbers s ≡ 65535 → ⊥) → Sorting before n (set numbers k s) (k + 1) (s + 1)
  sorting_more h few e = record {
    long = length-set numbers k s ∙ r.long;
    inside = omega arith;
    few = omega (arith, r.few);
    front =
        let pass : numbered before s ≡ true = ap not (ne_eqb (at before s) 65535 (λ z. e (r.still s (omega arith) ∙ z))) in
        rw (add-one k) (take-suc-set numbers k s (omega (arith, r.few, r.long))) ∙ ap (λ (xs : List ℕ). xs ++ (s ∷ [])) r.front
        ∙ sym (those_hit (numbered before) s pass);
    still = λ t l. get_or-set_other numbers k t s 0 (λ z. omega (arith, r.few)) ∙ r.still t (omega arith);
  }

  pub sorting_skip : s < n → at numbers s ≡ 65535 → Sorting before n numbers k (s + 1)
  sorting_skip h e = record {
    long = r.long;
    inside = omega arith;
    few = omega (arith, r.few);
    front =
        let pass : numbered before s ≡ false = ap not (eq-eqb (at before s) 65535 (sym (r.still s (omega arith)) ∙ e)) in
        r.front ∙ sym (those_miss (numbered before) s pass);
    still = λ t l. r.still t (omega arith);
  }
