-- The reduction ends, its classes refine the colours and have no conflicting pair, and its rounds are bounded. Assumes nothing.
use Prim.Native.Nat.{ℕ, zero, suc, ◌+◌, ◌≤◌, ◌<◌}
use Rattle.std.specs.Prelude.{◌≡◌, refl, Bool, true, false, ◌&&◌, List, ltb}
use Rattle.std.proofs.Math.Path.{sym, ap}
use Rattle.std.proofs.Common.{◌∙◌}
use native.Mathlib.Omega.{arith}
use Rattle.std.proofs.Math.Dec.{eqb}
use borrow.Author.Tests.{eqb-true, eq-eqb, lt-ltb, le-ltb, ltb-true, ltb-false}
use Rattle.meaning.specs.Search.{least, count, at}
use Rattle.meaning.specs.Cases.{cases_of, and_intro, and_left, and_right}
use Rattle.meaning.specs.SearchLaws.{count_mono, least_ok, least_of, at_tab, count_max, count_step}
use Rattle.meaning.specs.Classes.{Task, Classes, initial, parted, first, split, round, chosen, begin, cut, run, reduction, named, classes}
use Rattle.meaning.specs.ClassesLaws.{Named, split_out, split-live, split_class, split-named, split-all, name_own, split_grows}

-- What a task must meet: 65,535 is no state and so names no class, some state takes part, and grouping parts each conflicting
-- pair.
pub record Fair (T : Task) : Type 0 where
  pub small : T.size ≤ 65535
  pub somebody : (s : ℕ) × (s < T.size) × (T.live s ≡ true)
  pub proper : (mem : ℕ → Bool) (clash : ℕ → ℕ → Bool) (s t : ℕ) → s < t → t < T.size → mem s ≡ true → mem t ≡ true → clash s t ≡ true
      → at (T.group mem clash) s ≡ at (T.group mem clash) t → ⊥

-- What every round keeps: names are right, the states that take part and no others are in a class, and a class has one colour.
pub record Good (T : Task) (P : List ℕ) : Type 0 where
  pub right : Named T.size P
  pub all : (s : ℕ) → s < T.size → T.live s ≡ true → at P s < T.size
  pub out : (s : ℕ) → s < T.size → T.live s ≡ false → at P s ≡ 65535
  pub hue : (s : ℕ) → s < T.size → at P s < T.size → T.colour (at P s) ≡ T.colour s

-- names are good, and from the k classes of the beginning each round made a class or more
pub record Kept (T : Task) (k : ℕ) (Q : Classes) : Type 0 where
  pub good : Good T Q.names
  pub bound : Q.rounds + k ≤ classes T.size Q.names

-- a run makes the next round, or it is over
pub run_on : (T : Task) (Q : Classes) → chosen T Q.names < T.size → (f : ℕ) → run (suc f) T Q ≡ run f T (cut T Q (chosen T Q.names))
unfolding run
run_on T Q h f = rw (lt-ltb (chosen T Q.names) T.size h, run)

pub run_over : (T : Task) (Q : Classes) (f : ℕ) → T.size ≤ chosen T Q.names → run (suc f) T Q ≡ Q
unfolding run
run_over T Q f h = rw (le-ltb (chosen T Q.names) T.size h, run)

module _ (T : Task) (fair : Fair T) where
  abbrev n : ℕ
  n = T.size

  -- ---- the beginning

  abbrev pub twin : ℕ → ℕ
  twin s = least (λ t. T.live t && eqb (T.colour t) (T.colour s)) n

  record Twin (s : ℕ) : Type 0 where
    low : twin s ≤ s
    lives : T.live (twin s) ≡ true
    same : T.colour (twin s) ≡ T.colour s

  first-twin : (s : ℕ) → s < n → T.live s ≡ true → Twin s
  first-twin s h l =
      let r = least_of (λ t. T.live t && eqb (T.colour t) (T.colour s)) n s h (and_intro l (eq-eqb (T.colour s) (T.colour s) refl)) in
      record {
        low = r.0;
        lives = and_left (T.live (twin s)) (eqb (T.colour (twin s)) (T.colour s)) r.1;
        same = eqb-true _ _ (and_right (T.live (twin s)) (eqb (T.colour (twin s)) (T.colour s)) r.1);
      }

  pub initial_in : (s : ℕ) → s < n → T.live s ≡ true → at (initial T) s ≡ twin s
  unfolding initial
  initial_in s h l = at_tab n _ s h ∙ rw l

  pub initial_out : (s : ℕ) → s < n → T.live s ≡ false → at (initial T) s ≡ 65535
  unfolding initial
  initial_out s h l = at_tab n _ s h ∙ rw l

  -- a state in a class takes part
  initial-live : (s : ℕ) → s < n → at (initial T) s < n → T.live s ≡ true
  initial-live s h l = cases_of (T.live s) (λ q. q) (λ q. absurd (omega (arith, fair.small, initial_out s h q)))

  pub initial_good : Good T (initial T)
  initial_good = record {
    right = record {
      low = λ s h l. let q = initial-live s h l in rw (initial_in s h q) (first-twin s h q).low;
      own = λ s h l. let q = initial-live s h l in
          let k = first-twin s h q in
          let w : twin s < n = omega (arith, k.low) in
          rw (initial_in s h q) (initial_in (twin s) w k.lives ∙ ap (λ c. least (λ t. T.live t && eqb (T.colour t) c) n) k.same);
    };
    all = λ s h q. rw (initial_in s h q) (omega (arith, (first-twin s h q).low));
    out = λ s h q. initial_out s h q;
    hue = λ s h l. let q = initial-live s h l in rw (initial_in s h q) (first-twin s h q).same;
  }

  -- ---- a round keeps it, and makes a class more

  module _ (P : List ℕ) (good : Good T P) (c : ℕ) (h : c < T.size) (e : parted T.size (T.conflict P) P c ≡ true) where
    abbrev G : List ℕ
    G = T.group (λ s. eqb (at P s) c) (T.conflict P)

    oc : at P c ≡ c
    oc = name_own n (T.conflict P) P good.right c h e

    pub round_good : Good T (round T P c)
    unfolding round
    round_good = record {
      right = split-named n P good.right c h oc G;
      all = λ s l q. split-all n P good.right c h oc G s l (good.all s l q);
      out = λ s l q. let o = good.out s l q in split_out n P good.right c h oc G s l (λ z. omega (arith, fair.small)) ∙ o;
      hue = λ s l m. let k = split-live n P good.right c h oc G s l m in
          let q = split_class n P good.right c h oc G s l k in
          sym (good.hue (at (split n P c G) s) m (omega (arith, q))) ∙ ap T.colour q ∙ good.hue s l k;
    }

    pub round_grows : classes T.size P < classes T.size (round T P c)
    unfolding round
    round_grows = split_grows n (T.conflict P) P good.right c h e G
        (λ s t l k a b. fair.proper (λ s. eqb (at P s) c) (T.conflict P) s t l k (eq-eqb _ _ a) (eq-eqb _ _ b))

  pub parted-chosen : (P : List ℕ) → chosen T P < T.size → parted T.size (T.conflict P) P (chosen T P) ≡ true
  unfolding chosen first
  parted-chosen P h = least_ok (parted n (T.conflict P) P) n h

  pub classes_max : (P : List ℕ) → classes T.size P ≤ T.size
  unfolding classes
  classes_max P = count_max (named P) n

  pub classes_some : (P : List ℕ) → Good T P → 0 < classes T.size P
  unfolding classes
  classes_some P g =
      let (s, h, l) = fair.somebody in
      let k = g.all s h l in
      omega (arith, count_step (named P) (at P s) n k (eq-eqb (at P (at P s)) (at P s) (g.right.own s h k)))

  -- a state that is in a class takes part
  pub good_live : (P : List ℕ) → Good T P → (s : ℕ) → s < T.size → at P s < T.size → T.live s ≡ true
  good_live P g s h l = cases_of (T.live s) (λ q. q) (λ q. absurd (omega (arith, fair.small, g.out s h q)))

  -- no more classes than states that take part
  pub classes-live : (P : List ℕ) → Good T P → classes T.size P ≤ count T.live T.size
  unfolding classes
  classes-live P g = count_mono (named P) T.live n (λ t h e. good_live P g t h (omega (arith, h, eqb-true (at P t) t e)))

  -- ---- the run

  -- what every round keeps, the run keeps
  pub run_keeps : (Inv : Classes → Type 0) → ((Q : Classes) → chosen T Q.names < T.size → Inv Q → Inv (cut T Q (chosen T Q.names))) → (f : ℕ) (Q : Classes) → Inv Q → Inv (run f T Q)
  unfolding run
  run_keeps Inv step zero Q i = i
  run_keeps Inv step (suc f) Q i = cases_of (ltb (chosen T Q.names) n)
      (λ q. rw (q, run) (run_keeps Inv step f (cut T Q (chosen T Q.names)) (step Q (ltb-true _ _ q) i)))
      (λ q. rw (q, run) i)

  pub cut_kept : (k : ℕ) (Q : Classes) → chosen T Q.names < n → Kept T k Q → Kept T k (cut T Q (chosen T Q.names))
  unfolding cut
  cut_kept k Q h i =
      let e = parted-chosen Q.names h in
      record {
        good = round_good Q.names i.good (chosen T Q.names) h e;
        bound = omega (arith, round_grows Q.names i.good (chosen T Q.names) h e, i.bound);
      }

  pub run_ends : (f : ℕ) (Q : Classes) → Good T Q.names → T.size < f + classes T.size Q.names → T.size ≤ chosen T (run f T Q).names
  unfolding run cut
  run_ends zero Q g h = absurd (omega (arith, classes_max Q.names))
  run_ends (suc f) Q g h = cases_of (ltb (chosen T Q.names) n)
      (λ q. let l = ltb-true _ _ q in
      let e = parted-chosen Q.names l in
      rw (q, run) (run_ends f (cut T Q (chosen T Q.names)) (round_good Q.names g (chosen T Q.names) l e)
      (omega (arith, round_grows Q.names g (chosen T Q.names) l e))))
      (λ q. rw (q, run) (ltb-false _ _ q))

  -- ---- the whole reduction

  pub reduction_kept : Kept T (classes T.size (initial T)) (reduction T)
  unfolding reduction begin
  reduction_kept = run_keeps (Kept T (classes n (initial T))) (cut_kept _) _ _ (record { good = initial_good; bound = omega arith })

  -- no class has a conflicting pair at the end
  pub reduction_calm : T.size ≤ chosen T (reduction T).names
  unfolding reduction begin
  reduction_calm = run_ends n _ initial_good (omega (arith, classes_some (initial T) initial_good))

  -- rounds + colours ≤ classes ≤ states that take part
  pub reduction-bound : ((reduction T).rounds + classes T.size (initial T) ≤ classes T.size (reduction T).names) × (classes T.size (reduction T).names ≤ count T.live T.size)
  reduction-bound = (reduction_kept.bound, classes-live _ reduction_kept.good)
