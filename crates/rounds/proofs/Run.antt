-- The run over names that stand at the front of a longer list. Assumes nothing.
use Prim.Native.Nat.{ℕ, zero, suc, ◌+◌, ◌≤◌, ◌<◌}
use mathlib.Core.Path.{◌≡◌, refl, sym, ap, ap₂, ◌∙◌, fun_ext, subst}
use mathlib.Core.Bool.{Bool, true, false, not, ◌&&◌}
use mathlib.Core.List.{List, [], ◌∷◌, ◌++◌}
use mathlib.Core.Option.{Option, none, some}
use native.Mathlib.Omega.{arith}
use native.Mathlib.Numerals.{add-one}
use lib.Dec.{eqb, ltb}
use lib.ListN.{length, take}
use borrow.Author.Tests.{le-ltb, lt-ltb, eqb-true, eqb-false}
use Rattle.meaning.specs.Search.{least, tab, at}
use Rattle.meaning.specs.SearchLaws.{least_ok, least_cong, tab_cong, count_cong, at_take, any_cong}
use Rattle.meaning.specs.Classes.{Task, Classes, initial, parted, first, free, groups, split, named, classes}
use Rattle.meaning.specs.Classes.{round, chosen, begin, cut, run, reduction}
use Rattle.meaning.specs.Cases.{cases_of, no_both}
use Rattle.meaning.specs.ClassesLaws.{Named, groups-apart, split_out, split_class, split-all}
use Rattle.meaning.specs.Reduced.{Grouping, apart, conflict, task_over}
use Rattle.meaning.proofs.Reduction.{Fair, Good, Kept, good_live, initial_good, cut_kept, classes_some, classes_max}
use Rattle.meaning.specs.Reach.{among, reached}
use Rattle.meaning.proofs.ReachLaws.{among_at, at_among, Bounded, reached-first, reached_lt}
use Rattle.table.specs.Table.{Table, look}
use Rattle.conflicts.specs.Conflicts.{clash}
use Rattle.conflicts.proofs.Laws.{and-false, clash_labels}
use Rattle.reach.specs.Walking.{those}
use Rattle.reach.proofs.Laws.{those-among, those_rise}
use Rattle.members.specs.Members.{Heads, Seated, Linkable, Relinkable, Linked, Searched}
use Rattle.members.proofs.Laws.{heads}
use Rattle.pairs.proofs.Laws.{parted_front, parted_own}
use Rattle.partition.specs.Partition.{twin, beginning, rounded, Holds}
use Rattle.partition.specs.declared.Partition.{Partition}
use Rattle.rounds.specs.Rounds.{task_of, Reducible, Somebody}

-- where no label of a table is m or more, the task is that of m labels
pub task_labels : (live : ℕ → Bool) (group : Grouping) (T : Table) (hues : List ℕ) (m n : ℕ) → m ≤ 64
    → ((s y t : ℕ) → look T s y ≡ some t → y < m)
    → task_of live group T hues n ≡ task_over live group (look T) (at hues) m n
task_labels live group T hues m n few below = ap
    (λ (f : List ℕ → ℕ → ℕ → Bool). record {
      size = n;
      live = live;
      colour = at hues;
      conflict = f;
      group = λ mem clash. group mem clash n;
    })
    (clash_labels T m few below)

-- ---- the states that are listed

module _ (next : ℕ → ℕ → Option ℕ) (m n start : ℕ) (bounded : Bounded next m n start) where
  abbrev reachable : List ℕ
  reachable = those (reached next m n start) n

  pub listed-reached : among reachable ≡ reached next m n start
  listed-reached = fun_ext λ s. those-among (reached next m n start) n s ∙ cases_of (reached next m n start s)
      (λ q. rw (q, lt-ltb s n (reached_lt next m n start bounded s q)))
      (λ q. rw q (and-false (ltb s n)))

  pub start_listed : Somebody reachable n
  start_listed = record {
    rises = those_rise (reached next m n start) n;
    one =
        let here = ap (λ (p : ℕ → Bool). p start) listed-reached ∙ reached-first next m n start bounded in
        omega (arith, (among_at reachable start here).1);
  }

-- ---- only the names of states count

module _ (n : ℕ) (clashes : ℕ → ℕ → Bool) (P : List ℕ) where
  abbrev front : List ℕ
  front = take n P

  same : (c s : ℕ) → s < n → eqb (at P s) c ≡ eqb (at front s) c
  same c s h = ap (λ (k : ℕ). eqb k c) (sym (at_take P n s h))

  first_front : first n clashes P ≡ first n clashes front
  unfolding first
  first_front = least_cong _ _ n (λ c h. parted_front n clashes P c)

  groups_front : (c k : ℕ) → k ≤ n → groups (λ s. eqb (at P s) c) clashes k ≡ groups (λ s. eqb (at front s) c) clashes k
  unfolding groups free
  groups_front c zero h = refl
  groups_front c (suc k) h =
      let G = groups (λ s. eqb (at front s) c) clashes k in
      let before : groups (λ s. eqb (at P s) c) clashes k ≡ G = groups_front c k (omega arith) in
      let chosen : free (λ s. eqb (at P s) c) clashes G k ≡ free (λ s. eqb (at front s) c) clashes G k =
      least_cong _ _ k (λ g l. ap not
      (any_cong _ _ k (λ t u. ap (λ (b : Bool). b && (clashes t k && eqb (at G t) g)) (same c t (omega arith))))) in
      ap₂ (λ (w : List ℕ) (v : ℕ). w ++ (v ∷ [])) before
      (ap₂ (λ (b : Bool) (v : ℕ). elim b as (λ x. ℕ) [ true ↦ v | false ↦ 0 ]) (same c k (omega arith))
      (ap (λ (w : List ℕ). free (λ s. eqb (at P s) c) clashes w k) before ∙ chosen))

  split_front : (c : ℕ) (G : List ℕ) → split n P c G ≡ split n front c G
  unfolding split
  split_front c G = tab_cong n _ _ λ s h.
      ap₂ (λ (b : Bool) (v : ℕ). elim b as (λ x. ℕ) [ true ↦ v | false ↦ at P s ]) (same c s h)
      (least_cong _ _ n (λ t l. ap (λ (b : Bool). b && eqb (at G t) (at G s)) (same c t l)))
      ∙ ap (λ (v : ℕ). elim (eqb (at front s) c) as (λ x. ℕ)
      [ true ↦ least (λ t. eqb (at front t) c && eqb (at G t) (at G s)) n | false ↦ v ]) (sym (at_take P n s h))

  rounded_front : (c : ℕ) → rounded groups n clashes P c ≡ rounded groups n clashes front c
  unfolding rounded
  rounded_front c = ap (split n P c) (groups_front c n (omega arith)) ∙ split_front c _

classes_front : (n : ℕ) (P : List ℕ) → classes n P ≡ classes n (take n P)
unfolding classes
classes_front n P = count_cong (named P) (named (take n P)) n (λ s h. ap (λ (k : ℕ). eqb k s) (sym (at_take P n s h)))

-- names that are right at the front are right
named-all : (n : ℕ) (P : List ℕ) → Named n (take n P) → Named n P
named-all n P r = record {
  low = λ s h l. let e = at_take P n s h in rw e at (r.low s h (rw e l));
  own = λ s h l. let e = at_take P n s h in sym (at_take P n (at P s) l) ∙ ap (at (take n P)) (sym e) ∙ r.own s h (rw e l) ∙ e;
}

-- names of targets are names of states
module _ (T : Table) (n : ℕ) (inside : (s y t : ℕ) → look T s y ≡ some t → t < n) (P : List ℕ) where
  apart_front : (o q : Option ℕ) → ((t : ℕ) → o ≡ some t → t < n) → ((t : ℕ) → q ≡ some t → t < n)
      → apart P o q ≡ apart (take n P) o q
  unfolding apart
  apart_front none q h k = refl
  apart_front (some a) none h k = refl
  apart_front (some a) (some b) h k =
      ap₂ (λ (x y : ℕ). not (eqb x y)) (sym (at_take P n a (h a refl))) (sym (at_take P n b (k b refl)))

  clash_front : clash T P ≡ clash T (take n P)
  unfolding conflict
  clash_front = fun_ext λ a. fun_ext λ b. any_cong _ _ 64 (λ y h. apart_front (look T a y) (look T b y) (inside a y) (inside b y))

-- ---- the run

both : {P P' : List ℕ} {k k' : ℕ} → P ≡ P' → k ≡ k'
    → ◌≡◌ {A = Classes} (record { names = P; rounds = k }) (record { names = P'; rounds = k' })
both p q = ap₂ {C = Classes} (λ (P : List ℕ) (k : ℕ). record { names = P; rounds = k }) p q

module _ (live : List ℕ) (T : Table) (hues : List ℕ) (n : ℕ) where
  abbrev task : Task
  task = task_of (among live) groups T hues n

  abbrev now : Partition → Classes
  now Q = record { names = take n Q.names; rounds = Q.rounds }

  -- the rounds made so far, and what is left of the recursion's bound
  pub record Running (Q : Partition) : Type 0 where
    pub long : length Q.names ≡ 256
    pub rest : ℕ
    pub counted : Q.rounds + rest ≡ n
    pub goes : reduction task ≡ run rest task (now Q)
    pub kept : Kept task 1 (now Q)

  -- the class that the next round takes
  abbrev pub taken : Partition → ℕ
  taken Q = first n (clash T Q.names) Q.names

  module _ (lent : Reducible T hues n) (some-live : Somebody live n) where
    fair : Fair task
    fair = record {
      small = omega (arith, lent.few);
      somebody = (at live 0, some-live.rises.below 0 some-live.one, at_among live 0 some-live.one);
      proper = λ mem clashes. groups-apart mem clashes n;
    }

    chosen_front : (P : List ℕ) → first n (clash T P) P ≡ chosen task (take n P)
    unfolding chosen
    chosen_front P =
        ap (λ (f : ℕ → ℕ → Bool). first n f P) (clash_front T n lent.inside P) ∙ first_front n (clash T (take n P)) P

    round_front : (P : List ℕ) (c : ℕ) → rounded groups n (clash T P) P c ≡ round task (take n P) c
    unfolding rounded round
    round_front P c =
        ap (λ (f : ℕ → ℕ → Bool). rounded groups n f P c) (clash_front T n lent.inside P)
        ∙ rounded_front n (clash T (take n P)) P c

    initial_twins : initial task ≡ tab n (beginning (among live) hues n)
    unfolding initial beginning twin
    initial_twins = refl

    pub classes-begin : (Q : Partition) → Holds Q n (tab n (beginning (among live) hues n)) 0 → classes n Q.names ≡ classes n (initial task)
    classes-begin Q h = classes_front n Q.names ∙ ap (classes n) (h.names ∙ sym initial_twins)

    pub running_begins : (Q : Partition) → Holds Q n (tab n (beginning (among live) hues n)) 0 → Running Q
    unfolding reduction begin
    running_begins Q h = record {
      long = h.long;
      rest = n;
      counted = omega (arith, h.rounds);
      goes = ap (run n task) same;
      kept = subst (Kept task 1) same (record { good = good; bound = omega (arith, classes_some task fair (initial task) good) });
    }
      where
        good : Good task (initial task)
        good = initial_good task fair

        same : begin task ≡ now Q
        same = both (initial_twins ∙ sym h.names) (sym h.rounds)

    module _ (Q : Partition) (r : Running Q) where
      -- few rounds are made
      pub running_low : Q.rounds < n
      running_low = let b = r.kept.bound in omega (arith, classes_max task fair (take n Q.names))

      -- the names are right
      pub running_named : Named n (take n Q.names)
      running_named = r.kept.good.right

      -- the states of the list, and no others, are in a class
      pub running_seated : Seated Q.names live n
      running_seated = record {
        rises = some-live.rises;
        all = λ j h. let l = some-live.rises.below j h in
            omega (arith, r.kept.good.all (at live j) l (at_among live j h), at_take Q.names n (at live j) l);
        only = λ s h l. good_live task fair (take n Q.names) r.kept.good s h (omega (arith, l, at_take Q.names n s h));
      }

      pub running_linkable : (next : List ℕ) → length next ≡ 256 → Linkable Q.names live next n
      running_linkable next l = record { few = lent.few; names_long = r.long; next_long = l; seated = running_seated }

      pub running_searched : (next : List ℕ) → Linked Q.names n next → Searched T Q.names next n
      running_searched next l = record { few = lent.few; rows = lent.rows; names_long = r.long; linked = l }

      -- the class that is taken is headed by its name
      pub running_heads : (c : ℕ) → c ≡ taken Q → c < n → Heads Q.names n c
      unfolding first
      running_heads c e l =
          let P = Q.names in
          let hit : parted n (clash T P) P c ≡ true = rw e (least_ok (parted n (clash T P) P) n (omega (arith, e))) in
          heads n P running_named c l (cases_of (eqb (at P c) c)
          (λ q. eqb-true _ _ q)
          (λ q. no_both hit (parted_own n (clash T P) P running_named c l (eqb-false _ _ q))))

      -- after a round its links can be made anew
      pub running_relinkable : (R : Partition) (c : ℕ) → c ≡ taken Q → c < n
          → Holds R n (rounded groups n (clash T Q.names) Q.names c) (Q.rounds + 1)
          → (next : List ℕ) → Linked Q.names n next → Relinkable R.names next n c
      unfolding rounded
      running_relinkable R c e l h next linked =
          let P = Q.names in
          let G = groups (λ s. eqb (at P s) c) (clash T P) n in
          let head = running_heads c e l in
          let nm = named-all n P running_named in
          let new : (s : ℕ) → s < n → at R.names s ≡ at (split n P c G) s = λ s k.
          sym (at_take R.names n s k) ∙ ap (λ (xs : List ℕ). at xs s) h.names in
          record {
            few = lent.few;
            names_long = h.long;
            old = P;
            linked = linked;
            heads = head;
            own = nm.own;
            kept = λ s k z. new s k ∙ split_out n P nm c l head.member G s k z;
            low = λ s k m. omega (arith, new s k, split-all n P nm c l head.member G s k (omega arith));
            within = λ s k m. ap (at P) (new s k) ∙ split_class n P nm c l head.member G s k (omega arith) ∙ m;
          }

      pub running_on : (R : Partition) (c : ℕ) → c ≡ taken Q → c < n
          → Holds R n (rounded groups n (clash T Q.names) Q.names c) (Q.rounds + 1) → Running R
      unfolding cut run
      running_on R c e l h = go r.rest r.counted r.goes
        where
          here : c ≡ chosen task (take n Q.names)
          here = e ∙ chosen_front Q.names

          after : take n R.names ≡ round task (take n Q.names) (chosen task (take n Q.names))
          after = h.names ∙ round_front Q.names c ∙ ap (round task (take n Q.names)) here

          cutting : cut task (now Q) (chosen task (take n Q.names)) ≡ now R
          cutting = both (sym after) (sym (h.rounds ∙ add-one Q.rounds))

          go : (f : ℕ) → Q.rounds + f ≡ n → reduction task ≡ run f task (now Q) → Running R
          go zero k g = absurd (omega (arith, running_low))
          go (suc f) k g = record {
            long = h.long;
            rest = f;
            counted = omega (arith, h.rounds);
            goes = g ∙ turn f;
            kept = subst (Kept task 1) cutting (cut_kept task fair 1 (now Q) (omega (arith, here)) r.kept);
          }
            where
              turn : (f : ℕ) → run (suc f) task (now Q) ≡ run f task (now R)
              turn f = let q : chosen task (take n Q.names) < n = omega (arith, here) in rw (run, lt-ltb _ _ q, cutting)

      pub running_ends : taken Q ≡ n → reduction task ≡ now Q
      unfolding run
      running_ends e = r.goes ∙ go r.rest
        where
          go : (f : ℕ) → run f task (now Q) ≡ now Q
          go zero = refl
          go (suc f) =
              let q : n ≤ chosen task (take n Q.names) = omega (arith, sym e ∙ chosen_front Q.names) in rw (run, le-ltb _ _ q)
