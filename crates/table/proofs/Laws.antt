-- Laws of the table's look-up: an edge that is there, an empty table, one edge more, and a state given the edges of another.
-- Assumes nothing.
use mathlib.Core.Path.{◌≡◌, refl, sym, ap, ◌∙◌, fun_ext}
use mathlib.Core.Bool.{Bool, true, false, not, ◌&&◌, ◌||◌}
use mathlib.Core.List.{List, [], ◌∷◌, ◌++◌, map}
use mathlib.Core.Option.{none, some}
use Prim.Native.Nat.{ℕ, zero, suc, ◌+◌, ◌<◌}
use native.Mathlib.Decide.{dec_lt, ℕ_discrete}
use native.Mathlib.Omega.{arith}
use lib.Dec.{eqb}
use lib.ListN.{length, set, replicate, take, drop}
use lib.Seq.{get_or-set_same, get_or-set_other}
use borrow.Author.Tests.{lt-ltb, le-ltb, eq-eqb, ne_eqb, eqb-true, eqb-false}
use Rattle.std.specs.Prelude.{slice_index_or}
use Rattle.meaning.specs.Search.{at}
use Rattle.meaning.specs.Pick.{pick}
use Rattle.meaning.specs.Cases.{impossible, cases_of, no_both, and_left}
use Rattle.meaning.specs.Reduced.{has}
use Rattle.meaning.specs.Trace.{target}
use Rattle.sets.specs.Sets.{holds}
use Rattle.sets.proofs.Laws.{holds_none}
use Rattle.table.specs.declared.Row.{Row}
use Rattle.table.specs.Table.{Table, row, blank, marked, look, with_edge, or, given}

-- ---- one state at one label

look_label : (T : Table) (s y : ℕ) → y < 64 → look T s y ≡ pick (holds (row T s).labels y) (some (at (row T s).targets y)) none
unfolding look
look_label T s y h = rw (lt-ltb y 64 h)

look_out : (T : Table) (s y : ℕ) → (y < 64 → ⊥) → look T s y ≡ none
unfolding look
look_out T s y h = rw (le-ltb y 64 (omega arith))

pub look_some : (T : Table) (s y : ℕ) → y < 64 → holds (row T s).labels y ≡ true → look T s y ≡ some (at (row T s).targets y)
look_some T s y h e = look_label T s y h ∙ rw e

pub look_none : (T : Table) (s y : ℕ) → holds (row T s).labels y ≡ false → look T s y ≡ none
look_none T s y e = go (dec_lt y 64)
  where
    go : Dec (y < 64) → look T s y ≡ none
    go (yes h) = look_label T s y h ∙ rw e
    go (no h) = look_out T s y h

-- whether a state has a label is whether the label is in its set
pub look-has : (T : Table) (s y : ℕ) → y < 64 → has (look T s y) ≡ holds (row T s).labels y
look-has T s y h = cases_of (holds (row T s).labels y)
    (λ q. ap has (look_some T s y h q) ∙ sym q)
    (λ q. ap has (look_none T s y q) ∙ sym q)

-- an edge that is looked up has its label in the set, below 64, and its target in the table
pub look_there : (T : Table) (s y t : ℕ) → look T s y ≡ some t → (y < 64) × (holds (row T s).labels y ≡ true) × (at (row T s).targets y ≡ t)
look_there T s y t e = go (dec_lt y 64)
  where
    go : Dec (y < 64) → (y < 64) × (holds (row T s).labels y ≡ true) × (at (row T s).targets y ≡ t)
    go (yes h) = cases_of (holds (row T s).labels y)
        (λ q. let is = sym (look_some T s y h q) ∙ e in (h, q, cc))
        (λ q. let is = sym (look_none T s y q) ∙ e in impossible cc)
    go (no h) = let is = sym (look_out T s y h) ∙ e in impossible cc

-- each row of an empty table is blank
pub row_empty : (k s : ℕ) → row (replicate k blank) s ≡ blank
row_empty zero s = refl
row_empty (suc k) zero = refl
row_empty (suc k) (suc s) = row_empty k s

-- without labels there are no edges, whatever the targets are
pub look_unlabelled : (T : Table) → ((s : ℕ) → (row T s).labels ≡ 0) → look T ≡ target []
unfolding target
look_unlabelled T e = fun_ext λ s. fun_ext λ y. look_none T s y (ap (λ (set : ℕ). holds set y) (e s) ∙ holds_none y)

pub look_empty : (k : ℕ) → look (replicate k blank) ≡ target []
look_empty k = look_unlabelled (replicate k blank) λ s. ap (λ (r : Row). r.labels) (row_empty k s)

-- where two tables have the same row they look up the same
same_row : (T T' : Table) (s y : ℕ) → row T' s ≡ row T s → look T' s y ≡ look T s y
unfolding look
same_row T T' s y e = rw e

-- where two rows have the same label, and with it the same target, they are looked up as the same
same_look : (T T' : Table) (s y : ℕ) → holds (row T' s).labels y ≡ holds (row T s).labels y →
    at (row T' s).targets y ≡ at (row T s).targets y → look T' s y ≡ look T s y
unfolding look
same_look T T' s y label aim = rw (label, aim)

-- ---- one edge more

-- `old` is the row of s
module _ (T : Table) (s y t v : ℕ) (old : Row) (is : old ≡ row T s) (hy : y < 64) (hs : s < length T) (wide : length old.targets ≡ 64)
    (v-is : (j : ℕ) → holds v j ≡ (eqb y j || holds old.labels j)) where
  abbrev new : Row
  new = record { labels = v; targets = set old.targets y t }

  abbrev more : Table
  more = set T s new

  own : row more s ≡ new
  own = get_or-set_same T s new blank hs

  label : (b : ℕ) → holds (row more s).labels b ≡ (eqb y b || holds (row T s).labels b)
  label b = ap (λ (r : Row). holds r.labels b) own ∙ v-is b ∙ ap (λ (r : Row). eqb y b || holds r.labels b) is

  aim : (b : ℕ) → at (row more s).targets b ≡ at (set old.targets y t) b
  aim b = ap (λ (r : Row). at r.targets b) own

  here : look more s y ≡ some t
  here = look_some more s y hy (label y ∙ rw (eq-eqb y y refl)) ∙ ap some (aim y ∙ get_or-set_same old.targets y t 0 (omega arith))

  beside : (b : ℕ) → (y ≡ b → ⊥) → look more s b ≡ look T s b
  beside b e =
      same_look T more s b (label b ∙ rw (ne_eqb y b e))
      (aim b ∙ get_or-set_other old.targets y b t 0 (λ z. e (sym z)) ∙ ap (λ (r : Row). at r.targets b) is)

  pub look_put : look more ≡ with_edge (look T) s y t
  unfolding with_edge
  look_put = fun_ext λ a. fun_ext λ b. go a b (ℕ_discrete s a) (ℕ_discrete y b)
    where
      go : (a b : ℕ) → Dec (s ≡ a) → Dec (y ≡ b) → look more a b ≡ pick (eqb s a && eqb y b) (some t) (look T a b)
      go a b (yes e) (yes f) = rw (← e, ← f, eq-eqb s s refl, eq-eqb y y refl) here
      go a b (yes e) (no f) = rw (← e, eq-eqb s s refl, ne_eqb y b f) (beside b f)
      go a b (no e) _ = rw (ne_eqb s a e) (same_row T more a b (get_or-set_other T s a new blank (λ z. e (sym z))))

-- ---- a state given the edges of another

-- the targets of a row as they are while the labels of `rest` are still to be given to it: `own` is the row as it was, and `other` the
-- one that gives
pub record Giving (own other : Row) (targets : List ℕ) (rest : ℕ) : Type 0 where
  pub kept : (y : ℕ) → holds own.labels y ≡ true → at targets y ≡ at own.targets y
  pub done : (y : ℕ) → y < 64 → holds other.labels y ≡ true → holds own.labels y ≡ false → holds rest y ≡ false → at targets y ≡ at other.targets y
  pub left : (y : ℕ) → holds rest y ≡ true → holds own.labels y ≡ false

module _ (own other : Row) where
  pub giving_begun : (rest : ℕ) → ((j : ℕ) → holds rest j ≡ (holds other.labels j && not (holds own.labels j))) → Giving own other own.targets rest
  giving_begun rest is = record {
    kept = λ y q. refl;
    done = λ y h p q r. no_both {b = holds rest y} (is y ∙ rw (p, q)) r;
    left = λ y q. cases_of (holds own.labels y) (λ p. no_both {b = holds rest y} q (is y ∙ rw p (and_no (holds other.labels y)))) (λ p. p);
  }
    where
      and_no : (b : Bool) → (b && false) ≡ false
      and_no true = refl
      and_no false = refl

  pub giving_more : (targets : List ℕ) (rest rest' k : ℕ) → Giving own other targets rest → length targets ≡ 64 → k < 64 → holds rest k ≡ true
      → ((j : ℕ) → holds rest' j ≡ (holds rest j && not (eqb k j))) → Giving own other (set targets k (at other.targets k)) rest'
  giving_more targets rest rest' k g wide hk there is = record {
    kept = λ y q. kept_at y (λ z. differs y q z) ∙ g.kept y q;
    done = λ y h p q r. go y h p q r (ℕ_discrete k y);
    left = λ y q. g.left y (and_left (holds rest y) (not (eqb k y)) (sym (is y) ∙ q));
  }
    where
      kept_at : (y : ℕ) → (k ≡ y → ⊥) → at (set targets k (at other.targets k)) y ≡ at targets y
      kept_at y e = get_or-set_other targets k y (at other.targets k) 0 (λ z. e (sym z))

      differs : (y : ℕ) → holds own.labels y ≡ true → k ≡ y → ⊥
      differs y q e = no_both {b = holds own.labels y} q (rw (← e) (g.left k there))

      go : (y : ℕ) → y < 64 → holds other.labels y ≡ true → holds own.labels y ≡ false → holds rest' y ≡ false → Dec (k ≡ y)
          → at (set targets k (at other.targets k)) y ≡ at other.targets y
      go y h p q r (yes e) = rw (← e) (get_or-set_same targets k (at other.targets k) 0 (omega arith))
      go y h p q r (no e) = kept_at y e ∙ g.done y h p q (cases_of (holds rest y) (λ w. no_both {b = holds rest' y} (is y ∙ rw (w, ne_eqb k y e)) r) (λ w. w))

-- `own` and `other` are the rows of the two states
module _ (T : Table) (from to both : ℕ) (own other : Row) (own-is : own ≡ row T to) (other-is : other ≡ row T from) (ht : to < length T)
    (both_is : (j : ℕ) → holds both j ≡ (holds own.labels j || holds other.labels j)) (targets : List ℕ) (g : Giving own other targets 0) where
  abbrev joint : Row
  joint = record { labels = both; targets = targets }

  abbrev gave : Table
  gave = set T to joint

  joint-is : row gave to ≡ joint
  joint-is = get_or-set_same T to joint blank ht

  to_holds : (y : ℕ) → holds (row gave to).labels y ≡ (holds own.labels y || holds other.labels y)
  to_holds y = ap (λ (r : Row). holds r.labels y) joint-is ∙ both_is y

  own_there : (y : ℕ) → y < 64 → holds own.labels y ≡ true → look T to y ≡ some (at own.targets y)
  own_there y h q = look_some T to y h (ap (λ (r : Row). holds r.labels y) (sym own-is) ∙ q) ∙ ap (λ (r : Row). some (at r.targets y)) (sym own-is)

  own_gone : (y : ℕ) → holds own.labels y ≡ false → look T to y ≡ none
  own_gone y q = look_none T to y (ap (λ (r : Row). holds r.labels y) (sym own-is) ∙ q)

  other_there : (y : ℕ) → y < 64 → holds other.labels y ≡ true → look T from y ≡ some (at other.targets y)
  other_there y h q = look_some T from y h (ap (λ (r : Row). holds r.labels y) (sym other-is) ∙ q) ∙ ap (λ (r : Row). some (at r.targets y)) (sym other-is)

  other_gone : (y : ℕ) → holds other.labels y ≡ false → look T from y ≡ none
  other_gone y q = look_none T from y (ap (λ (r : Row). holds r.labels y) (sym other-is) ∙ q)

  to_target : (y : ℕ) → at (row gave to).targets y ≡ at targets y
  to_target y = ap (λ (r : Row). at r.targets y) joint-is

  to_label : (y : ℕ) → y < 64 → look gave to y ≡ or (look T to y) (look T from y)
  to_label y h = cases_of (holds own.labels y)
      (λ q. look_some gave to y h (to_holds y ∙ rw q) ∙ ap some (to_target y ∙ g.kept y q) ∙ rw (own_there y h q))
      (λ q. cases_of (holds other.labels y)
      (λ p. look_some gave to y h (to_holds y ∙ rw (q, p)) ∙ ap some (to_target y ∙ g.done y h p q (holds_none y)) ∙ rw (own_gone y q, other_there y h p))
      (λ p. look_none gave to y (to_holds y ∙ rw (q, p)) ∙ rw (own_gone y q, other_gone y p)))

  pub look_gave : look gave ≡ given (look T) from to
  unfolding given
  look_gave = fun_ext λ s. fun_ext λ y. cases_of (eqb s to)
      (λ q. rw (q, eqb-true s to q) (go y (dec_lt y 64)))
      (λ q. rw q (same_row T gave s y (get_or-set_other T to s joint blank (eqb-false s to q))))
    where
      go : (y : ℕ) → Dec (y < 64) → look gave to y ≡ or (look T to y) (look T from y)
      go y (yes h) = to_label y h
      go y (no h) = look_out gave to y h ∙ rw (look_out T to y h, look_out T from y h)

-- ---- rows whose targets are marked

-- one row more is gone over
pub marked_more : (d : Row) (T : Table) (i : ℕ) → i < length T →
    let now = map marked (take i T) ++ drop i T in
    set now i (marked (slice_index_or now i d)) ≡ map marked (take (i + 1) T) ++ drop (i + 1) T
marked_more d [] i h = absurd (omega (arith, h))
marked_more d (r ∷ T) zero h = refl
marked_more d (r ∷ T) (suc i) h =
    let next : suc i + 1 ≡ suc (i + 1) = omega arith in
    rw next (ap (λ (rs : Table). marked r ∷ rs) (marked_more d T i (omega (arith, h))))

marked_labels : (T : Table) (s : ℕ) → (row (map marked T) s).labels ≡ (row T s).labels
marked_labels [] s = refl
marked_labels (r ∷ T) zero = refl
marked_labels (r ∷ T) (suc s) = marked_labels T s

pub length_marked : (T : Table) → length (map marked T) ≡ length T
length_marked [] = refl
length_marked (r ∷ T) = ap suc (length_marked T)

-- a table without edges goes on without
pub marked_look : (T : Table) → ((s y : ℕ) → look T s y ≡ none) → (s y : ℕ) → look (map marked T) s y ≡ none
marked_look T e s y = go (dec_lt y 64)
  where
    go : Dec (y < 64) → look (map marked T) s y ≡ none
    go (yes h) = cases_of (holds (row T s).labels y)
        (λ q. let is = sym (look_some T s y h q) ∙ e s y in impossible cc)
        (λ q. look_none (map marked T) s y (ap (λ (set : ℕ). holds set y) (marked_labels T s) ∙ q))
    go (no h) = look_out (map marked T) s y h
