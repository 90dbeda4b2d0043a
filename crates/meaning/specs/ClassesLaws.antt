-- Laws of splitting. Assumes nothing.
use Prim.Native.Nat.{ℕ, zero, suc, ◌≤◌, ◌<◌}
use Rattle.std.specs.Prelude.{◌≡◌, false, ◌&&◌, length}
use Rattle.std.proofs.Math.Path.{refl, sym}
use Rattle.std.proofs.Common.{ap, ◌∙◌, not-suc-le-zero, arith, length-append}
use Rattle.std.proofs.Math.Bool.{Bool, true, not}
use mathlib.Core.List.{List, []}
use Rattle.std.proofs.Math.Dec.{eqb}
use Rattle.std.proofs.Math.ListN.{get_or-append}
use Rattle.std.proofs.Math.Seq.{get_or_at}
use borrow.Author.Tests.{eqb-true, eqb-false, eq-eqb, ne_eqb, not-true}
use Rattle.meaning.specs.Search.{any, least, count, at}
use Rattle.meaning.specs.Cases.{cases_of, same², no_both, and_intro, and_left, and_right}
use Rattle.meaning.specs.SearchLaws.{any_intro, any_elim, least_max, least_ok, least_of, least_none, at_tab, count_more}
use Rattle.meaning.specs.Classes.{parted, first, free, groups, split, named, classes}

-- Names are right: a class's name is its smallest state. (A state whose name is n or more is in no class.)
pub record Named (n : ℕ) (P : List ℕ) : Type 0 where
  pub low : (s : ℕ) → s < n → at P s < n → at P s ≤ s
  pub own : (s : ℕ) → s < n → at P s < n → at P (at P s) ≡ at P s

-- ---- groups

module _ (mem : ℕ → Bool) (clash : ℕ → ℕ → Bool) where
  groups-length : (k : ℕ) → length (groups mem clash k) ≡ k
  unfolding groups
  groups-length zero = refl
  groups-length (suc k) = rw (length-append, groups-length k) (omega arith)

  older : (n i : ℕ) → i < n → at (groups mem clash (suc n)) i ≡ at (groups mem clash n) i
  unfolding groups
  older n i w = get_or-append (groups mem clash n) _ 0 i (rw groups-length w)

  pub groups_at : (n i : ℕ) → i < n → at (groups mem clash n) i ≡ at (groups mem clash (suc i)) i
  groups_at zero i h = absurd (not-suc-le-zero h)
  groups_at (suc n) i h = cases_of (eqb i n)
      (λ q. rw (eqb-true i n q))
      (λ q. let w : i < n = omega (arith, eqb-false i n q) in
      older n i w ∙ groups_at n i w)

  pub groups_last : (k : ℕ) → mem k ≡ true → at (groups mem clash (suc k)) k ≡ free mem clash (groups mem clash k) k
  unfolding groups
  groups_last k e = get_or_at (groups mem clash k) _ [] 0 k (groups-length k) ∙ rw e

  pub groups_le : (n i : ℕ) → i < n → mem i ≡ true → at (groups mem clash n) i ≤ i
  unfolding free
  groups_le n i h e = rw (groups_at n i h, groups_last i e) (least_max _ i)

  pub groups-apart : (n s t : ℕ) → s < t → t < n → mem s ≡ true → mem t ≡ true → clash s t ≡ true
      → at (groups mem clash n) s ≡ at (groups mem clash n) t → ⊥
  unfolding free
  groups-apart n s t h l ms mt x e =
      let G = groups mem clash t in
      let used : ℕ → Bool = λ g. any (λ u. mem u && (clash u t && eqb (at G u) g)) t in
      let g = least (λ g. not (used g)) t in
      let gt : at (groups mem clash n) t ≡ g = groups_at n t l ∙ groups_last t mt in
      let gs : at (groups mem clash n) s ≡ at G s = groups_at n s (omega arith) ∙ sym (groups_at t s h) in
      let eg : at G s ≡ g = sym gs ∙ e ∙ gt in
      let low : at G s ≤ s = groups_le t s h ms in
      let us : used g ≡ true = any_intro (λ u. mem u && (clash u t && eqb (at G u) g)) t s h (and_intro ms (and_intro x (eq-eqb (at G s) g eg))) in
      no_both us (not-true (used g) (least_ok (λ g. not (used g)) t (omega arith)))

-- ---- a split of class c by group numbers G

module _ (n : ℕ) (P : List ℕ) (nm : Named n P) (c : ℕ) (hc : c < n) (oc : at P c ≡ c) (G : List ℕ) where
  abbrev pub new_name : ℕ → ℕ
  new_name s = least (λ t. eqb (at P t) c && eqb (at G t) (at G s)) n

  pub split_in : (s : ℕ) → s < n → at P s ≡ c → at (split n P c G) s ≡ new_name s
  unfolding split
  split_in s h e = at_tab n _ s h ∙ rw (eq-eqb (at P s) c e)

  pub split_out : (s : ℕ) → s < n → (at P s ≡ c → ⊥) → at (split n P c G) s ≡ at P s
  unfolding split
  split_out s h e = at_tab n _ s h ∙ rw (ne_eqb (at P s) c e)

  pub record Picked (s : ℕ) : Type 0 where
    pub low : new_name s ≤ s
    pub class : at P (new_name s) ≡ c
    pub same_group : at G (new_name s) ≡ at G s

  pub picked : (s : ℕ) → s < n → at P s ≡ c → Picked s
  picked s h e =
      let r = least_of (λ t. eqb (at P t) c && eqb (at G t) (at G s)) n s h (and_intro (eq-eqb _ _ e) (eq-eqb (at G s) (at G s) refl)) in
      record {
        low = r.0;
        class = (same² (at P (new_name s)) c (at G (new_name s)) (at G s) r.1).0;
        same_group = (same² (at P (new_name s)) c (at G (new_name s)) (at G s) r.1).1;
      }

  -- a state's new name is in its old class
  pub split_class : (s : ℕ) → s < n → at P s < n → at P (at (split n P c G) s) ≡ at P s
  split_class s h l = cases_of (eqb (at P s) c)
      (λ q. let e = eqb-true _ _ q in rw (split_in s h e, e) (picked s h e).class)
      (λ q. rw (split_out s h (eqb-false _ _ q)) (nm.own s h l))

  pub split-live : (s : ℕ) → s < n → at (split n P c G) s < n → at P s < n
  split-live s h l = cases_of (eqb (at P s) c)
      (λ q. omega (arith, eqb-true (at P s) c q))
      (λ q. rw (split_out s h (eqb-false _ _ q)) at l)

  pub split-named : Named n (split n P c G)
  split-named = record { low = low; own = own }
    where
      low : (s : ℕ) → s < n → at (split n P c G) s < n → at (split n P c G) s ≤ s
      low s h l = cases_of (eqb (at P s) c)
          (λ q. let e = eqb-true _ _ q in rw (split_in s h e) (picked s h e).low)
          (λ q. rw (split_out s h (eqb-false _ _ q)) (nm.low s h (split-live s h l)))

      own : (s : ℕ) → s < n → at (split n P c G) s < n → at (split n P c G) (at (split n P c G) s) ≡ at (split n P c G) s
      own s h l = cases_of (eqb (at P s) c)
          (λ q. let e = eqb-true _ _ q in
          let k = picked s h e in
          let w : new_name s < n = omega (arith, k.low) in
          rw (split_in s h e) (split_in (new_name s) w k.class ∙ ap (λ g. least (λ t. eqb (at P t) c && eqb (at G t) g) n) k.same_group))
          (λ q. let e = eqb-false _ _ q in
          let w : at P s < n = split-live s h l in
          rw (split_out s h e) (split_out (at P s) w (rw (nm.own s h w) e) ∙ nm.own s h w))

  -- what was a name stays one
  pub split_keeps : (t : ℕ) → t < n → at P t ≡ t → at (split n P c G) t ≡ t
  split_keeps t h e = cases_of (eqb (at P t) c)
      (λ q. let e' = eqb-true _ _ q in
      let k = picked t h e' in
      let w = nm.low (new_name t) (omega (arith, k.low)) (omega (arith, k.class)) in
      split_in t h e' ∙ omega (arith, k.low, k.class))
      (λ q. split_out t h (eqb-false _ _ q) ∙ e)

  -- a member outside the first group brings a new name
  pub split_new : (u : ℕ) → u < n → at P u ≡ c → (at G u ≡ at G c → ⊥) → (w : ℕ) × (w < n) × (at (split n P c G) w ≡ w) × (at P w ≡ w → ⊥)
  split_new u h e ne =
      let k = picked u h e in
      let w : new_name u < n = omega (arith, k.low) in
      let l : at (split n P c G) u < n = rw (split_in u h e) w in
      (new_name u, w, (rw (split_in u h e) at (split-named.own u h l)), λ o. ne (sym k.same_group ∙ ap (at G) (sym o ∙ k.class)))

  pub split-all : (s : ℕ) → s < n → at P s < n → at (split n P c G) s < n
  split-all s h l = cases_of (eqb (at P s) c)
      (λ q. let e = eqb-true _ _ q in rw (split_in s h e) (omega (arith, (picked s h e).low)))
      (λ q. rw (split_out s h (eqb-false _ _ q)) l)

-- ---- a round

-- a conflicting pair of class c
pub record Pair (n : ℕ) (clash : ℕ → ℕ → Bool) (P : List ℕ) (c : ℕ) : Type 0 where
  pub lower : ℕ
  pub higher : ℕ
  pub ascend : lower < higher
  pub inside : higher < n
  pub lower_in : at P lower ≡ c
  pub higher_in : at P higher ≡ c
  pub clashes : clash lower higher ≡ true

pub pair : (n : ℕ) (clash : ℕ → ℕ → Bool) (P : List ℕ) (c : ℕ) → parted n clash P c ≡ true → Pair n clash P c
unfolding parted
pair n clash P c e =
    let a = any_elim _ n e in
    let b = any_elim _ a.0 (and_right (eqb (at P a.0) c) _ a.2) in
    record {
      lower = b.0;
      higher = a.0;
      ascend = b.1;
      inside = a.1;
      lower_in = eqb-true _ _ (and_left (eqb (at P b.0) c) _ b.2);
      higher_in = eqb-true _ _ (and_left (eqb (at P a.0) c) _ a.2);
      clashes = and_right (eqb (at P b.0) c) _ b.2;
    }

pub unparted : (n : ℕ) (clash : ℕ → ℕ → Bool) (P : List ℕ) (c : ℕ) → parted n clash P c ≡ false
    → (s t : ℕ) → s < t → t < n → at P s ≡ c → at P t ≡ c → clash s t ≡ false
unfolding parted
unparted n clash P c h s t l lt es et = cases_of (clash s t)
    (λ q. no_both (any_intro _ n t lt (and_intro (eq-eqb (at P t) c et) (any_intro _ t s l (and_intro (eq-eqb (at P s) c es) q)))) h)
    (λ q. q)

pub calm : (n : ℕ) (clash : ℕ → ℕ → Bool) (P : List ℕ) → n ≤ first n clash P
    → (s t : ℕ) → s < t → t < n → at P t < n → at P s ≡ at P t → clash s t ≡ false
unfolding first
calm n clash P h s t l lt lp e = unparted n clash P (at P t) (least_none (parted n clash P) n (at P t) h lp) s t l lt e refl

module _ (n : ℕ) (clash : ℕ → ℕ → Bool) (P : List ℕ) (nm : Named n P) (c : ℕ) (hc : c < n) (e : parted n clash P c ≡ true) where
  pub name_own : at P c ≡ c
  name_own =
      let p = pair n clash P c e in
      let i = p.inside in
      let j = p.higher_in in
      rw j at (nm.own p.higher i (omega arith))

  -- Any grouping that parts each conflicting pair makes a class or more.
  module _ (G : List ℕ) (proper : (s t : ℕ) → s < t → t < n → at P s ≡ c → at P t ≡ c → clash s t ≡ true → at G s ≡ at G t → ⊥) where
    pub split_grows : classes n P < classes n (split n P c G)
    unfolding classes
    split_grows =
        let p = pair n clash P c e in
        let i : p.lower < n = omega (arith, p.ascend, p.inside) in
        let more : (u : ℕ) → u < n → at P u ≡ c → (at G u ≡ at G c → ⊥) → count (named P) n < count (named (split n P c G)) n = λ u h m ne.
        let w = split_new n P nm c hc name_own G u h m ne in
        count_more (named P) (named (split n P c G)) n
        (λ t l o. eq-eqb _ _ (split_keeps n P nm c hc name_own G t l (eqb-true _ _ o)))
        w.0 w.1 (ne_eqb _ _ w.3) (eq-eqb _ _ w.2) in
        cases_of (eqb (at G p.lower) (at G c))
        (λ q. more p.higher p.inside p.higher_in (λ o. proper p.lower p.higher p.ascend p.inside p.lower_in p.higher_in p.clashes (eqb-true _ _ q ∙ sym o)))
        (λ q. more p.lower i p.lower_in (eqb-false _ _ q))
