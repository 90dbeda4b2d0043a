-- Laws of names: at the beginning, and as a class is split. Assumes nothing.
use Prim.Native.Nat.{ℕ, zero, suc, ◌+◌, ◌≤◌, ◌<◌}
use mathlib.Core.Path.{◌≡◌, refl, sym, ap, ap₂, subst, ◌∙◌}
use mathlib.Core.Bool.{Bool, true, false, ◌&&◌, ◌||◌}
use mathlib.Core.List.{List, [], ◌∷◌}
use native.Mathlib.Numerals.{add-one}
use native.Mathlib.Omega.{arith}
use lib.Dec.{eqb, ltb}
use lib.ListN.{length, set, take, replicate, length-set, length-replicate, get_or-replicate}
use lib.Seq.{get_or-set_same, get_or-set_other, take-suc, take_all}
use borrow.Author.Tests.{eq-eqb, ne_eqb, ltb-true, ltb-false, eqb-true, eqb-false}
use Rattle.meaning.specs.Cases.{cases_of, and_intro, and_left, and_right, or_right}
use Rattle.meaning.specs.Search.{least, tab, at}
use Rattle.meaning.specs.SearchLaws.{least_is, least_cong, tab_cong, at_take}
use Rattle.meaning.specs.Reach.{among}
use Rattle.meaning.proofs.ReachLaws.{among_at, at_among, among-snoc, or-false}
use Rattle.meaning.specs.Classes.{groups, split}
use Rattle.reach.specs.Walking.{Rises}
use Rattle.partition.specs.Partition.{twin, beginning, rounded}

-- ---- colours

-- none of the first i states of a list has this colour
abbrev pub Unlike : List ℕ → List ℕ → ℕ → ℕ → Type 0
Unlike hues live colour i = (k : ℕ) → k < i → at hues (at live k) ≡ colour → ⊥

-- the state at place i is the first with the colour of the one at place j
pub twin_here : (hues live : List ℕ) (n i j : ℕ) → Rises n live → i ≤ j → j < length live → at hues (at live i) ≡ at hues (at live j)
    → Unlike hues live (at hues (at live j)) i → at live i ≡ twin (among live) hues n (at live j)
unfolding twin
twin_here hues live n i j r h l e unlike =
    let here : i < length live = omega (arith, h, l) in
    sym (least_is (λ t. among live t && eqb (at hues t) (at hues (at live j))) n (at live i) (r.below i here)
    (and_intro (at_among live i here) (eq-eqb _ _ e)) (λ t b. cases_of (among live t && eqb (at hues t) (at hues (at live j)))
    (λ q. let p = among_at live t (and_left (among live t) _ q) in
    let same = eqb-true _ _ (and_right (among live t) (eqb (at hues t) (at hues (at live j))) q) in
    absurd (cases_of (ltb p.0 i)
    (λ z. unlike p.0 (ltb-true _ _ z) (ap (at hues) p.2 ∙ same))
    (λ z. cases_of (eqb i p.0)
    (λ w. omega (arith, b, p.2, ap (at live) (eqb-true i p.0 w)))
    (λ w. omega (arith, b, p.2, r.rising i p.0 (omega (arith, ltb-false p.0 i z, eqb-false i p.0 w)) p.1)))))
    (λ q. q)))

-- ---- the names at the beginning

-- the first j states of a list have their names, and no other state has one
pub record Begun (live hues : List ℕ) (n : ℕ) (names : List ℕ) (j : ℕ) : Type 0 where
  pub long : length names ≡ 256
  pub said : (s : ℕ) → s < 256 → at names s ≡ elim (among (take j live) s) [ true ↦ twin (among live) hues n s | false ↦ 65535 ]

pub begun_none : (live hues : List ℕ) (n : ℕ) (names : List ℕ) → names ≡ replicate 256 65535 → Begun live hues n names 0
unfolding among
begun_none live hues n names e = rw e record {
  long = length-replicate {A = ℕ} 256 65535;
  said = λ s h. get_or-replicate 256 s 65535 0 h;
}

pub begun_more : (live hues : List ℕ) (n : ℕ) (names : List ℕ) (j s v : ℕ) → Begun live hues n names j → j < length live → s < 256
    → s ≡ at live j → v ≡ twin (among live) hues n (at live j) → Begun live hues n (set names s v) (j + 1)
begun_more live hues n names j s v r h l is e = record {
  long = length-set names s v ∙ r.long;
  said = λ t b.
      let more : among (take (j + 1) live) t ≡ (among (take j live) t || eqb s t) =
      ap (λ (xs : List ℕ). among xs t) (ap (λ (k : ℕ). take k live) (add-one j) ∙ take-suc live j 0 h) ∙ among-snoc (take j live) (at live j) t
      ∙ ap (λ (x : ℕ). among (take j live) t || eqb x t) (sym is) in
      cases_of (eqb s t)
      (λ q. let same = eqb-true s t q in
      let there : among (take (j + 1) live) t ≡ true = more ∙ rw q (or_right (among (take j live) t) refl) in
      rw (there, ← same) (get_or-set_same names s v 0 (omega (arith, l, r.long)) ∙ e ∙ ap (twin (among live) hues n) (sym is)))
      (λ q. let kept : among (take (j + 1) live) t ≡ among (take j live) t = more ∙ rw q (or-false (among (take j live) t)) in
      rw kept (get_or-set_other names s t v 0 (λ u. eqb-false s t q (sym u)) ∙ r.said t b));
}

-- a list's front, entry by entry
front_by : (k : ℕ) (f : ℕ → ℕ) (xs : List ℕ) → k ≤ length xs → ((t : ℕ) → t < k → at xs t ≡ f t) → take k xs ≡ tab k f
unfolding tab
front_by zero f xs l h = refl
front_by (suc k) f [] l h = absurd (omega arith)
front_by (suc k) f (x ∷ xs) l h =
    ap₂ ◌∷◌ (h 0 (omega arith)) (front_by k (λ i. f (suc i)) xs (omega arith) (λ t m. h (suc t) (omega arith)))

pub begun_all : (live hues : List ℕ) (n : ℕ) (names : List ℕ) (j : ℕ) → Begun live hues n names j → length live ≤ j → n ≤ 256
    → take n names ≡ tab n (beginning (among live) hues n)
unfolding beginning
begun_all live hues n names j r h l = front_by n (beginning (among live) hues n) names (omega (arith, l, r.long))
    (λ s b. r.said s (omega (arith, b, l))
    ∙ ap (λ (xs : List ℕ). elim (among xs s) as (λ x. ℕ) [ true ↦ twin (among live) hues n s | false ↦ 65535 ]) (take_all j live h))

-- ---- a new name

-- the name of s when class c is split by groups G
unfoldable pub renamed : ℕ → List ℕ → ℕ → List ℕ → ℕ → ℕ
renamed n P c G s = elim (eqb (at P s) c) [ true ↦ least (λ t. eqb (at P t) c && eqb (at G t) (at G s)) n | false ↦ at P s ]

module _ (P : List ℕ) (c : ℕ) (G : List ℕ) (s : ℕ) where
  -- t is a member of the group of s
  abbrev pub mate : ℕ → Bool
  mate t = eqb (at P t) c && eqb (at G t) (at G s)

  pub renamed_other : (n : ℕ) → (at P s ≡ c → ⊥) → at P s ≡ renamed n P c G s
  unfolding renamed
  renamed_other n h = rw (renamed, ne_eqb (at P s) c h)

  pub renamed_here : (n t : ℕ) → t < n → at P s ≡ c → mate t ≡ true → ((k : ℕ) → k < t → mate k ≡ false) → t ≡ renamed n P c G s
  unfolding renamed
  renamed_here n t l e m h = rw (renamed, eq-eqb (at P s) c e) (sym (least_is mate n t l m h))

-- ---- new names

module _ (n : ℕ) (P : List ℕ) (c : ℕ) (G : List ℕ) where
  -- t has group g among the members
  abbrev Of : ℕ → ℕ → Type 0
  Of g t = (at P t ≡ c) × (at G t ≡ g)

  -- f is 255 where no member before s has group g, and else the first that has. Of 255 itself nothing is known: it is the last state
  pub record First (s g f : ℕ) : Type 0 where
    pub absent : f ≡ 255 → (t : ℕ) → t < s → t < 255 → Of g t → ⊥
    pub before : (f ≡ 255 → ⊥) → f < s
    pub of : (f ≡ 255 → ⊥) → Of g f
    pub least : (f ≡ 255 → ⊥) → (t : ℕ) → t < f → Of g t → ⊥

  -- the members before s are renamed, and the first of each group is known
  pub record Renamed (names firsts : List ℕ) (s : ℕ) : Type 0 where
    pub long : length names ≡ 256
    pub wide : length firsts ≡ 256
    pub done : (t : ℕ) → t < s → at names t ≡ renamed n P c G t
    pub still : (t : ℕ) → s ≤ t → at names t ≡ at P t
    pub known : (g : ℕ) → g < 256 → First s g (at firsts g)

  pub renamed_none : (names firsts : List ℕ) → names ≡ P → length P ≡ 256 → firsts ≡ replicate 256 255 → Renamed names firsts 0
  renamed_none names firsts e l f = rw (e, f) record {
    long = l;
    wide = length-replicate {A = ℕ} 256 255;
    done = λ t h. absurd (omega arith);
    still = λ t h. refl;
    known = λ g h. let e : at (replicate 256 255) g ≡ 255 = get_or-replicate 256 g 255 0 h in rw e record {
      absent = λ z t k. absurd (omega arith);
      before = λ z. absurd (z refl);
      of = λ z. absurd (z refl);
      least = λ z. absurd (z refl);
    };
  }

  module _ (names firsts : List ℕ) (s : ℕ) (r : Renamed names firsts s) where
    -- states that are no members keep their names
    pub renamed_skip : (u : ℕ) → s ≤ u → ((x : ℕ) → s ≤ x → x < u → at P x ≡ c → ⊥) → Renamed names firsts u
    renamed_skip u h miss = record {
      long = r.long;
      wide = r.wide;
      done = λ t l. cases_of (ltb t s)
          (λ q. r.done t (ltb-true t s q))
          (λ q. let k : s ≤ t = ltb-false t s q in r.still t k ∙ renamed_other P c G t n (miss t k l));
      still = λ t l. r.still t (omega arith);
      known = λ g l. let f = r.known g l in record {
        absent = λ z t k b o. cases_of (ltb t s) (λ q. f.absent z t (ltb-true t s q) b o) (λ q. miss t (ltb-false t s q) k o.0);
        before = λ z. let b = f.before z in omega arith;
        of = f.of;
        least = f.least;
      };
    }

    module _ (h : s < n) (few : n ≤ 256) (e : at P s ≡ c) where
      abbrev g : ℕ
      g = at G s

      none_before : (f : ℕ) → ((t : ℕ) → t < f → Of g t → ⊥) → (k : ℕ) → k < f → mate P c G s k ≡ false
      none_before f z k l = cases_of (mate P c G s k)
          (λ q. absurd (z k l (eqb-true _ _ (and_left (eqb (at P k) c) _ q), eqb-true _ _ (and_right (eqb (at P k) c) _ q))))
          (λ q. q)

      -- s is of group g, so nothing new is known of others
      other : (d f : ℕ) → First s d f → (d ≡ g → ⊥) → First (s + 1) d f
      other d f w z = record {
        absent = λ q t k b o. cases_of (eqb t s)
            (λ y. z (sym o.1 ∙ ap (at G) (eqb-true t s y)))
            (λ y. w.absent q t (omega (arith, eqb-false t s y)) b o);
        before = λ q. let b = w.before q in omega arith;
        of = w.of;
        least = w.least;
      }

      named : (f : ℕ) → f ≡ renamed n P c G s → (firsts' : List ℕ) → length firsts' ≡ 256
          → ((d : ℕ) → d < 256 → First (s + 1) d (at firsts' d))
          → Renamed (set names s f) firsts' (s + 1)
      named f q firsts' l w = record {
        long = length-set names s f ∙ r.long;
        wide = l;
        done = λ t k. cases_of (eqb t s)
            (λ y. let z : t ≡ s = eqb-true t s y in rw z (get_or-set_same names s f 0 (omega (arith, r.long)) ∙ q))
            (λ y. let z = eqb-false t s y in get_or-set_other names s t f 0 (λ u. z u) ∙ r.done t (omega arith));
        still = λ t k. let z : t ≡ s → ⊥ = λ u. omega arith in get_or-set_other names s t f 0 z ∙ r.still t (omega arith);
        known = w;
      }

      abbrev Next : List ℕ → ℕ → Type 0
      Next firsts' d = Renamed (set names s (at firsts' d)) firsts' (s + 1)

      -- s is the first of its group
      pub renamed_new : (firsts' : List ℕ) (d : ℕ) → d ≡ g → firsts' ≡ set firsts d s → d < 256 → at firsts d ≡ 255
          → Next firsts' d
      renamed_new firsts' d same =
          subst (λ (d : ℕ). firsts' ≡ set firsts d s → d < 256 → at firsts d ≡ 255 → Next firsts' d) (sym same) go
        where
          go : firsts' ≡ set firsts g s → g < 256 → at firsts g ≡ 255 → Next firsts' g
          go u l z =
              let alone : (t : ℕ) → t < s → Of g t → ⊥ = λ t k. (r.known g l).absent z t k (omega arith) in
              let here : at firsts' g ≡ s = ap (λ (k : List ℕ). at k g) u ∙ get_or-set_same firsts g s 0 (omega (arith, r.wide)) in
              rw here
              (named s
              (renamed_here P c G s n s h e (and_intro (eq-eqb (at P s) c e) (eq-eqb g g refl)) (none_before s alone)) firsts'
              (ap (λ (k : List ℕ). length k) u ∙ length-set firsts g s ∙ r.wide)
              (λ d k. cases_of (eqb d g)
              (λ y. let same : d ≡ g = eqb-true d g y in rw (same, here) record {
                absent = λ q t k b. alone t (omega arith);
                before = λ _. omega arith;
                of = λ _. (e, refl);
                least = λ _. alone;
              })
              (λ y. let z = eqb-false d g y in
              let there : at firsts' d ≡ at firsts d = ap (λ (k : List ℕ). at k d) u ∙ get_or-set_other firsts g d s 0 (λ u. z u) in
              rw there (other d (at firsts d) (r.known d k) z))))

      -- its group has a first member already
      pub renamed_again : (firsts' : List ℕ) (d : ℕ) → d ≡ g → firsts' ≡ firsts → d < 256 → (at firsts d ≡ 255 → ⊥)
          → Next firsts' d
      renamed_again firsts' d same =
          subst (λ (d : ℕ). firsts' ≡ firsts → d < 256 → (at firsts d ≡ 255 → ⊥) → Next firsts' d) (sym same) go
        where
          go : firsts' ≡ firsts → g < 256 → (at firsts g ≡ 255 → ⊥) → Next firsts' g
          go u l z = rw u
              (let w = r.known g l in
              let o = w.of z in
              let b = w.before z in
              let f = at firsts g in
              let mates = and_intro (eq-eqb (at P f) c o.0) (eq-eqb (at G f) g o.1) in
              named f (renamed_here P c G s n f (omega arith) e mates (none_before f (w.least z))) firsts r.wide
              (λ d k. cases_of (eqb d g)
              (λ y. let same : d ≡ g = eqb-true d g y in rw same record {
                absent = λ q. absurd (z q);
                before = λ _. omega arith;
                of = w.of;
                least = w.least;
              })
              (λ y. other d (at firsts d) (r.known d k) (eqb-false d g y))))

  -- an equal number may be stored instead
  pub renamed_as : (names firsts : List ℕ) (s v w : ℕ) → Renamed (set names s v) firsts (s + 1) → w ≡ v → Renamed (set names s w) firsts (s + 1)
  renamed_as names firsts s v w r e = rw e r

  pub renamed-all : (names firsts : List ℕ) (s : ℕ) → Renamed names firsts s → n ≤ s → n ≤ 256
      → take n names ≡ tab n (renamed n P c G)
  renamed-all names firsts s r h l = front_by n (renamed n P c G) names (omega (arith, r.long)) (λ t k. r.done t (omega arith))

-- a round's names, from groups that stand at the front of a list
pub rounded_by : (n : ℕ) (clashes : ℕ → ℕ → Bool) (P : List ℕ) (c : ℕ) (G : List ℕ)
    → take n G ≡ groups (λ s. eqb (at P s) c) clashes n
    → tab n (renamed n P c G) ≡ rounded groups n clashes P c
unfolding rounded split renamed
rounded_by n clashes P c G h = tab_cong n _ _ each ∙ ap (split n P c) h
  where
    each : (s : ℕ) → s < n → renamed n P c G s ≡ renamed n P c (take n G) s
    each s l = ap (λ (k : ℕ). elim (eqb (at P s) c) as (λ x. ℕ) [ true ↦ k | false ↦ at P s ])
        (least_cong _ _ n (λ t m. ap₂ (λ (a b : ℕ). eqb (at P t) c && eqb a b) (sym (at_take G n t m)) (sym (at_take G n s l))))
