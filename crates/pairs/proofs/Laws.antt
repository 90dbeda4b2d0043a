-- Laws of the search for a conflicting pair. Assumes nothing.
use Prim.Native.Nat.{ℕ, ◌+◌, ◌≤◌, ◌<◌}
use mathlib.Core.Path.{◌≡◌, refl, sym, ap, ap₂, subst, ◌∙◌}
use mathlib.Core.Bool.{Bool, true, false, ◌&&◌}
use mathlib.Core.List.{List}
use Rattle.std.specs.Prelude.{Option, Some, None, is_some}
use native.Mathlib.Omega.{arith}
use lib.Dec.{eqb, ltb}
use lib.ListN.{length, take}
use borrow.Author.Tests.{lt-ltb, le-ltb, eq-eqb, ne_eqb, eqb-true, eqb-false, ltb-true, ltb-false}
use Rattle.meaning.specs.Pick.{pick}
use Rattle.meaning.specs.Cases.{cases_of, no_both, and_intro, and_left, and_right}
use Rattle.meaning.specs.Search.{least, at}
use Rattle.meaning.specs.SearchLaws.{any_intro, any_elim, any_cong, least_is, least_ok, least_max, least_none, least_empty, at_take}
use Rattle.meaning.proofs.ReachLaws.{among_at}
use Rattle.meaning.specs.Classes.{parted, first}
use Rattle.meaning.specs.ClassesLaws.{Named, pair, name_own}
use Rattle.conflicts.proofs.Laws.{and-false, any_empty}
use Rattle.members.specs.Members.{Heads, Seated}
use Rattle.members.proofs.Laws.{Standing, Hop, at_head, through}
use Rattle.pairs.specs.Pairs.{against, opposed, found_of}

-- ---- the search of a class

module _ (clashes : ℕ → ℕ → Bool) (P : List ℕ) (c : ℕ) where
  against_low : (a b : ℕ) → b ≤ a → against clashes P c a b ≡ false
  unfolding against
  against_low a b h = rw (le-ltb _ _ h)

  against_other : (a b : ℕ) → (at P b ≡ c → ⊥) → against clashes P c a b ≡ false
  unfolding against
  against_other a b h = go (ltb a b)
    where
      go : (x : Bool) → x && (eqb (at P b) c && clashes a b) ≡ false
      go true = rw (ne_eqb _ _ h)
      go false = refl

  against_calm : (a b : ℕ) → clashes a b ≡ false → against clashes P c a b ≡ false
  unfolding against
  against_calm a b h = rw (h, and-false (eqb (at P b) c)) (and-false (ltb a b))

  against_here : (a b : ℕ) → a < b → at P b ≡ c → clashes a b ≡ true → against clashes P c a b ≡ true
  unfolding against
  against_here a b h e k = and_intro (lt-ltb _ _ h) (and_intro (eq-eqb _ _ e) k)

  opposed_other : (n a : ℕ) → (at P a ≡ c → ⊥) → opposed n clashes P c a ≡ false
  unfolding opposed
  opposed_other n a h = rw (ne_eqb _ _ h)

  opposed_calm : (n a : ℕ) → ((b : ℕ) → b < n → against clashes P c a b ≡ false) → opposed n clashes P c a ≡ false
  unfolding opposed
  opposed_calm n a h = rw (any_empty (against clashes P c a) n h) (and-false (eqb (at P a) c))

  opposed_here : (n a b : ℕ) → b < n → at P a ≡ c → against clashes P c a b ≡ true → opposed n clashes P c a ≡ true
  unfolding opposed
  opposed_here n a b m e k = and_intro (eq-eqb _ _ e) (any_intro (against clashes P c a) n b m k)

  found_none : (n : ℕ) → ((a : ℕ) → a < n → opposed n clashes P c a ≡ false) → None ≡ found_of n clashes P c
  unfolding found_of
  found_none n h = rw (le-ltb _ _ (least_empty (opposed n clashes P c) n h))

  found_here : (n a b : ℕ) → a < n → b < n → at P a ≡ c → against clashes P c a b ≡ true
      → ((x : ℕ) → x < a → opposed n clashes P c x ≡ false) → ((x : ℕ) → x < b → against clashes P c a x ≡ false)
      → Some (a, b) ≡ found_of n clashes P c
  unfolding found_of
  found_here n a b l m e k ha hb =
      let first : least (opposed n clashes P c) n ≡ a = least_is (opposed n clashes P c) n a l (opposed_here n a b m e k) ha in
      let second : least (against clashes P c a) n ≡ b = least_is (against clashes P c a) n b m k hb in
      rw (first, lt-ltb _ _ l, second)

  -- ---- the search, member by member

  module _ (n : ℕ) where
    -- a is a member, or n, and no state before it conflicts with a later member
    pub record Outer (found : Option (ℕ × ℕ)) (a : ℕ) : Type 0 where
      pub stands : Standing P n c a
      pub nothing : found ≡ None
      pub past : (x : ℕ) → x < a → opposed n clashes P c x ≡ false

    -- b is a later member, or n, and a conflicts with no member between
    pub record Inner (a : ℕ) (found : Option (ℕ × ℕ)) (b : ℕ) : Type 0 where
      pub stands : Standing P n c b
      pub after : a < b
      pub nothing : found ≡ None
      pub past : (x : ℕ) → x < b → against clashes P c a x ≡ false

    pub outer_begun : Heads P n c → Outer None c
    outer_begun head = record {
      stands = at_head P n c head;
      nothing = refl;
      past = λ x h. opposed_other n x (head.before x h);
    }

    pub inner_begun : (found : Option (ℕ × ℕ)) (a b : ℕ) → Outer found a → Hop P n c a b → Inner a found b
    inner_begun found a b out next = record {
      stands = next.stands;
      after = next.after;
      nothing = out.nothing;
      past = through _ a b
          (λ x h. against_low a x (omega arith)) (against_low a a (omega arith)) (λ x h l. against_other a x (next.gap x h l));
    }

    pub inner_more : (found found' : Option (ℕ × ℕ)) (a b b' : ℕ) → Inner a found b → found' ≡ None → clashes a b ≡ false
        → Hop P n c b b' → Inner a found' b'
    inner_more found found' a b b' there none calm next = record {
      stands = next.stands;
      after = omega (arith, next.after, there.after);
      nothing = none;
      past = through _ b b' there.past (against_calm a b calm) (λ x h l. against_other a x (next.gap x h l));
    }

    pub outer_more : (found found' : Option (ℕ × ℕ)) (a a' b : ℕ) → Outer found a → Inner a found' b → n ≤ b → Hop P n c a a'
        → Outer found' a'
    outer_more found found' a a' b out there all next = record {
      stands = next.stands;
      nothing = there.nothing;
      past = through _ a a'
          out.past (opposed_calm n a (λ x h. there.past x (omega arith))) (λ x h l. opposed_other n x (next.gap x h l));
    }

    pub outer_all : (found : Option (ℕ × ℕ)) (a : ℕ) → Outer found a → n ≤ a → found ≡ found_of n clashes P c
    outer_all found a out all = out.nothing ∙ found_none n (λ x h. out.past x (omega arith))

    pub inner_found : (found found' : Option (ℕ × ℕ)) (a b : ℕ) → Outer found a → Inner a found' b → a < n → b < n → clashes a b ≡ true
        → Some (a, b) ≡ found_of n clashes P c
    inner_found found found' a b out there ha hb hit =
        let against-b = against_here a b there.after (there.stands.member hb) hit in
        found_here n a b ha hb (out.stands.member ha) against-b out.past there.past

  -- ---- what is found tells whether the class is parted

  module _ (n : ℕ) where
    abbrev lowest : ℕ
    lowest = least (opposed n clashes P c) n

    parted_none : None ≡ found_of n clashes P c → parted n clashes P c ≡ false
    unfolding found_of
    parted_none h = cases_of (parted n clashes P c) (λ q. go (ltb lowest n) refl h q) (λ q. q)
      where
        go : (x : Bool) → ltb lowest n ≡ x → ◌≡◌ {A = Option (ℕ × ℕ)} None (pick x (Some (lowest, least (against clashes P c lowest) n)) None)
            → parted n clashes P c ≡ true → parted n clashes P c ≡ false
        go true e k q = let z : ◌≡◌ {A = ℕ} 0 1 = cc in absurd (omega arith)
        go false e k q =
            let w = pair n clashes P c q in
            let l = w.ascend in
            let i = w.inside in
            let calm = least_none (opposed n clashes P c) n w.lower (ltb-false lowest n e) (omega arith) in
            let later = against_here w.lower w.higher w.ascend w.higher_in w.clashes in
            let some = opposed_here n w.lower w.higher w.inside w.lower_in later in
            no_both some calm

    parted_here : (a b : ℕ) → b < n → eqb (at P a) c ≡ true → against clashes P c a b ≡ true → parted n clashes P c ≡ true
    unfolding parted against
    parted_here a b l e k =
        let rest = and_right (ltb a b) _ k in
        any_intro _ n b l (and_intro (and_left (eqb (at P b) c) _ rest)
        (any_intro _ b a (ltb-true a b (and_left (ltb a b) _ k)) (and_intro e (and_right (eqb (at P b) c) _ rest))))

    opposed_parts : (a : ℕ) → opposed n clashes P c a ≡ true → parted n clashes P c ≡ true
    unfolding opposed
    opposed_parts a h =
        let w = any_elim (against clashes P c a) n (and_right (eqb (at P a) c) _ h) in
        parted_here a w.0 w.1 (and_left (eqb (at P a) c) _ h) w.2

    parted_pair : (a b : ℕ) → Some (a, b) ≡ found_of n clashes P c → parted n clashes P c ≡ true
    unfolding found_of
    parted_pair a b h = go (ltb lowest n) refl h
      where
        go : (x : Bool) → ltb lowest n ≡ x → ◌≡◌ {A = Option (ℕ × ℕ)} (Some (a, b)) (pick x (Some (lowest, least (against clashes P c lowest) n)) None)
            → parted n clashes P c ≡ true
        go false e k = let z : ◌≡◌ {A = ℕ} 0 1 = cc in absurd (omega arith)
        go true e k = opposed_parts lowest (least_ok (opposed n clashes P c) n (ltb-true lowest n e))

    pub found-parted : (o : Option (ℕ × ℕ)) → o ≡ found_of n clashes P c → parted n clashes P c ≡ is_some o
    found-parted None e = parted_none e
    found-parted (Some (a, b)) e = parted_pair a b e

-- ---- the class that a round takes

-- only the names of states count
pub parted_front : (n : ℕ) (clashes : ℕ → ℕ → Bool) (P : List ℕ) (c : ℕ) → parted n clashes P c ≡ parted n clashes (take n P) c
unfolding parted
parted_front n clashes P c = any_cong _ _ n
    (λ t h. ap₂ ◌&&◌ (same t h) (any_cong _ _ t (λ s l. ap (λ (b : Bool). b && clashes s t) (same s (omega arith)))))
  where
    same : (s : ℕ) → s < n → eqb (at P s) c ≡ eqb (at (take n P) s) c
    same s h = ap (λ (k : ℕ). eqb k c) (sym (at_take P n s h))

-- a state that is not its own name names no class, and so parts none
pub parted_own : (n : ℕ) (clashes : ℕ → ℕ → Bool) (P : List ℕ) → Named n (take n P) → (c : ℕ) → c < n → (at P c ≡ c → ⊥)
    → parted n clashes P c ≡ false
parted_own n clashes P nm c h e = cases_of (parted n clashes P c)
    (λ q. absurd (e (sym (at_take P n c h) ∙ name_own n clashes (take n P) nm c h (sym (parted_front n clashes P c) ∙ q))))
    (λ q. q)

-- ---- classes are tried in the order of a list

-- none of the first j is parted
abbrev pub Tried : ℕ → (ℕ → ℕ → Bool) → List ℕ → List ℕ → ℕ → Type 0
Tried n clashes P live j = (i : ℕ) → i < j → i < length live → parted n clashes P (at live i) ≡ false

pub tried_more : (n : ℕ) (clashes : ℕ → ℕ → Bool) (P live : List ℕ) (j c : ℕ) → Tried n clashes P live j → c ≡ at live j
    → parted n clashes P c ≡ false → Tried n clashes P live (j + 1)
tried_more n clashes P live j c tried is e i h l = cases_of (eqb i j)
    (λ q. subst (λ (t : ℕ). parted n clashes P t ≡ false) (is ∙ ap (at live) (sym (eqb-true i j q))) e)
    (λ q. tried i (omega (arith, h, eqb-false i j q)) l)

module _ (n : ℕ) (clashes : ℕ → ℕ → Bool) (P live : List ℕ) (right : Named n (take n P)) (seated : Seated P live n) where
  -- a class that is parted has its name in the list
  parted-listed : (s : ℕ) → s < n → parted n clashes P s ≡ true → (i : ℕ) × (i < length live) × (at live i ≡ s)
  parted-listed s h e = cases_of (eqb (at P s) s)
      (λ q. among_at live s (seated.only s h (omega (arith, h, eqb-true (at P s) s q))))
      (λ q. no_both e (parted_own n clashes P right s h (eqb-false _ _ q)))

  pub tried_here : (j : ℕ) → Tried n clashes P live j → j < length live → parted n clashes P (at live j) ≡ true → at live j ≡ first n clashes P
  unfolding first
  tried_here j tried h e =
      let low = seated.rises.below j h in
      sym (least_is (parted n clashes P) n (at live j) low e (λ s l. cases_of (parted n clashes P s)
      (λ q. let p = parted-listed s (omega (arith, l, low)) q in
      cases_of (ltb p.0 j)
      (λ z. no_both q (subst (λ (t : ℕ). parted n clashes P t ≡ false) p.2 (tried p.0 (ltb-true _ _ z) p.1)))
      (λ z. cases_of (eqb j p.0)
      (λ w. absurd (omega (arith, l, p.2, ap (at live) (eqb-true j p.0 w))))
      (λ w. absurd (omega (arith, l, p.2, seated.rises.rising j p.0 (omega (arith, ltb-false p.0 j z, eqb-false j p.0 w)) p.1)))))
      (λ q. q)))

  pub tried_all : (j : ℕ) → Tried n clashes P live j → length live ≤ j → n ≡ first n clashes P
  unfolding first
  tried_all j tried h =
      let none-parted = least_empty (parted n clashes P) n (λ s l. cases_of (parted n clashes P s)
      (λ q. let p = parted-listed s l q in
      no_both q (subst (λ (t : ℕ). parted n clashes P t ≡ false) p.2 (tried p.0 (omega (arith, h, p.1)) p.1)))
      (λ q. q)) in
      omega (arith, none-parted, least_max (parted n clashes P) n)
