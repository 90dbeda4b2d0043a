-- Class names and the same names in new numbers: a round keeps them the same. Assumes nothing.
use Rattle.std.specs.Prelude.{ℕ, zero, suc, ◌≤◌, ◌<◌, ◌≡◌, refl, Bool, true, not, ◌&&◌, List, eqb, ltb}
use Rattle.std.proofs.Common.{sym, ap, ◌∙◌, subst, not-suc-le-zero, arith, eqb-true, eq-eqb, ltb-true, ltb-false}
use Rattle.std.proofs.lemmas.Bool.{eqb-false, not-false}
use Rattle.meaning.specs.Search.{any, least, at}
use Rattle.meaning.specs.Cases.{cases_of, same², no_both, and_intro, and_left, and_right}
use Rattle.meaning.specs.SearchLaws.{any_elim, least-below}
use Rattle.meaning.specs.Classes.{parted, first, free, groups, split}
use Rattle.meaning.specs.ClassesLaws.{Named, pair, unparted, name_own}
use Rattle.meaning.specs.ClassesLaws.{groups_at, groups_last, groups-apart, split_in, split_out, split-all, split-live, picked}
use Rattle.again.specs.NewNumbers.{NewNumbers, old_lt, old_mono, least_old, least_neither}

-- P' is P in new numbers: the states that take part, and no others, are in a class.
pub record Mirror (n k : ℕ) (live : ℕ → Bool) (new old : ℕ → ℕ) (P P' : List ℕ) : Type 0 where
  pub same : (s : ℕ) → live s ≡ true → at P s ≡ old (at P' (new s))
  pub only : (s : ℕ) → s < n → at P s < n → live s ≡ true
  pub below : (i : ℕ) → i < k → at P' i < k

pub name_is_old : {n k : ℕ} {live : ℕ → Bool} {new old : ℕ → ℕ} {P P' : List ℕ} → Mirror n k live new old P P'
    → (s i : ℕ) → live s ≡ true → new s ≡ i → at P s ≡ old (at P' i)
name_is_old {old = old} {P' = P'} mirror s i l e = mirror.same s l ∙ ap (λ (j : ℕ). old (at P' j)) e

-- The states of one new number have one name.
abbrev pub Together : (ℕ → Bool) → (ℕ → ℕ) → (ℕ → ℕ) → List ℕ → Type 0
Together live new old P = (s : ℕ) → live s ≡ true → at P s ≡ at P (old (new s))

-- States with the new numbers i and j that conflict.
pub record Lifted (live : ℕ → Bool) (new : ℕ → ℕ) (clash : ℕ → ℕ → Bool) (i j : ℕ) : Type 0 where
  pub one : ℕ
  pub other : ℕ
  pub one_live : live one ≡ true
  pub other_live : live other ≡ true
  pub one_new : new one ≡ i
  pub other_new : new other ≡ j
  pub clashes : clash one other ≡ true

-- Two new numbers conflict where states of theirs do. A conflict is one from either side.
pub record Matched (k : ℕ) (live : ℕ → Bool) (new : ℕ → ℕ) (clash clash' : ℕ → ℕ → Bool) : Type 0 where
  pub down : (s t : ℕ) → live s ≡ true → live t ≡ true → clash s t ≡ true → clash' (new s) (new t) ≡ true
  pub up : (i j : ℕ) → i < k → j < k → clash' i j ≡ true → Lifted live new clash i j
  pub turn : (s t : ℕ) → clash s t ≡ true → clash t s ≡ true
  pub turn' : (i j : ℕ) → clash' i j ≡ true → clash' j i ≡ true
  pub never : (i : ℕ) → clash' i i ≡ true → ⊥

-- ---- conflicting members, whichever is lower

module _ (clash : ℕ → ℕ → Bool) (turn : (s t : ℕ) → clash s t ≡ true → clash t s ≡ true)
    (n s t : ℕ) (hs : s < n) (ht : t < n) (ne : s ≡ t → ⊥) (x : clash s t ≡ true) where
  parted_either : (P : List ℕ) (c : ℕ) → at P s ≡ c → at P t ≡ c → parted n clash P c ≡ true
  parted_either P c es et = cases_of (parted n clash P c) (λ q. q) (λ q. cases_of (ltb s t)
      (λ l. no_both x (unparted n clash P c q s t (ltb-true _ _ l) ht es et))
      (λ l. no_both (turn s t x) (unparted n clash P c q t s (omega (arith, ltb-false s t l)) hs et es)))

  groups_either : (mem : ℕ → Bool) → mem s ≡ true → mem t ≡ true → at (groups mem clash n) s ≡ at (groups mem clash n) t → ⊥
  groups_either mem ms mt e = cases_of (ltb s t)
      (λ l. groups-apart mem clash n s t (ltb-true _ _ l) ht ms mt x e)
      (λ l. groups-apart mem clash n t s (omega (arith, ltb-false s t l)) hs mt ms (turn s t x) (sym e))

-- an earlier member that conflicts with t and has group g
record Taken (mem : ℕ → Bool) (clash : ℕ → ℕ → Bool) (G : List ℕ) (t g : ℕ) : Type 0 where
  by : ℕ
  earlier : by < t
  member : mem by ≡ true
  clashes : clash by t ≡ true
  has_group : at G by ≡ g

-- each group number below that of a member is taken
taken : (mem : ℕ → Bool) (clash : ℕ → ℕ → Bool) (n t g : ℕ) → t < n → mem t ≡ true → g < at (groups mem clash n) t
    → Taken mem clash (groups mem clash n) t g
unfolding free
taken mem clash n t g h e l =
    let G = groups mem clash t in
    let hits : ℕ → ℕ → Bool = λ g u. mem u && (clash u t && eqb (at G u) g) in
    let unused : ℕ → Bool = λ g. not (any (hits g) t) in
    let w : g < least unused t = subst (λ (i : ℕ). g < i) (groups_at mem clash n t h ∙ groups_last mem clash t e) l in
    let r = any_elim (hits g) t (not-false (any (hits g) t) (least-below unused t g w)) in
    let s = r.0 in
    let x = and_right (mem s) (clash s t && eqb (at G s) g) r.2 in
    record {
      by = s;
      earlier = r.1;
      member = and_left (mem s) (clash s t && eqb (at G s) g) r.2;
      clashes = and_left (clash s t) (eqb (at G s) g) x;
      has_group = groups_at mem clash n s (omega (arith, r.1)) ∙ sym (groups_at mem clash t s r.1)
          ∙ eqb-true (at G s) g (and_right (clash s t) (eqb (at G s) g) x);
    }

-- ---- names and conflicts that are the same in new numbers

module _ {n k : ℕ} {live : ℕ → Bool} {new old : ℕ → ℕ} (numbers : NewNumbers n k live new old) {clash clash' : ℕ → ℕ → Bool}
    (matched : Matched k live new clash clash') {P P' : List ℕ} (mirror : Mirror n k live new old P P') where
  member_live : (s c : ℕ) → s < n → c < n → at P s ≡ c → live s ≡ true
  member_live s c l h e = mirror.only s l (omega arith)

  name_new : (s : ℕ) → live s ≡ true → new (at P s) ≡ at P' (new s)
  name_new s l = ap new (mirror.same s l) ∙ numbers.new_old (at P' (new s)) (mirror.below (new s) (numbers.new_lt s l))

  parted_down : (c : ℕ) → live c ≡ true → parted n clash P c ≡ true → parted k clash' P' (new c) ≡ true
  parted_down c l e =
      let p = pair n clash P c e in
      let a = p.lower in
      let b = p.higher in
      let hc = numbers.live_lt c l in
      let hb = member_live b c p.inside hc p.higher_in in
      let ha = member_live a c (omega (arith, p.ascend, p.inside)) hc p.lower_in in
      let x = matched.down a b ha hb p.clashes in
      parted_either clash' matched.turn' k (new a) (new b) (numbers.new_lt a ha) (numbers.new_lt b hb)
      (λ o. matched.never (new a) (subst (λ (j : ℕ). clash' (new a) j ≡ true) (sym o) x)) x P' (new c)
      (sym (name_new a ha) ∙ ap new p.lower_in) (sym (name_new b hb) ∙ ap new p.higher_in)

  parted_up : (i : ℕ) → i < k → parted k clash' P' i ≡ true → parted n clash P (old i) ≡ true
  parted_up i l e =
      let p = pair k clash' P' i e in
      let h = p.ascend in
      let m = matched.up p.lower p.higher (omega (arith, p.inside)) p.inside p.clashes in
      parted_either clash matched.turn n m.one m.other
      (numbers.live_lt m.one m.one_live) (numbers.live_lt m.other m.other_live)
      (λ o. omega (arith, h, m.one_new, m.other_new, ap new o)) m.clashes P (old i)
      (name_is_old mirror m.one p.lower m.one_live m.one_new ∙ ap old p.lower_in)
      (name_is_old mirror m.other p.higher m.other_live m.other_new ∙ ap old p.higher_in)

  parted-live : Named n P → (c : ℕ) → c < n → parted n clash P c ≡ true → live c ≡ true
  parted-live right c h e = member_live c c h h (name_own n clash P right c h e)

  -- the class that a round takes is the same
  pub first_old : Named n P → first k clash' P' < k → first n clash P ≡ old (first k clash' P')
  unfolding first
  first_old right = least_old numbers (parted n clash P) (parted k clash' P') (parted-live right) parted_up parted_down

  pub first_neither : Named n P → k ≤ first k clash' P' → n ≤ first n clash P
  unfolding first
  first_neither right = least_neither numbers (parted n clash P) (parted k clash' P') (parted-live right) parted_up parted_down

  -- ---- a round at the class with new number d

  module _ (right : Named n P) (right' : Named k P') (d : ℕ) (hd : d < k) (e : parted k clash' P' d ≡ true) where
    abbrev c : ℕ
    c = old d

    abbrev mem : ℕ → Bool
    mem s = eqb (at P s) (old d)

    abbrev mem' : ℕ → Bool
    mem' i = eqb (at P' i) d

    abbrev G : List ℕ
    G = groups (λ s. eqb (at P s) (old d)) clash n

    abbrev G' : List ℕ
    G' = groups (λ i. eqb (at P' i) d) clash' k

    hc : c < n
    hc = old_lt numbers d hd

    oc : at P c ≡ c
    oc = name_own n clash P right c hc (parted_up d hd e)

    od : at P' d ≡ d
    od = name_own k clash' P' right' d hd e

    member_old : (s i : ℕ) → live s ≡ true → new s ≡ i → at P' i ≡ d → at P s ≡ c
    member_old s i l e m = name_is_old mirror s i l e ∙ ap old m

    member_new : (s : ℕ) → live s ≡ true → at P s ≡ c → at P' (new s) ≡ d
    member_new s l m = sym (name_new s l) ∙ ap new m ∙ numbers.new_old d hd

    split_group : (s : ℕ) → live s ≡ true → at P s ≡ c → at G (at (split n P c G) s) ≡ at G s
    split_group s v m =
        let l = numbers.live_lt s v in
        ap (at G) (split_in n P right c hc oc G s l m) ∙ (picked n P right c hc oc G s l m).same_group

    -- Where the round keeps the states of one new number together,
    module _ (together : Together live new old (split n P c G)) where
      -- they have one group,
      one_group : (s i : ℕ) → live s ≡ true → new s ≡ i → at P s ≡ c → at G s ≡ at G (old i)
      one_group s i l e m =
          let h = numbers.new_lt s l in
          let o = numbers.old_live (new s) h in
          sym (split_group s l m) ∙ ap (at G) (together s l)
          ∙ split_group (old (new s)) o (member_old (old (new s)) (new s) o (numbers.new_old (new s) h) (member_new s l m))
          ∙ ap (λ (j : ℕ). at G (old j)) e

      module _ (i : ℕ) (h : i < k) (m : at P' i ≡ d) (before : (j : ℕ) → j < i → at P' j ≡ d → at G' j ≡ at G (old j)) where
        not_lower : at G' i < at G (old i) → ⊥
        not_lower l =
            let hi = numbers.old_live i h in
            let t = taken mem clash n (old i) (at G' i) (old_lt numbers i h) (eq-eqb _ _ (member_old (old i) i hi (numbers.new_old i h) m)) l in
            let s = t.by in
            let j = new s in
            let ms = eqb-true (at P s) c t.member in
            let hs = member_live s c (omega (arith, t.earlier, old_lt numbers i h)) hc ms in
            let mj = member_new s hs ms in
            let ji : j < i = cases_of (ltb j i) (λ q. ltb-true _ _ q) (λ q. absurd (omega (
              arith,
              old_mono numbers i j (ltb-false _ _ q) (numbers.new_lt s hs),
              numbers.old_new s hs,
              t.earlier,
            ))) in
            let x : clash' j i ≡ true = subst (λ (a : ℕ). clash' j a ≡ true) (numbers.new_old i h)
            (matched.down s (old i) hs hi t.clashes) in
            groups-apart mem' clash' k j i ji h (eq-eqb _ _ mj) (eq-eqb _ _ m) x
            (before j ji mj ∙ sym (one_group s j hs refl ms) ∙ t.has_group)

        not_higher : at G (old i) < at G' i → ⊥
        not_higher l =
            let t = taken mem' clash' k i (at G (old i)) h (eq-eqb _ _ m) l in
            let j = t.by in
            let ji = t.earlier in
            let mj = eqb-true (at P' j) d t.member in
            let x = matched.up j i (omega arith) h t.clashes in
            let ma = member_old x.one j x.one_live x.one_new mj in
            let mb = member_old x.other i x.other_live x.other_new m in
            groups_either clash matched.turn n x.one x.other
            (numbers.live_lt x.one x.one_live) (numbers.live_lt x.other x.other_live)
            (λ o. omega (arith, ji, x.one_new, x.other_new, ap new o)) x.clashes mem (eq-eqb _ _ ma) (eq-eqb _ _ mb)
            (one_group x.one j x.one_live x.one_new ma ∙ sym (before j ji mj) ∙ t.has_group
            ∙ sym (one_group x.other i x.other_live x.other_new mb))

      -- which is that of the new number,
      same_group : (b i : ℕ) → i < b → i < k → at P' i ≡ d → at G' i ≡ at G (old i)
      same_group zero i l h m = absurd (not-suc-le-zero l)
      same_group (suc b) i l h m =
          let before : (j : ℕ) → j < i → at P' j ≡ d → at G' j ≡ at G (old j) =
          λ j ji. same_group b j (omega arith) (omega arith) in
          cases_of (ltb (at G' i) (at G (old i)))
          (λ q. absurd (not_lower i h m before (ltb-true _ _ q)))
          (λ q. cases_of (ltb (at G (old i)) (at G' i))
          (λ z. absurd (not_higher i h m before (ltb-true _ _ z)))
          (λ z. omega (arith, ltb-false (at G' i) (at G (old i)) q, ltb-false (at G (old i)) (at G' i) z)))

      group_new : (s i : ℕ) → live s ≡ true → new s ≡ i → i < k → at P' i ≡ d → at G s ≡ at G' i
      group_new s i l e h m = one_group s i l e (member_old s i l e m) ∙ sym (same_group k i h h m)

      -- and the names after the round are the same.
      split_same : (s : ℕ) → live s ≡ true → at (split n P c G) s ≡ old (at (split k P' d G') (new s))
      split_same s l =
          let h = numbers.new_lt s l in
          let inside = numbers.live_lt s l in
          cases_of (eqb (at P' (new s)) d)
          (λ q. let m = eqb-true _ _ q in
          let g = group_new s (new s) l refl h m in
          let low = (picked k P' right' d hd od G' (new s) h m).low in
          split_in n P right c hc oc G s inside (member_old s (new s) l refl m)
          ∙ least_old numbers (λ t. eqb (at P t) c && eqb (at G t) (at G s))
          (λ i. eqb (at P' i) d && eqb (at G' i) (at G' (new s)))
          (λ t ht y. member_live t c ht hc (same² (at P t) c (at G t) (at G s) y).0)
          (λ i hi y. let v = same² (at P' i) d (at G' i) (at G' (new s)) y in
          let o = numbers.old_live i hi in
          let e = numbers.new_old i hi in
          and_intro (eq-eqb _ _ (member_old (old i) i o e v.0))
          (eq-eqb _ _ (group_new (old i) i o e hi v.0 ∙ v.1 ∙ sym g)))
          (λ t ht y. let v = same² (at P t) c (at G t) (at G s) y in
          let mt = member_new t ht v.0 in
          and_intro (eq-eqb _ _ mt) (eq-eqb _ _ (sym (group_new t (new t) ht refl (numbers.new_lt t ht) mt) ∙ v.1 ∙ g)))
          (omega arith)
          ∙ ap old (sym (split_in k P' right' d hd od G' (new s) h m)))
          (λ q. let ne = eqb-false _ _ q in
          split_out n P right c hc oc G s inside (λ m. ne (member_new s l m)) ∙ mirror.same s l
          ∙ ap old (sym (split_out k P' right' d hd od G' (new s) h ne)))

      pub split_mirror : Mirror n k live new old (split n P c G) (split k P' d G')
      split_mirror = record {
        same = split_same;
        only = λ s h l. mirror.only s h (split-live n P right c hc oc G s h l);
        below = λ i l. split-all k P' right' d hd od G' i l (mirror.below i l);
      }
