-- Laws of marks and groups. Assumes nothing.
use Prim.Native.Nat.{ℕ, zero, suc, ◌+◌, ◌/◌, ◌%◌, ◌≤◌, ◌<◌}
use mathlib.Core.Path.{◌≡◌, refl, sym, ap, ap₂, subst, ◌∙◌}
use mathlib.Core.Bool.{Bool, true, false, not, ◌&&◌, ◌||◌}
use mathlib.Core.List.{List, [], ◌∷◌, ◌++◌}
use native.Mathlib.Omega.{arith}
use native.Mathlib.Numerals.{add-one}
use lib.Dec.{eqb, ltb}
use lib.ListN.{length, set, take, replicate, length-set, length-replicate}
use lib.Seq.{take-suc, take-suc-set, get_or-set_same, get_or-set_other}
use borrow.Author.Tests.{eq-eqb, ne_eqb, eqb-true, eqb-false, ltb-true, ltb-false}
use Rattle.meaning.specs.Cases.{cases_of, no_both, and_left, and_right, or_right}
use Rattle.meaning.specs.Search.{any, least, at}
use Rattle.meaning.specs.SearchLaws.{least_is, least_empty, least_max, least_cong, at_take, any_cong, any_elim}
use Rattle.meaning.specs.Classes.{free, groups}
use Rattle.meaning.specs.ClassesLaws.{groups_le}
use Rattle.sets.specs.Sets.{holds, contains, Missing}
use Rattle.sets.proofs.FourLaws.{blank, contains_none, contains_with}
use Rattle.conflicts.proofs.Laws.{and-false}
use Rattle.members.specs.Members.{Heads}
use Rattle.members.proofs.Laws.{Hop}
use Rattle.grouping.specs.Grouping.{taken, Below, Marks, Grouped}

-- ---- members up to s

-- the first member is s or before it
pub first_until : (P : List ℕ) (n c s : ℕ) → Heads P n c → at P s ≡ c → c ≤ s
first_until P n c s head e = cases_of (ltb s c) (λ q. absurd (head.before s (ltb-true s c q) e)) (λ q. ltb-false s c q)

-- and so is the next one behind t
pub next_until : (P : List ℕ) (n c s t u : ℕ) → Hop P n c t u → t < s → at P s ≡ c → u ≤ s
next_until P n c s t u next l e = cases_of (ltb s u) (λ q. absurd (next.gap s l (ltb-true s u q) e)) (λ q. ltb-false s u q)

-- ---- any, for a loop upward

-- states that do not pass leave it as it is
any_skip : (p : ℕ → Bool) (t u : ℕ) → t ≤ u → ((x : ℕ) → t ≤ x → x < u → p x ≡ false) → any p u ≡ any p t
unfolding any
any_skip p t zero h miss = let e : 0 ≡ t = omega arith in ap (any p) e
any_skip p t (suc u) h miss = cases_of (eqb t (suc u))
    (λ q. rw (eqb-true t (suc u) q))
    (λ q. let l : t ≤ u = omega (arith, eqb-false t (suc u) q) in
    rw (any, miss u l (omega arith)) (any_skip p t u l (λ x k b. miss x k (omega arith))))

-- the group of s: 0 where it is no member, and else the smallest that is not taken
unfoldable pub group_of : (ℕ → ℕ → Bool) → List ℕ → ℕ → List ℕ → ℕ → ℕ
group_of clash P c G s = elim (eqb (at P s) c) [ true ↦ least (λ g. not (taken clash P G c s g s)) s | false ↦ 0 ]

-- ---- marks

module _ (clashes : ℕ → ℕ → Bool) (P G : List ℕ) (c s : ℕ) where
  -- the groups that the members before t take are marked, and none from `top` on
  pub record Marked (marks : List ℕ) (top t : ℕ) : Type 0 where
    pub long : length marks ≡ 4
    pub below : Below marks top
    pub marked : Marks clashes P G c s marks t

  pub marked_none : Marked (replicate 4 0) 0 0
  unfolding taken any
  marked_none = record {
    long = length-replicate {A = ℕ} 4 0;
    below = λ g h. contains_none 4 g;
    marked = record { says = λ g h. contains_none 4 g };
  }

  taken_next : (g t : ℕ)
      → taken clashes P G c s g (t + 1) ≡ (eqb (at P t) c && (clashes t s && eqb (at G t) g)) || taken clashes P G c s g t
  unfolding taken any
  taken_next g t = rw (add-one t, any)

  module _ (marks : List ℕ) (top t : ℕ) (r : Marked marks top t) where
    as_before : (now : List ℕ) (top' u : ℕ) → now ≡ marks → top' ≡ top
        → ((g : ℕ) → taken clashes P G c s g u ≡ taken clashes P G c s g t) → Marked now top' u
    as_before now top' u e f h = rw (e, f) record {
      long = r.long;
      below = r.below;
      marked = record { says = λ g l. r.marked.says g l ∙ sym (h g) };
    }

    -- states that are no members mark nothing
    pub marked_skip : (u : ℕ) → t ≤ u → ((x : ℕ) → t ≤ x → x < u → at P x ≡ c → ⊥) → Marked marks top u
    unfolding taken
    marked_skip u l h = as_before marks top u refl refl (λ g. any_skip _ t u l (λ x k b. rw (ne_eqb _ _ (h x k b))))

    pub marked_calm : (now : List ℕ) (top' : ℕ) → now ≡ marks → top' ≡ top → clashes t s ≡ false → Marked now top' (t + 1)
    marked_calm now top' e f h = as_before now top' (t + 1) e f (λ g. taken_next g t ∙ rw (h, and-false (eqb (at P t) c)))

    -- a group that is marked needs no other member
    pub marked_again : (now : List ℕ) (top' : ℕ) → now ≡ marks → top' ≡ top → at G t < 256 → contains marks (at G t) ≡ true
        → Marked now top' (t + 1)
    marked_again now top' e f l h = as_before now top' (t + 1) e f (λ g. taken_next g t ∙ cases_of (eqb (at G t) g) (same g) (other g))
      where
        same : (g : ℕ) → eqb (at G t) g ≡ true
            → (eqb (at P t) c && (clashes t s && eqb (at G t) g)) || taken clashes P G c s g t ≡ taken clashes P G c s g t
        same g q =
            let all : taken clashes P G c s g t ≡ true =
            ap (λ (k : ℕ). taken clashes P G c s k t) (sym (eqb-true (at G t) g q)) ∙ sym (r.marked.says (at G t) l) ∙ h in
            rw (all, or_right (eqb (at P t) c && (clashes t s && eqb (at G t) g)) refl)

        other : (g : ℕ) → eqb (at G t) g ≡ false
            → (eqb (at P t) c && (clashes t s && eqb (at G t) g)) || taken clashes P G c s g t ≡ taken clashes P G c s g t
        other g q = rw (q, and-false (clashes t s), and-false (eqb (at P t) c))

    -- the group of t is marked
    pub marked_more : (now : List ℕ) (top' group x : ℕ) → now ≡ set marks (group / 64) x
        → ((i : ℕ) → holds x i ≡ (eqb (group % 64) i || holds (at marks (group / 64)) i)) → group ≡ at G t → group < 256
        → top ≤ top' → group + 1 ≤ top' → at P t ≡ c → clashes t s ≡ true → Marked now top' (t + 1)
    marked_more now top' group x e more is low h l member k = rw e record {
      long = length-set marks (group / 64) x ∙ r.long;
      below = λ g b. said g ∙ ap (λ (z : Bool). z || contains marks g) (ne_eqb group g (λ q. omega arith)) ∙ r.below g (omega arith);
      marked = record {
        says = λ g b. said g ∙ ap₂ (λ (i : ℕ) (z : Bool). eqb i g || z) is (r.marked.says g b) ∙ sym (taken_next g t ∙ rw (eq-eqb _ _ member, k));
      };
    }
      where
        said : (g : ℕ) → contains (set marks (group / 64) x) g ≡ (eqb group g || contains marks g)
        said = contains_with marks group x (omega (arith, r.long)) more

  -- the groups before s are all below it, so that s itself is free
  own_free : ((t : ℕ) → t < s → at P t ≡ c → at G t ≤ t) → taken clashes P G c s s s ≡ false
  unfolding taken
  own_free low = cases_of (any own s)
      (λ q. let t = any_elim own s q in
      let member : at P t.0 ≡ c = eqb-true _ _ (and_left (eqb (at P t.0) c) _ t.2) in
      let rest = and_right (eqb (at P t.0) c) (clashes t.0 s && eqb (at G t.0) s) t.2 in
      let same : at G t.0 ≡ s = eqb-true _ _ (and_right (clashes t.0 s) (eqb (at G t.0) s) rest) in
      absurd (omega (arith, low t.0 t.1 member, same, t.1)))
      (λ q. q)
    where
      own : ℕ → Bool
      own t = eqb (at P t) c && (clashes t s && eqb (at G t) s)

  -- the smallest group without a mark is the smallest that is not taken
  pub group_marked : (marks : List ℕ) (g : ℕ) → s < 256 → at P s ≡ c → ((t : ℕ) → t < s → at P t ≡ c → at G t ≤ t)
      → Marks clashes P G c s marks s → Missing marks g → g ≡ group_of clashes P c G s
  unfolding group_of
  group_marked marks g l e low r missing = rw (group_of, eq-eqb (at P s) c e) (go (ltb g s) refl)
    where
      spare : ℕ → Bool
      spare h = not (taken clashes P G c s h s)

      shut : (h : ℕ) → h < g → h < 256 → spare h ≡ false
      shut h b k = ap not (sym (r.says h k) ∙ missing.below h b)

      go : (b : Bool) → ltb g s ≡ b → g ≡ least spare s
      go true q =
          let b = ltb-true g s q in
          sym (least_is spare s g b (ap not (sym (r.says g (omega arith)) ∙ missing.gone)) (λ h k. shut h k (omega arith)))
      go false q =
          let b : s ≤ g = ltb-false g s q in
          let here : g ≡ s = cases_of (ltb s g) (λ z. no_both (ap not (own_free low)) (shut s (ltb-true s g z) l)) (λ z. omega (arith, ltb-false s g z)) in
          omega (arith, here, least_empty spare s (λ h k. shut h (omega arith) (omega arith)), least_max spare s)

  pub group_low : group_of clashes P c G s ≤ s
  unfolding group_of
  group_low = go (eqb (at P s) c)
    where
      go : (b : Bool) → (elim b as (λ x. ℕ) [ true ↦ least (λ g. not (taken clashes P G c s g s)) s | false ↦ 0 ]) ≤ s
      go true = least_max _ s
      go false = omega arith

  pub group_is_low : (g : ℕ) → g ≡ group_of clashes P c G s → g ≤ s
  group_is_low g e = omega (arith, e, group_low)

-- ---- groups

module _ (clashes : ℕ → ℕ → Bool) (P : List ℕ) (c : ℕ) where
  abbrev member : ℕ → Bool
  member s = eqb (at P s) c

  pub grouped_none : (G : List ℕ) → G ≡ replicate 256 0 → Grouped clashes P c G 0
  unfolding groups
  grouped_none G h = rw h record {
    long = length-replicate {A = ℕ} 256 0;
    front = refl;
    low = λ t l. absurd (omega arith);
    rest = λ t l. blank 256 t;
  }

  -- the group of s, from the groups of the states before it
  unfoldable next : List ℕ → ℕ → ℕ
  next G s = elim (member s) [ true ↦ free member clashes G s | false ↦ 0 ]

  -- later entries do not count
  group_front : (G : List ℕ) (s : ℕ) → group_of clashes P c G s ≡ next (take s G) s
  unfolding group_of free taken next
  group_front G s = ap (λ (k : ℕ). elim (member s) as (λ x. ℕ) [ true ↦ k | false ↦ 0 ])
      (least_cong _ _ s (λ g h. ap not
      (any_cong _ _ s (λ t l. ap (λ (k : ℕ). member t && (clashes t s && eqb k g)) (sym (at_take G s t l))))))

  pub grouped_more : (G : List ℕ) (s v : ℕ) → Grouped clashes P c G s → s < 256 → v ≡ group_of clashes P c G s
      → Grouped clashes P c (set G s v) (s + 1)
  unfolding groups next
  grouped_more G s v r l e = record {
    long = length-set G s v ∙ r.long;
    front =
        let G' = groups member clashes s in
        let more : groups member clashes (s + 1) ≡ G' ++ (next G' s ∷ []) = rw (add-one s, groups) in
        let here : v ≡ next G' s = e ∙ group_front G s ∙ rw r.front in
        rw (more, ← here, ← r.front, add-one s) (take-suc-set G s v (omega (arith, r.long)));
    low = λ t h. cases_of (eqb t s)
        (λ q. let z : t ≡ s = eqb-true t s q in
        rw (z, get_or-set_same G s v 0 (omega (arith, r.long)), e) (omega (arith, group_low clashes P G c s)))
        (λ q. let z = eqb-false t s q in rw (get_or-set_other G s t v 0 (λ u. z u)) (r.low t (omega arith)));
    rest = λ t h. let z : t ≡ s → ⊥ = λ u. omega arith in rw (get_or-set_other G s t v 0 z) (r.rest t (omega arith));
  }

  -- a member's group is no higher than itself
  pub grouped_le : (G : List ℕ) (s : ℕ) → Grouped clashes P c G s → (t : ℕ) → t < s → at P t ≡ c → at G t ≤ t
  grouped_le G s r t h e =
      let there : at G t ≡ at (groups member clashes s) t = sym (at_take G s t h) ∙ ap (λ (xs : List ℕ). at xs t) r.front in
      rw there (groups_le member clashes s t h (eq-eqb (at P t) c e))

  -- a state that is no member has group 0
  grouped_other : (G : List ℕ) (s : ℕ) → Grouped clashes P c G s → s < 256 → (at P s ≡ c → ⊥) → Grouped clashes P c G (s + 1)
  unfolding groups
  grouped_other G s r l h = record {
    long = r.long;
    front =
        let more : groups member clashes (s + 1) ≡ groups member clashes s ++ (0 ∷ []) =
        rw (add-one s, groups, ne_eqb (at P s) c h) in
        let one : take (s + 1) G ≡ take s G ++ (at G s ∷ []) = rw (add-one s) (take-suc G s 0 (omega (arith, r.long))) in
        rw (more, one, r.front, r.rest s (omega arith));
    low = λ t k. cases_of (eqb t s)
        (λ q. let z : t ≡ s = eqb-true t s q in omega (arith, z, ap (at G) z, r.rest s (omega arith)))
        (λ q. r.low t (omega (arith, eqb-false t s q)));
    rest = λ t k. r.rest t (omega arith);
  }

  pub grouped_skip : (G : List ℕ) (s u : ℕ) → Grouped clashes P c G s → s ≤ u → u ≤ 256
      → ((x : ℕ) → s ≤ x → x < u → at P x ≡ c → ⊥) → Grouped clashes P c G u
  grouped_skip G s zero r h l miss = let e : s ≡ 0 = omega arith in subst (Grouped clashes P c G) e r
  grouped_skip G s (suc u) r h l miss = cases_of (eqb s (suc u))
      (λ q. subst (Grouped clashes P c G) (eqb-true s (suc u) q) r)
      (λ q. let k : s ≤ u = omega (arith, eqb-false s (suc u) q) in
      let before = grouped_skip G s u r k (omega arith) (λ x m b. miss x m (omega arith)) in
      rw (← add-one u) (grouped_other G u before (omega arith) (miss u k (omega arith))))
