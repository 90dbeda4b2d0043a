-- How the links of a class are made anew after it was split. Assumes nothing.
use Prim.Native.Nat.{ℕ, ◌+◌, ◌≤◌, ◌<◌}
use mathlib.Core.Path.{◌≡◌, refl, sym, ap, ◌∙◌}
use mathlib.Core.List.{List}
use native.Mathlib.Omega.{arith}
use lib.Dec.{eqb, ltb}
use lib.ListN.{length, set, replicate, length-set, length-replicate, get_or-replicate}
use lib.Seq.{get_or-set_same, get_or-set_other}
use borrow.Author.Tests.{eqb-true, eqb-false, ltb-true, ltb-false}
use Rattle.meaning.specs.Cases.{cases_of}
use Rattle.meaning.specs.Search.{at}
use Rattle.members.specs.Members.{Relinkable, Linked}

-- ---- what is known of the members before s

module _ (old P : List ℕ) (n c : ℕ) where
  -- t is a member of class c, and d is its new name
  abbrev Of : ℕ → ℕ → Type 0
  Of d t = (at old t ≡ c) × (at P t ≡ d)

  -- f is 65,535 where no member before s has name d, and else the last that has
  pub record Last (s d f : ℕ) : Type 0 where
    pub absent : f ≡ 65535 → (t : ℕ) → t < s → Of d t → ⊥
    pub before : (f ≡ 65535 → ⊥) → f < s
    pub of : (f ≡ 65535 → ⊥) → Of d f
    pub latest : (f ≡ 65535 → ⊥) → (t : ℕ) → f < t → t < s → Of d t → ⊥

  -- v is the next behind u of the members before s that have the name of u, or n
  pub record Next (s u v : ℕ) : Type 0 where
    pub behind : u < v
    pub inside : v ≤ n
    pub before : v < n → v < s
    pub of : v < n → Of (at P u) v
    pub between : (t : ℕ) → u < t → t < v → t < s → Of (at P u) t → ⊥

  -- the members before s are linked, and the last with each name is known
  pub record Relinked (next₀ next latest : List ℕ) (s : ℕ) : Type 0 where
    pub long : length next ≡ 256
    pub wide : length latest ≡ 256
    pub still : (u : ℕ) → u < n → (u < s → at old u ≡ c → ⊥) → at next u ≡ at next₀ u
    pub done : (u : ℕ) → u < s → at old u ≡ c → Next s u (at next u)
    pub known : (d : ℕ) → d < 256 → Last s d (at latest d)

  pub relinked_none : (next₀ next latest : List ℕ) → next ≡ next₀ → length next₀ ≡ 256 → latest ≡ replicate 256 65535
      → Relinked next₀ next latest 0
  relinked_none next₀ next latest e l f = rw (e, f) record {
    long = l;
    wide = length-replicate {A = ℕ} 256 65535;
    still = λ u h z. refl;
    done = λ u h. absurd (omega arith);
    known = λ d h. let e : at (replicate 256 65535) d ≡ 65535 = get_or-replicate 256 d 65535 0 h in rw e record {
      absent = λ z t k. absurd (omega arith);
      before = λ z. absurd (z refl);
      of = λ z. absurd (z refl);
      latest = λ z. absurd (z refl);
    };
  }

-- the links once s follows f, which is 65,535 where s follows none
pub record Joined (next : List ℕ) (f s : ℕ) (next' : List ℕ) : Type 0 where
  pub long : length next' ≡ 256
  pub here : (f ≡ 65535 → ⊥) → at next' f ≡ s
  pub there : (u : ℕ) → (u ≡ f → ⊥) → at next' u ≡ at next u

-- ---- from one member to the next

module _ {old P : List ℕ} {n c : ℕ} {next₀ next latest : List ℕ} {s : ℕ} (r : Relinked old P n c next₀ next latest s) where
  -- states that are no members change nothing
  pub relinked_skip : (u : ℕ) → s ≤ u → ((x : ℕ) → s ≤ x → x < u → at old x ≡ c → ⊥) → Relinked old P n c next₀ next latest u
  relinked_skip u h miss = record {
    long = r.long;
    wide = r.wide;
    still = λ t l z. r.still t l (λ k. z (omega arith));
    done = λ t l e. let w = r.done t (member t l e) e in record {
      behind = w.behind;
      inside = w.inside;
      before = λ k. let b = w.before k in omega arith;
      of = w.of;
      between = λ x a b k o. w.between x a b (member x k o.0) o;
    };
    known = λ d l. let w = r.known d l in record {
      absent = λ z t k o. w.absent z t (member t k o.0) o;
      before = λ z. let b = w.before z in omega arith;
      of = w.of;
      latest = λ z t k l o. w.latest z t k (member t l o.0) o;
    };
  }
    where
      member : (t : ℕ) → t < u → at old t ≡ c → t < s
      member t l e = cases_of (ltb t s) (λ q. ltb-true t s q) (λ q. absurd (miss t (ltb-false t s q) l e))

  pub joined_none : {f : ℕ} {next' : List ℕ} → next' ≡ next → f ≡ 65535 → Joined next f s next'
  joined_none e z = rw e record { long = r.long; here = λ y. absurd (y z); there = λ u y. refl }

  pub joined_one : {f p : ℕ} {next' : List ℕ} → p ≡ f → next' ≡ set next p s → p < 256 → Joined next f s next'
  joined_one {p = p} same e l = rw e record {
    long = length-set next p s ∙ r.long;
    here = λ y. ap (at (set next p s)) (sym same) ∙ get_or-set_same next p s 0 (omega (arith, r.long));
    there = λ u y. get_or-set_other next p u s 0 (λ q. y (q ∙ same));
  }

  -- s has the new name d
  module _ (h : s < n) (few : n ≤ 256) (e : at old s ≡ c) {d : ℕ} (is : d ≡ at P s) (low : d < 256) {next' : List ℕ}
      (j : Joined next (at latest d) s next') where
    abbrev f : ℕ
    f = at latest d

    last : Last old P n c s d f
    last = r.known d low

    -- so far it is the last that has it
    abbrev next'' : List ℕ
    next'' = set next' s n

    abbrev latest' : List ℕ
    latest' = set latest d s

    here : at next'' s ≡ n
    here = get_or-set_same next' s n 0 (omega (arith, j.long))

    there : (u : ℕ) → (u ≡ s → ⊥) → at next'' u ≡ at next' u
    there u z = get_or-set_other next' s u n 0 z

    -- f stands behind every other member that has it
    earlier : (u : ℕ) → u < s → Of old P n c d u → (u ≡ f → ⊥) → (f ≡ 65535 → ⊥) × (u < f)
    earlier u l o z = cases_of (eqb f 65535)
        (λ q. absurd (last.absent (eqb-true f 65535 q) u l o))
        (λ q. let some = eqb-false f 65535 q in cases_of (ltb f u)
        (λ y. absurd (last.latest some u (ltb-true f u y) l o))
        (λ y. (some, omega (arith, ltb-false f u y))))

    done : (u : ℕ) → u < s → at old u ≡ c → Next old P n c (s + 1) u (at next'' u)
    done u l m = let z : u ≡ s → ⊥ = λ q. omega arith in rw (there u z) (cases_of (eqb u f)
        (λ q. joined (eqb-true u f q))
        (λ q. other (eqb-false u f q)))
      where
        joined : u ≡ f → Next old P n c (s + 1) u (at next' u)
        joined q =
            let some : f ≡ 65535 → ⊥ = λ y. omega arith in
            let to : at next' u ≡ s = ap (at next') q ∙ j.here some in
            let name : at P u ≡ d = ap (at P) q ∙ (last.of some).1 in
            rw to record {
              behind = l;
              inside = omega arith;
              before = λ _. omega arith;
              of = λ _. (e, sym is ∙ sym name);
              between = λ t a b k o. last.latest some t (omega (arith, q)) b (o.0, o.1 ∙ name);
            }

        other : (u ≡ f → ⊥) → Next old P n c (s + 1) u (at next' u)
        other q = let w = r.done u l m in rw (j.there u q) record {
          behind = w.behind;
          inside = w.inside;
          before = λ k. let b = w.before k in omega arith;
          of = w.of;
          between = λ t a b k o. cases_of (eqb t s)
              (λ y. let same : t ≡ s = eqb-true t s y in
              let name : at P u ≡ d = sym o.1 ∙ ap (at P) same ∙ sym is in
              let past = earlier u l (m, name) q in
              let below = last.before past.0 in
              let has = last.of past.0 in
              w.between f past.1 (omega arith) below (has.0, has.1 ∙ sym name))
              (λ y. w.between t a b (omega (arith, eqb-false t s y)) o);
        }

    known : (g : ℕ) → g < 256 → Last old P n c (s + 1) g (at latest' g)
    known g l = cases_of (eqb g d)
        (λ q. let same : g ≡ d = eqb-true g d q in
        let to : at latest' g ≡ s = ap (at latest') same ∙ get_or-set_same latest d s 0 (omega (arith, r.wide)) in
        rw to record {
          absent = λ y. absurd (omega arith);
          before = λ _. omega arith;
          of = λ _. (e, sym is ∙ sym same);
          latest = λ _ t a b. absurd (omega arith);
        })
        (λ q. let z = eqb-false g d q in
        let w = r.known g l in
        let past : (t : ℕ) → t < s + 1 → Of old P n c g t → t < s = λ t k o. cases_of (eqb t s)
        (λ y. absurd (z (sym o.1 ∙ ap (at P) (eqb-true t s y) ∙ sym is)))
        (λ y. omega (arith, eqb-false t s y)) in
        rw (get_or-set_other latest d g s 0 z) record {
          absent = λ y t k o. w.absent y t (past t k o) o;
          before = λ y. let b = w.before y in omega arith;
          of = w.of;
          latest = λ y t a b o. w.latest y t a (past t b o) o;
        })

    pub relinked_more : Relinked old P n c next₀ next'' latest' (s + 1)
    relinked_more = record {
      long = length-set next' s n ∙ j.long;
      wide = length-set latest d s ∙ r.wide;
      still = λ u l z.
          let not-s : u ≡ s → ⊥ = λ q. z (omega arith) (ap (at old) q ∙ e) in
          let not_f : u ≡ f → ⊥ = λ q.
          let some : f ≡ 65535 → ⊥ = λ y. omega arith in
          z (omega (arith, last.before some)) (ap (at old) q ∙ (last.of some).0) in
          there u not-s ∙ j.there u not_f ∙ r.still u l (λ k. z (omega arith));
      done = λ u l m. cases_of (eqb u s)
          (λ q. let same : u ≡ s = eqb-true u s q in rw (same, here) record {
            behind = h;
            inside = omega arith;
            before = λ k. absurd (omega arith);
            of = λ k. absurd (omega arith);
            between = λ t a b k. absurd (omega arith);
          })
          (λ q. done u (omega (arith, eqb-false u s q)) m);
      known = known;
    }

-- ---- all members are linked

module _ {P next₀ : List ℕ} {n c : ℕ} (lent : Relinkable P next₀ n c) where
  abbrev old : List ℕ
  old = lent.old

  -- no other state has the new name of a member
  apart : (t x : ℕ) → t < n → x < n → at old t ≡ c → (at old x ≡ c → ⊥) → at P t ≡ at P x → ⊥
  apart t x h l m z e =
      let same : at P t ≡ at old x = e ∙ lent.kept x l z in
      let own = lent.own x l (omega (arith, lent.low t h m)) in
      z (sym own ∙ ap (at old) (sym same) ∙ lent.within t h m)

  module _ {next latest : List ℕ} {s : ℕ} (r : Relinked old P n c next₀ next latest s) (most : s ≤ n) (all : n ≤ s) where
    -- a state is a member or not
    in_or_out : {F : Type 0} (t : ℕ) → (at old t ≡ c → F) → ((at old t ≡ c → ⊥) → F) → F
    in_or_out t f g = cases_of (eqb (at old t) c) (λ q. f (eqb-true _ _ q)) (λ q. g (eqb-false _ _ q))

    member : (t : ℕ) → t < n → at old t ≡ c → Next old P n c s t (at next t)
    member t h m = r.done t (omega arith) m

    -- a state that is no member keeps its name and its link
    seat : (t : ℕ) → t < n → (at old t ≡ c → ⊥) → at P t < n → at old t < n
    seat t h z l = omega (arith, lent.kept t h z)

    link : (t : ℕ) → t < n → (at old t ≡ c → ⊥) → at next t ≡ at next₀ t
    link t h z = r.still t h (λ _. z)

    pub relinked_all : Linked P n next
    relinked_all = record {
      long = r.long;
      behind = λ t h l. in_or_out t
          (λ m. (member t h m).behind)
          (λ z. rw (link t h z) (lent.linked.behind t h (seat t h z l)));
      inside = λ t h l. in_or_out t
          (λ m. (member t h m).inside)
          (λ z. rw (link t h z) (lent.linked.inside t h (seat t h z l)));
      same = λ t h l k. in_or_out t
          (λ m. ((member t h m).of k).1)
          (λ z. let v = at next₀ t in
          let low : v < n = omega (arith, link t h z) in
          let class : at old v ≡ at old t = lent.linked.same t h (seat t h z l) low in
          ap (at P) (link t h z) ∙ lent.kept v low (λ q. z (sym class ∙ q)) ∙ class ∙ sym (lent.kept t h z));
      between = λ t x h l a b e. in_or_out t
          (λ m. let w = member t h m in
          in_or_out x
          (λ y. w.between x a b (omega (arith, w.inside)) (y, e))
          (λ y. apart t x h (omega (arith, w.inside)) m y (sym e)))
          (λ z. let old-seat = seat t h z l in
          let b₀ : x < at next₀ t = omega (arith, link t h z) in
          let low : x < n = omega (arith, lent.linked.inside t h old-seat) in
          in_or_out x
          (λ y. apart x t low h y z e)
          (λ y. lent.linked.between t x h old-seat a b₀ (sym (lent.kept x low y) ∙ e ∙ lent.kept t h z)));
    }
