-- Members of a class that follow each other: from one to the next, and how the links are made. Assumes nothing.
use Prim.Native.Nat.{ℕ, ◌+◌, ◌≤◌, ◌<◌}
use mathlib.Core.Path.{◌≡◌, sym, ap, ◌∙◌}
use mathlib.Core.List.{List}
use native.Mathlib.Omega.{arith}
use lib.Dec.{eqb, ltb}
use lib.ListN.{length, set, take, replicate, length-set, length-replicate, get_or-replicate}
use lib.Seq.{get_or-set_same, get_or-set_other}
use borrow.Author.Tests.{eqb-true, eqb-false, ltb-true, ltb-false}
use Rattle.meaning.specs.Cases.{cases_of}
use Rattle.meaning.specs.Search.{at}
use Rattle.meaning.specs.SearchLaws.{at_take}
use Rattle.meaning.specs.ClassesLaws.{Named}
use Rattle.meaning.proofs.ReachLaws.{among_at}
use Rattle.members.specs.Members.{Seated, Linked, Heads}

-- ---- from one member to the next

-- s is a member of class c, or n
pub record Standing (P : List ℕ) (n c s : ℕ) : Type 0 where
  pub class : c < n
  pub inside : s ≤ n
  pub member : s < n → at P s ≡ c

pub at_head : (P : List ℕ) (n c : ℕ) → Heads P n c → Standing P n c c
at_head P n c head = record { class = head.inside; inside = omega (arith, head.inside); member = λ _. head.member }

-- b is the next member of class c behind a, or n
pub record Hop (P : List ℕ) (n c a b : ℕ) : Type 0 where
  pub after : a < b
  pub stands : Standing P n c b
  pub gap : (x : ℕ) → a < x → x < b → at P x ≡ c → ⊥

pub hop : (P : List ℕ) (n : ℕ) (next : List ℕ) → Linked P n next → (c a b : ℕ) → Standing P n c a → a < n → b ≡ at next a
    → Hop P n c a b
hop P n next r c a b here h k = let seat : at P a < n = omega (arith, here.member h, here.class) in rw k record {
  after = r.behind a h seat;
  stands = record { class = here.class; inside = r.inside a h seat; member = λ l. r.same a h seat l ∙ here.member h };
  gap = λ x l u q. r.between a x h seat l u (q ∙ sym (here.member h));
}

-- what holds below a, at a and between a and b holds below b
pub through : (F : ℕ → Type 0) (a b : ℕ) → ((x : ℕ) → x < a → F x) → F a → ((x : ℕ) → a < x → x < b → F x) → (x : ℕ) → x < b → F x
through F a b low here gap x h = cases_of (ltb x a)
    (λ q. low x (ltb-true x a q))
    (λ q. cases_of (eqb x a)
    (λ z. rw (eqb-true x a z) here)
    (λ z. gap x (omega (arith, ltb-false x a q, eqb-false x a z)) h))

-- a class is headed by its name
pub heads : (n : ℕ) (P : List ℕ) → Named n (take n P) → (c : ℕ) → c < n → at P c ≡ c → Heads P n c
heads n P r c h e = record {
  inside = h;
  member = e;
  before = λ s l q.
      let here : at (take n P) s ≡ c = at_take P n s (omega arith) ∙ q in
      let low = r.low s (omega arith) (omega (arith, here)) in
      omega (arith, here, low);
}

-- ---- how the links are made

-- the links of the states from s on, and for each name the first state from s on that has it
pub record Chained (P : List ℕ) (n : ℕ) (next nearest : List ℕ) (s : ℕ) : Type 0 where
  pub long : length next ≡ 256
  pub wide : length nearest ≡ 256
  pub behind : (t : ℕ) → s ≤ t → t < n → at P t < n → t < at next t
  pub inside : (t : ℕ) → s ≤ t → t < n → at P t < n → at next t ≤ n
  pub same : (t : ℕ) → s ≤ t → t < n → at P t < n → at next t < n → at P (at next t) ≡ at P t
  pub between : (t u : ℕ) → s ≤ t → t < n → at P t < n → t < u → u < at next t → at P u ≡ at P t → ⊥
  pub from : (c : ℕ) → c < n → s ≤ at nearest c
  pub until : (c : ℕ) → c < n → at nearest c ≤ n
  pub named : (c : ℕ) → c < n → at nearest c < n → at P (at nearest c) ≡ c
  pub first : (c u : ℕ) → c < n → s ≤ u → u < at nearest c → at P u ≡ c → ⊥

pub chained_none : (P : List ℕ) (n : ℕ) (next nearest : List ℕ) → n ≤ 256 → length next ≡ 256 → nearest ≡ replicate 256 n
    → Chained P n next nearest n
chained_none P n next nearest few e q = rw q record {
  long = e;
  wide = length-replicate {A = ℕ} 256 n;
  behind = λ t h l. absurd (omega arith);
  inside = λ t h l. absurd (omega arith);
  same = λ t h l. absurd (omega arith);
  between = λ t u h l. absurd (omega arith);
  from = λ c h. omega (arith, get_or-replicate 256 c n 0 (omega arith));
  until = λ c h. omega (arith, get_or-replicate 256 c n 0 (omega arith));
  named = λ c h l. absurd (omega (arith, get_or-replicate 256 c n 0 (omega arith)));
  first = λ c u h l k. absurd (omega (arith, get_or-replicate 256 c n 0 (omega arith)));
}

-- states that are in no class need no link
chained_skip : (P : List ℕ) (n : ℕ) (next nearest : List ℕ) (s u : ℕ) → Chained P n next nearest s → s ≤ n → u ≤ s
    → ((t : ℕ) → u ≤ t → t < s → at P t < n → ⊥) → Chained P n next nearest u
chained_skip P n next nearest s u r most h nobody = record {
  long = r.long;
  wide = r.wide;
  behind = λ t k l i. r.behind t (up t k i) l i;
  inside = λ t k l i. r.inside t (up t k i) l i;
  same = λ t k l i. r.same t (up t k i) l i;
  between = λ t v k l i. r.between t v (up t k i) l i;
  from = λ c l. omega (arith, h, r.from c l);
  until = r.until;
  named = r.named;
  first = λ c v l k i e. r.first c v l (up v k (omega (arith, l, e))) i e;
}
  where
    up : (t : ℕ) → u ≤ t → at P t < n → s ≤ t
    up t k i = cases_of (ltb t s) (λ q. absurd (nobody t k (ltb-true t s q) i)) (λ q. ltb-false t s q)

module _ (P : List ℕ) (n : ℕ) (next nearest : List ℕ) (s c : ℕ) (r : Chained P n next nearest (s + 1)) (few : n ≤ 256) (h : s < n)
    (e : c ≡ at P s) (l : c < n) where
  abbrev next' : List ℕ
  next' = set next s (at nearest c)

  abbrev nearest' : List ℕ
  nearest' = set nearest c s

  here : at next' s ≡ at nearest c
  here = get_or-set_same next s (at nearest c) 0 (omega (arith, h, few, r.long))

  there : (t : ℕ) → (t ≡ s → ⊥) → at next' t ≡ at next t
  there t q = get_or-set_other next s t (at nearest c) 0 q

  near : at nearest' c ≡ s
  near = get_or-set_same nearest c s 0 (omega (arith, l, few, r.wide))

  far : (d : ℕ) → (d ≡ c → ⊥) → at nearest' d ≡ at nearest d
  far d q = get_or-set_other nearest c d s 0 q

  -- a state is s or behind it
  at_or_behind : (F : ℕ → Type 0) (t : ℕ) → s ≤ t → F s → ((t ≡ s → ⊥) → s + 1 ≤ t → F t) → F t
  at_or_behind F t k f g = cases_of (eqb t s) (λ q. rw (eqb-true t s q) f) (λ q. let z = eqb-false t s q in g z (omega arith))

  -- a name is c or another
  this_or_other : (F : ℕ → Type 0) (d : ℕ) → F c → ((d ≡ c → ⊥) → F d) → F d
  this_or_other F d f g = cases_of (eqb d c) (λ q. rw (eqb-true d c q) f) (λ q. g (eqb-false d c q))

  pub chained_more : Chained P n next' nearest' s
  chained_more = record {
    long = length-set next s (at nearest c) ∙ r.long;
    wide = length-set nearest c s ∙ r.wide;
    behind = λ t k. at_or_behind (λ t. t < n → at P t < n → t < at next' t) t k
        (λ m w. omega (arith, here, r.from c l))
        (λ z b m w. rw (there t z) (r.behind t b m w));
    inside = λ t k. at_or_behind (λ t. t < n → at P t < n → at next' t ≤ n) t k
        (λ m w. rw here (r.until c l))
        (λ z b m w. rw (there t z) (r.inside t b m w));
    same = λ t k. at_or_behind (λ t. t < n → at P t < n → at next' t < n → at P (at next' t) ≡ at P t) t k
        (λ m w i. ap (at P) here ∙ r.named c l (rw here at i) ∙ e)
        (λ z b m w i. ap (at P) (there t z) ∙ r.same t b m w (rw (there t z) at i));
    between = λ t u k. at_or_behind (λ t. t < n → at P t < n → t < u → u < at next' t → at P u ≡ at P t → ⊥) t k
        (λ m w b i q. r.first c u l (omega arith) (rw here at i) (q ∙ sym e))
        (λ z b m w a i. r.between t u b m w a (rw (there t z) at i));
    from = λ d k. this_or_other (λ d. s ≤ at nearest' d) d (omega (arith, near)) (λ z. omega (arith, far d z, r.from d k));
    until = λ d k. this_or_other (λ d. at nearest' d ≤ n) d (omega (arith, near, h)) (λ z. rw (far d z) (r.until d k));
    named = λ d k. this_or_other (λ d. at nearest' d < n → at P (at nearest' d) ≡ d) d
        (λ i. ap (at P) near ∙ sym e)
        (λ z i. ap (at P) (far d z) ∙ r.named d k (rw (far d z) at i));
    first = λ d u k b. this_or_other (λ d. u < at nearest' d → at P u ≡ d → ⊥) d (λ i q. omega (arith, near))
        (λ z i q. at_or_behind (λ u. u < at nearest d → at P u ≡ d → ⊥) u b
        (λ _ w. z (sym w ∙ sym e)) (λ _ y i. r.first d u k y i) (rw (far d z) at i) q);
  }

-- ---- listed states are linked, the last one first

-- the states from s on are linked, which the list has from place j on, and no earlier
pub record Linking (P live : List ℕ) (n : ℕ) (next nearest : List ℕ) (j : ℕ) : Type 0 where
  pub s : ℕ
  pub most : s ≤ n
  pub sooner : (i : ℕ) → i < j → i < length live → at live i < s
  pub later : (i : ℕ) → j ≤ i → i < length live → s ≤ at live i
  pub chained : Chained P n next nearest s

module _ (P live : List ℕ) (n : ℕ) (seated : Seated P live n) where
  pub linking_none : (next nearest : List ℕ) → n ≤ 256 → length next ≡ 256 → nearest ≡ replicate 256 n
      → Linking P live n next nearest (length live)
  linking_none next nearest few e q = record {
    s = n;
    most = omega arith;
    sooner = λ i h l. seated.rises.below i l;
    later = λ i h l. absurd (omega arith);
    chained = chained_none P n next nearest few e q;
  }

  module _ {next nearest : List ℕ} {j : ℕ} (r : Linking P live n next nearest j) where
    -- a state before s that is in a class stands before place j
    earlier : (t : ℕ) → t < r.s → at P t < n → (i : ℕ) × (i < j) × (i < length live) × (at live i ≡ t)
    earlier t h l =
        let p = among_at live t (seated.only t (omega (arith, h, r.most)) l) in
        (p.0, cases_of (ltb p.0 j) (λ q. ltb-true _ _ q) (λ q. absurd (omega (arith, h, p.2, r.later p.0 (ltb-false _ _ q) p.1))), p.1, p.2)

    pub linking_more : (few : n ≤ 256) (k t c : ℕ) → j ≡ k + 1 → k < length live → t ≡ at live k → c ≡ at P t
        → Linking P live n (set next t (at nearest c)) (set nearest c t) k
    linking_more few k t c e h is named =
        let low : t < n = omega (arith, is, seated.rises.below k h) in
        let seat : c < n = omega (arith, named, ap (at P) is, seated.all k h) in
        let none_between : (u : ℕ) → t + 1 ≤ u → u < r.s → at P u < n → ⊥ = λ u a b i.
        let p = earlier u b i in
        cases_of (ltb p.0 k)
        (λ q. omega (arith, a, is, p.3, seated.rises.rising p.0 k (ltb-true _ _ q) h))
        (λ q. let last : p.0 ≡ k = omega (arith, p.1, e, ltb-false p.0 k q) in omega (arith, a, is, p.3, ap (at live) last)) in
        let above : t + 1 ≤ r.s = omega (arith, is, r.sooner k (omega (arith, e)) h) in
        record {
          s = t;
          most = omega (arith, low);
          sooner = λ i a l. omega (arith, is, seated.rises.rising i k a h);
          later = λ i a l. cases_of (eqb i k)
              (λ q. omega (arith, is, ap (at live) (eqb-true i k q)))
              (λ q. omega (arith, is, seated.rises.rising k i (omega (arith, a, eqb-false i k q)) l));
          chained = chained_more P n next nearest t c
              (chained_skip P n next nearest r.s (t + 1) r.chained r.most above none_between) few low named seat;
        }

    pub linking_all : j ≤ 0 → Linked P n next
    linking_all z =
        let all = chained_skip P n next nearest r.s 0 r.chained r.most (omega arith)
        (λ t a b i. let p = earlier t b i in omega (arith, p.1)) in
        record {
          long = all.long;
          behind = λ t h. all.behind t (omega arith) h;
          inside = λ t h. all.inside t (omega arith) h;
          same = λ t h. all.same t (omega arith) h;
          between = λ t u h. all.between t u (omega arith) h;
        }
