-- Laws of edges gathered, member by member. Assumes nothing.
use Prim.Native.Nat.{ℕ, zero, suc, ◌+◌, ◌≤◌, ◌<◌}
use mathlib.Core.Path.{◌≡◌, refl, sym, ap, ap₂, ◌∙◌, subst}
use mathlib.Core.Bool.{Bool, true, false, ◌&&◌}
use mathlib.Core.List.{List}
use mathlib.Core.Option.{Option, none, some}
use native.Mathlib.Omega.{arith}
use native.Mathlib.Numerals.{add-one}
use lib.Dec.{eqb, ltb}
use lib.ListN.{length, take}
use borrow.Author.Tests.{eqb-true, eqb-false, eq-eqb, ne_eqb, ltb-true, ltb-false}
use Rattle.meaning.specs.Pick.{pick}
use Rattle.meaning.specs.Search.{least, at}
use Rattle.meaning.specs.SearchLaws.{least_ok, least_is, least-below, least_none, least_empty, least_max, at_take}
use Rattle.meaning.specs.Cases.{cases_of, and_left, and_right, no_both}
use Rattle.meaning.specs.Reduced.{has}
use Rattle.table.specs.Table.{Table, look, or, given, Gave}
use Rattle.numbering.specs.Names.{Names}
use Rattle.numbering.proofs.Laws.{name_low}
use Rattle.merging.specs.Merged.{Gathered}

or_none : (o : Option ℕ) → or o none ≡ o
or_none none = refl
or_none (some t) = refl

or_some : (o q : Option ℕ) → has o ≡ true → or o q ≡ o
or_some none q h = no_both {b = false} h refl
or_some (some t) q h = refl

has_none : (o : Option ℕ) → has o ≡ false → o ≡ none
has_none none h = refl
has_none (some t) h = no_both {b = true} refl h

module _ (next : ℕ → ℕ → Option ℕ) (P : List ℕ) where
  -- the edge that state s brings to class c
  abbrev brings : ℕ → ℕ → ℕ → Option ℕ
  brings c y s = pick (eqb (at P s) c) (next s y) none

  -- the edge of class c at label y, by its members below s
  pub seen : ℕ → ℕ → ℕ → Option ℕ
  seen c y zero = none
  seen c y (suc s) = or (seen c y s) (brings c y s)

  brings_in : (c y s : ℕ) → at P s ≡ c → brings c y s ≡ next s y
  brings_in c y s h = rw (eq-eqb _ _ h)

  brings_out : (c y s : ℕ) → (at P s ≡ c → ⊥) → brings c y s ≡ none
  brings_out c y s h = rw (ne_eqb _ _ h)

  -- a class has no member below its name
  seen_none : (c y s : ℕ) → ((t : ℕ) → t < s → at P t ≡ c → ⊥) → seen c y s ≡ none
  unfolding seen
  seen_none c y zero h = refl
  seen_none c y (suc s) h = rw (seen_none c y s (λ t l. h t (omega arith)), brings_out c y s (h s (omega arith)))

  module _ (c y : ℕ) where
    abbrev member : ℕ → Bool
    member s = eqb (at P s) c && has (next s y)

    -- what is seen is the edge of the first member that has one
    record First (k : ℕ) : Type 0 where
      found : least member k < k → seen c y k ≡ next (least member k) y
      nobody : k ≤ least member k → seen c y k ≡ none

    first : (k : ℕ) → First k
    unfolding seen
    first zero = record { found = λ l. absurd (omega arith); nobody = λ l. refl }
    first (suc k) = cases_of (ltb (least member k) k)
        (λ q. let l = ltb-true (least member k) k q in
        let ok = least_ok member k l in
        let j = least member k in
        let same : least member (suc k) ≡ j = least_is member (suc k) j (omega arith) ok (λ i h. least-below member k i h) in
        let is = (first k).found l in
        let some-edge : has (next j y) ≡ true = and_right (eqb (at P j) c) (has (next j y)) ok in
        record {
          found = λ _. ap (λ (o : Option ℕ). or o (brings c y k)) is ∙ or_some (next j y) (brings c y k) some-edge ∙ ap (λ (i : ℕ). next i y) (sym same);
          nobody = λ h. absurd (omega (arith, same));
        })
        (λ q. let g = ltb-false (least member k) k q in
        let start : seen c y (suc k) ≡ brings c y k = ap (λ (o : Option ℕ). or o (brings c y k)) ((first k).nobody g) in
        cases_of (member k)
        (λ e. let same : least member (suc k) ≡ k = least_is member (suc k) k (omega arith) e (λ i h. least_none member k i g h) in
        record {
          found = λ _. start ∙ brings_in c y k (eqb-true _ _ (and_left (eqb (at P k) c) (has (next k y)) e)) ∙ ap (λ (i : ℕ). next i y) (sym same);
          nobody = λ h. absurd (omega (arith, same));
        })
        (λ e. record {
          found = λ h. absurd (omega (
            arith,
            least_empty member (suc k) (λ i l. cases_of (eqb i k)
                (λ z. subst (λ (j : ℕ). member j ≡ false) (sym (eqb-true i k z)) e)
                (λ z. least_none member k i g (omega (arith, eqb-false i k z)))),
          ));
          nobody = λ _. start ∙ cases_of (eqb (at P k) c)
              (λ z. brings_in c y k (eqb-true _ _ z) ∙ has_none (next k y) (rw z at e))
              (λ z. brings_out c y k (eqb-false _ _ z));
        }))

    pub seen_first : (n : ℕ) → next n y ≡ none → seen c y n ≡ next (least member n) y
    seen_first n z = cases_of (ltb (least member n) n)
        (λ q. (first n).found (ltb-true _ _ q))
        (λ q. let g = ltb-false (least member n) n q in
        let all : least member n ≡ n = omega (arith, g, least_max member n) in
        (first n).nobody g ∙ sym (ap (λ (i : ℕ). next i y) all ∙ z))

-- The members before s have given their edges to their classes.
pub record Gathering (T₀ : Table) (P : List ℕ) (T : Table) (s : ℕ) : Type 0 where
  pub done : (c y : ℕ) → c < s → at P c ≡ c → look T c y ≡ seen (look T₀) P c y s
  pub later : (c y : ℕ) → s ≤ c → look T c y ≡ look T₀ c y
  pub rows : length T ≡ length T₀

pub gathering_begins : (T : Table) (P : List ℕ) → Gathering T P T 0
gathering_begins T P = record { done = λ c y h. absurd (omega arith); later = λ c y h. refl; rows = refl }

module _ (T₀ T : Table) (names : List ℕ) (n : ℕ) (ok : Names n names) (s : ℕ) (r : Gathering T₀ (take n names) T s) (h : s < n) where
  abbrev Q : List ℕ
  Q = take n names

  abbrev next : ℕ → ℕ → Option ℕ
  next = look T₀

  miss : (c y : ℕ) → c < s → at Q c ≡ c → (at Q s ≡ c → ⊥) → look T c y ≡ seen next Q c y (suc s)
  unfolding seen
  miss c y l o e = r.done c y l o ∙ sym (rw (brings_out next Q c y s e) (or_none (seen next Q c y s)))

  pub gathering_own : at names s ≡ s → Gathering T₀ Q T (s + 1)
  unfolding seen
  gathering_own e =
      let own : at Q s ≡ s = at_take names n s h ∙ e in
      let few : n ≤ 256 = ok.few in
      let first : (t : ℕ) → t < s → at Q t ≡ s → ⊥ = λ t u v.
      let is = at_take names n t (omega (arith, u, h)) in
      omega (arith, u, v, is, name_low names n ok t (omega (arith, u, h)) (λ z. omega (arith, z, v, is, h))) in
      rw (add-one s) (record {
        done = λ c y l o. cases_of (eqb c s)
            (λ z. let z' = eqb-true c s z in
            subst (λ (i : ℕ). look T i y ≡ seen next Q i y (suc s)) (sym z')
            (r.later s y (omega arith) ∙ sym (rw (brings_in next Q s y s own, seen_none next Q s y s first))))
            (λ z. let z' = eqb-false c s z in miss c y (omega (arith, z')) o (λ i. z' (sym i ∙ own)));
        later = λ c y l. r.later c y (omega arith);
        rows = r.rows;
      })

  -- a state in no class gives nothing
  pub gathering_none : at names s ≡ 65535 → Gathering T₀ Q T (s + 1)
  gathering_none e =
      let few : n ≤ 256 = ok.few in
      let none_there : at Q s ≡ 65535 = at_take names n s h ∙ e in
      rw (add-one s) (record {
        done = λ c y l o. cases_of (eqb c s)
            (λ z. let z' = eqb-true c s z in absurd (omega (arith, h, none_there, ap (at Q) z', z', o)))
            (λ z. miss c y (omega (arith, l, eqb-false c s z)) o (λ i. omega (arith, l, h, i, none_there)));
        later = λ c y l. r.later c y (omega arith);
        rows = r.rows;
      })

  pub gathering_given : (T' : Table) → (at names s ≡ s → ⊥) → (at names s ≡ 65535 → ⊥) → Gave T T' s (at names s) → Gathering T₀ Q T' (s + 1)
  unfolding seen given
  gathering_given T' e some-class gave =
      let d = at names s in
      let name : at Q s ≡ d = at_take names n s h in
      let below : d < s = omega (arith, name_low names n ok s h some-class, e) in
      let at' : (c y : ℕ) → look T' c y ≡ given (look T) s d c y = λ c y. ap (λ (f : ℕ → ℕ → Option ℕ). f c y) gave.edges in
      let apart : (c y : ℕ) → (c ≡ d → ⊥) → look T' c y ≡ look T c y = λ c y z. at' c y ∙ rw (ne_eqb c d z) in
      rw (add-one s) (record {
        done = λ c y k o. cases_of (eqb c d)
            (λ z. let z' = eqb-true c d z in
            subst (λ (i : ℕ). look T' i y ≡ seen next Q i y (suc s)) (sym z')
            (at' d y ∙ rw (eq-eqb d d refl)
            (ap₂ or (r.done d y below (ap (at Q) (sym z') ∙ o ∙ z')) (r.later s y (omega arith)) ∙ sym (rw (brings_in next Q d y s name)))))
            (λ z. let z' = eqb-false c d z in
            let other : c ≡ s → ⊥ = λ i. e (sym name ∙ ap (at Q) (sym i) ∙ o ∙ i) in
            apart c y z' ∙ miss c y (omega (arith, other)) o (λ i. z' (sym i ∙ name)));
        later = λ c y k. apart c y (λ z. omega arith) ∙ r.later c y (omega arith);
        rows = gave.rows ∙ r.rows;
      })

pub gathering_ends : (T₀ T : Table) (P : List ℕ) (n : ℕ) → ((y : ℕ) → look T₀ n y ≡ none) → Gathering T₀ P T n → Gathered T₀ T n P
gathering_ends T₀ T P n out r = record { edges = λ c y h o. r.done c y h o ∙ seen_first (look T₀) P c y n (out y); rows = r.rows }
