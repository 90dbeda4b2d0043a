-- Laws of classes numbered, state by state. Assumes nothing.
use Prim.Native.Nat.{ℕ, ◌+◌, ◌≤◌, ◌<◌}
use mathlib.Core.Path.{◌≡◌, refl, sym, ap, ◌∙◌}
use mathlib.Core.List.{List, [], ◌∷◌, ◌++◌}
use native.Mathlib.Omega.{arith}
use native.Mathlib.Numerals.{add-one}
use lib.ListN.{length, set, take, drop, get_or-append}
use lib.Dec.{eqb}
use borrow.Author.Tests.{eq-eqb, ne_eqb}
use Rattle.bits.proofs.Parts.{store_more}
use Rattle.meaning.specs.Pick.{pick}
use Rattle.meaning.specs.Search.{count, tab, at}
use Rattle.meaning.specs.SearchLaws.{at_tab, length-tab, tab-snoc, count_hit, count_miss, at_take}
use Rattle.meaning.specs.Classes.{named, number}
use Rattle.meaning.proofs.Traced.{In, name_of_lem}
use Rattle.meaning.specs.Reduced.{name_of}
use Rattle.refusals.specs.Refusals.{laid}
use Rattle.numbering.specs.Names.{Names, new_number}

-- ---- names

module _ (names : List ℕ) (n : ℕ) (ok : Names n names) (s : ℕ) (h : s < n) (e : at names s ≡ 65535 → ⊥) where
  pub seat : In n (take n names) s
  seat = record { state = h; seat = ok.seated s h (λ z. e (sym (at_take names n s h) ∙ z)) }

  pub name_low : at names s ≤ s
  name_low = omega (arith, ok.right.low s h seat.seat, at_take names n s h)

-- the new number of a state that is in a class
pub number_in : (P : List ℕ) (s : ℕ) → (at P s ≡ 65535 → ⊥) → new_number P s ≡ number P s
unfolding new_number
number_in P s e = rw (ne_eqb (at P s) 65535 e)

-- and of one that is in none
number_out : (P : List ℕ) (s : ℕ) → at P s ≡ 65535 → new_number P s ≡ 65535
unfolding new_number
number_out P s e = rw (eq-eqb (at P s) 65535 e)

-- states of one class have one
number_same : (P : List ℕ) (s t : ℕ) → at P s ≡ at P t → new_number P s ≡ new_number P t
unfolding new_number number
number_same P s t e = ap (λ (c : ℕ). pick (eqb c 65535) 65535 (count (named P) c)) e

-- ---- classes numbered

-- a value stored behind those that are there, in a room
pub laid_more : (f : ℕ → ℕ) (room l : List ℕ) (s v : ℕ) → s < length room → l ≡ tab s f ++ drop s room → v ≡ f s → set l s v ≡ tab (s + 1) f ++ drop (s + 1) room
laid_more f room l s v h is e =
    ap (λ (l : List ℕ). set l s v) is ∙ store_more (tab s f) room s v (length-tab s f) h
    ∙ ap (λ (l : List ℕ). l ++ drop (s + 1) room) (ap (λ (z : ℕ). tab s f ++ (z ∷ [])) e ∙ sym (tab-snoc s f) ∙ ap (λ (z : ℕ). tab z f) (sym (add-one s)))

-- values that fill k entries of a room are laid into it
pub laid-all : (f : ℕ → ℕ) (room l : List ℕ) (s k : ℕ) → l ≡ tab s f ++ drop s room → s ≡ k → l ≡ laid (tab k f) room
laid-all f room l s k is e = is ∙ ap (λ (i : ℕ). tab i f ++ drop i room) e ∙ ap (λ (i : ℕ). tab k f ++ drop i room) (sym (length-tab k f))

-- The states before s have their numbers, and the k classes named so far their names.
pub record Numbering (n : ℕ) (P list₀ order₀ list order : List ℕ) (k s : ℕ) : Type 0 where
  pub counted : k ≡ count (named P) s
  pub few : k ≤ s
  pub list_is : list ≡ tab s (new_number P) ++ drop s list₀
  pub order_is : order ≡ tab k (name_of n P) ++ drop k order₀

pub numbering_begins : (n : ℕ) (P list₀ order₀ : List ℕ) → Numbering n P list₀ order₀ list₀ order₀ 0 0
unfolding count tab
numbering_begins n P list₀ order₀ = record { counted = refl; few = omega arith; list_is = refl; order_is = refl }

module _ (names : List ℕ) (n : ℕ) (ok : Names n names) (list₀ order₀ list order : List ℕ) (k s : ℕ) (r : Numbering n (take n names) list₀ order₀ list order k s) (h : s < n) (enough : n ≤ length list₀) where
  abbrev P : List ℕ
  P = take n names

  pub numbering_own : n ≤ length order₀ → at names s ≡ s → Numbering n P list₀ order₀ (set list s k) (set order k (at names s)) (k + 1) (s + 1)
  unfolding number
  numbering_own roomy e =
      let own : at P s ≡ s = at_take names n s h ∙ e in
      let mine : k ≡ number P s = r.counted ∙ ap (count (named P)) (sym own) in
      let few : n ≤ 256 = ok.few in
      let listed : k ≡ new_number P s = mine ∙ sym (number_in P s (λ z. omega (arith, own, h))) in
      let name : name_of n P k ≡ at P s = ap (name_of n P) mine ∙ name_of_lem n P ok.right s (seat names n ok s h (λ z. omega (arith, e, h))) in
      record {
        counted = ap (λ (z : ℕ). z + 1) r.counted ∙ sym (count_hit (named P) s (eq-eqb _ _ own));
        few = omega (arith, r.few);
        list_is = laid_more (new_number P) list₀ list s k (omega arith) r.list_is listed;
        order_is = laid_more (name_of n P) order₀ order k (at names s) (omega (arith, r.few)) r.order_is (e ∙ sym own ∙ sym name);
      }

  pub numbering_none : at names s ≡ 65535 → Numbering n P list₀ order₀ (set list s (at names s)) order k (s + 1)
  numbering_none e =
      let few : n ≤ 256 = ok.few in
      let is : at P s ≡ 65535 = at_take names n s h ∙ e in
      record {
        counted = r.counted ∙ sym (count_miss (named P) s (ne_eqb (at P s) s (λ z. omega (arith, h, is))));
        few = omega (arith, r.few);
        list_is = laid_more (new_number P) list₀ list s (at names s) (omega arith) r.list_is (e ∙ sym (number_out P s is));
        order_is = r.order_is;
      }

  pub numbering_other : (at names s ≡ s → ⊥) → (at names s ≡ 65535 → ⊥) → Numbering n P list₀ order₀ (set list s (at list (at names s))) order k (s + 1)
  numbering_other e some-class =
      let is : at P s ≡ at names s = at_take names n s h in
      let other : at P s ≡ s → ⊥ = λ z. e (sym is ∙ z) in
      let below : at P s < s = omega (arith, name_low names n ok s h some-class, is, other) in
      let read : at list (at names s) ≡ new_number P s =
      ap (at list) (sym is) ∙ ap (λ (l : List ℕ). at l (at P s)) r.list_is
      ∙ get_or-append (tab s (new_number P)) (drop s list₀) 0 (at P s) (omega (arith, length-tab s (new_number P)))
      ∙ at_tab s (new_number P) (at P s) below ∙ number_same P (at P s) s (ok.right.own s h (seat names n ok s h some-class).seat) in
      record {
        counted = r.counted ∙ sym (count_miss (named P) s (ne_eqb _ _ other));
        few = omega (arith, r.few);
        list_is = laid_more (new_number P) list₀ list s (at list (at names s)) (omega arith) r.list_is read;
        order_is = r.order_is;
      }
