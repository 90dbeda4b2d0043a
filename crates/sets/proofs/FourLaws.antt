-- Laws of sets in four words, from those of one word. Assumes nothing.
use Prim.Native.Nat.{ℕ, zero, suc, ◌+◌, ◌*◌, ◌-◌, ◌/◌, ◌%◌, ◌≤◌, ◌<◌}
use mathlib.Core.Path.{◌≡◌, refl, sym, ap, ap₂, ◌∙◌}
use mathlib.Core.Bool.{Bool, true, false, not, ◌&&◌, ◌||◌}
use mathlib.Core.List.{List}
use native.Mathlib.Decide.{dec_lt, ℕ_discrete}
use native.Mathlib.Omega.{arith}
use lib.Dec.{eqb}
use lib.ListN.{get_or, set, length, replicate, get_or-eq_default}
use lib.Seq.{get_or-set_same, get_or-set_other}
use borrow.Author.Tests.{eq-eqb, ne_eqb, not-true, not-false}
use Rattle.sets.specs.Sets.{holds, Lowest, contains, Missing}
use Rattle.sets.proofs.Laws.{holds_none}

-- the number of word w that is k there
contains_at : (words : List ℕ) (w k j : ℕ) → k < 64 → j ≡ w * 64 + k → contains words j ≡ holds (get_or words w 0) k
unfolding contains
contains_at words w k j l e =
    let word : j / 64 ≡ w = omega arith in
    let there : j % 64 ≡ k = omega arith in
    ap₂ (λ (a b : ℕ). holds (get_or words a 0) b) word there

-- ---- no number, one more

-- words that are all 0
pub blank : (n i : ℕ) → get_or {A = ℕ} (replicate n 0) i 0 ≡ 0
blank zero i = refl
blank (suc n) zero = refl
blank (suc n) (suc i) = blank n i

pub contains_none : (n k : ℕ) → contains (replicate n 0) k ≡ false
unfolding contains
contains_none n k = rw (blank n (k / 64)) (holds_none (k % 64))

-- word w has number k more: what each word has
pub words_with : (words : List ℕ) (w k x : ℕ) → w < length words → ((i : ℕ) → holds x i ≡ (eqb k i || holds (get_or words w 0) i))
    → (v j : ℕ) → holds (get_or (set words w x) v 0) j ≡ ((eqb w v && eqb k j) || holds (get_or words v 0) j)
words_with words w k x l more v j = go (ℕ_discrete w v)
  where
    go : Dec (w ≡ v) → holds (get_or (set words w x) v 0) j ≡ ((eqb w v && eqb k j) || holds (get_or words v 0) j)
    go (yes e) = rw (← e, get_or-set_same words w x 0 l, eq-eqb w w refl) (more j)
    go (no e) = rw (get_or-set_other words w v x 0 (λ z. e (sym z)), ne_eqb w v e)

-- a number is the one that is as far on in the same word
same_place : (k j : ℕ) → (eqb (k / 64) (j / 64) && eqb (k % 64) (j % 64)) ≡ eqb k j
same_place k j = go (ℕ_discrete k j) (ℕ_discrete (k / 64) (j / 64))
  where
    go : Dec (k ≡ j) → Dec (k / 64 ≡ j / 64) → (eqb (k / 64) (j / 64) && eqb (k % 64) (j % 64)) ≡ eqb k j
    go (yes q) _ = rw (q, eq-eqb j j refl, eq-eqb (j / 64) (j / 64) refl, eq-eqb (j % 64) (j % 64) refl)
    go (no q) (no e) = rw (ne_eqb k j q, ne_eqb (k / 64) (j / 64) e)
    go (no q) (yes e) = rw (ne_eqb k j q, eq-eqb (k / 64) (j / 64) e, ne_eqb (k % 64) (j % 64) (λ z. q (omega arith)))

pub contains_with : (words : List ℕ) (k x : ℕ) → k / 64 < length words
    → ((i : ℕ) → holds x i ≡ (eqb (k % 64) i || holds (get_or words (k / 64) 0) i))
    → (j : ℕ) → contains (set words (k / 64) x) j ≡ (eqb k j || contains words j)
unfolding contains
contains_with words k x l more j =
    words_with words (k / 64) (k % 64) x l more (j / 64) (j % 64)
    ∙ ap (λ (b : Bool). b || holds (get_or words (j / 64) 0) (j % 64)) (same_place k j)

-- ---- the smallest that is missing

-- the words before word w have all their numbers
abbrev pub Full : List ℕ → ℕ → Type 0
Full words w = (j : ℕ) → j < w * 64 → contains words j ≡ true

-- `free` is what word w has not
module _ (words : List ℕ) (w free : ℕ) (full : Full words w)
    (other : (i : ℕ) → i < 64 → holds free i ≡ not (holds (get_or words w 0) i)) where
  -- so far as `free` has nothing, the word has all
  full_until : (k : ℕ) → k ≤ 64 → ((i : ℕ) → i < k → holds free i ≡ false) → (j : ℕ) → j < w * 64 + k → contains words j ≡ true
  full_until k l none j h = go (dec_lt j (w * 64))
    where
      go : Dec (j < w * 64) → contains words j ≡ true
      go (yes b) = full j b
      go (no b) =
          let i = j - w * 64 in
          let below : i < k = omega arith in
          contains_at words w i j (omega arith) (omega arith) ∙ not-false _ (sym (other i (omega arith)) ∙ none i below)

  pub full_more : free ≡ 0 → Full words (w + 1)
  full_more e j h = full_until 64 (omega arith) (λ i _. ap (λ (x : ℕ). holds x i) e ∙ holds_none i) j (omega arith)

  pub missing_here : (k : ℕ) → k < 64 → Lowest free k → Missing words (w * 64 + k)
  missing_here k l lowest = record {
    gone = contains_at words w k _ l refl ∙ not-true _ (sym (other k l) ∙ lowest.there);
    below = full_until k (omega arith) lowest.below;
  }

-- where all words are full there is nothing behind them
pub missing_behind : (words : List ℕ) → length words ≡ 4 → Full words 4 → Missing words 256
missing_behind words l full = record {
  gone = contains_at words 4 0 256 (omega arith) refl ∙ rw (get_or-eq_default words 0 {n = 4} (omega arith)) (holds_none 0);
  below = full;
}
