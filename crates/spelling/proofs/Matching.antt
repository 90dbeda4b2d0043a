-- A word compared with a text byte by byte.
-- Assumes nothing.
use Rattle.std.proofs.Common.{◌≡◌, ℕ, ◌-◌, Bool, true, false, List, [], ◌∷◌, ◌++◌, eqb, length, take, drop, refl, sym, ap, ◌∙◌, eq-eqb, ne_eqb, length-drop, arith}
use Rattle.std.proofs.Math.Seq.{take-length}
use Rattle.std.specs.List.{zip, prefix_len}
use Rattle.std.proofs.lemmas.Bool.{false≢true}
use Rattle.std.proofs.lemmas.List.Folds.{length-prefix_len}
use Rattle.meaning.specs.Cases.{cases_of}
use Rattle.spelling.specs.Spelling.{common}
use Rattle.spelling.specs.Words.{common_whole, common_of}

-- the end of a text as it is lent
pub lent_end : (text : List ℕ) (at : ℕ) → take (length text - at) (drop at text) ≡ drop at text
lent_end text at = ap (λ (n : ℕ). take n (drop at text)) (sym (length-drop at text)) ∙ take-length (drop at text)

-- a byte of a text and the one of a word that is looked for there
abbrev pub same : ℕ × ℕ → Bool
same pair = eqb pair.0 pair.1

-- pairs of bytes agree as far as the word and the text do
pairs_common : (word text : List ℕ) → prefix_len same (zip text word) ≡ common word text
unfolding common
pairs_common [] [] = refl
pairs_common [] (b ∷ text) = refl
pairs_common (w ∷ word) [] = refl
pairs_common (w ∷ word) (b ∷ text) =
    cases_of (eqb b w) (λ q. rw (q, pairs_common word text) (omega arith)) (λ q. rw q)

pub matched_is : (word text : List ℕ) → length (take (prefix_len same (zip text word)) (zip text word)) ≡ common word text
matched_is word text = length-prefix_len same (zip text word) ∙ pairs_common word text

-- a text begins with a word where all of the word's bytes agree
pub stands_is : (word text : List ℕ) (told : Bool) → (told ≡ true → text ≡ word ++ drop (length word) text) × ((rest : List ℕ) → text ≡ word ++ rest → told ≡ true) →
    told ≡ eqb (common word text) (length word)
stands_is word text true h = sym (eq-eqb _ _ (ap (common word) (h.0 refl) ∙ common_of word (drop (length word) text)))
stands_is word text false h = sym (ne_eqb _ _ (λ e. false≢true (h.1 _ (common_whole word text e))))
