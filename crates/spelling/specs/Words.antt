-- Laws of fixed words: how far a word and a text agree, and a piece that stands at a place of a text.
-- Assumes nothing.
use Rattle.std.specs.Prelude.{ℕ, suc, ◌+◌, ◌≤◌, ◌<◌, ◌≡◌, refl, false, List, [], ◌∷◌, ◌++◌, eqb, ltb, length, take, drop, get_or}
use Rattle.std.proofs.Common.{sym, ap, ◌∙◌, append_assoc, arith, length-append, length-drop, take-append-drop, drop-drop, get_or-take, eqb-true, eq-eqb, ltb-false}
use Rattle.std.proofs.Math.Seq.{take-length, drop-append_seam}
use Rattle.std.proofs.lemmas.Bool.{eqb-false}
use Rattle.meaning.specs.Cases.{impossible, cases_of}
use Rattle.spelling.specs.Spelling.{common, matched}

-- ---- a word and a text

pub common_most : (word text : List ℕ) → (common word text ≤ length word) × (common word text ≤ length text)
unfolding common
common_most [] text = (omega arith, omega arith)
common_most (w ∷ word) [] = (omega arith, omega arith)
common_most (w ∷ word) (b ∷ text) =
    let m = common_most word text in
    cases_of (eqb b w) (λ q. rw q (omega (arith, m.0), omega (arith, m.1))) (λ q. rw q (omega arith, omega arith))

-- what they have in common is the same in both
pub common-take : (word text : List ℕ) → take (common word text) text ≡ take (common word text) word
unfolding common
common-take [] text = refl
common-take (w ∷ word) [] = refl
common-take (w ∷ word) (b ∷ text) =
    cases_of (eqb b w) (λ q. rw (q, eqb-true b w q) (ap {B = List ℕ} (λ l. w ∷ l) (common-take word text))) (λ q. rw q)

pub common_whole : (word text : List ℕ) → common word text ≡ length word → text ≡ word ++ drop (length word) text
common_whole word text h =
    let same : take (length word) text ≡ word = (rw h at (common-take word text)) ∙ take-length word in
    sym (take-append-drop (length word) text) ∙ ap (λ (l : List ℕ). l ++ drop (length word) text) same

pub common_of : (word text : List ℕ) → common word (word ++ text) ≡ length word
unfolding common
common_of [] text = refl
common_of (w ∷ word) text = rw (eq-eqb w w refl) (ap suc (common_of word text))

-- no text that begins with the word agrees further
pub common_miss : (word text rest : List ℕ) → common word text < length word →
    take (suc (common word text)) text ≡ take (suc (common word text)) (word ++ rest) → ⊥
unfolding common
common_miss [] text rest h e = omega arith
common_miss (w ∷ word) [] rest h e = impossible (cc)
common_miss (w ∷ word) (b ∷ text) rest h e = cases_of (eqb b w)
    (λ q. let f = rw q at e in common_miss word text rest (let l = rw q at h in omega arith) (cc))
    (λ q. let f = rw q at e in eqb-false b w q (cc))

-- the byte where they part
pub common_byte : (word text : List ℕ) → common word text < length word → common word text < length text →
    eqb (get_or text (common word text) 0) (get_or word (common word text) 0) ≡ false
unfolding common
common_byte [] text h l = absurd (omega arith)
common_byte (w ∷ word) [] h l = absurd (omega arith)
common_byte (w ∷ word) (b ∷ text) h l = cases_of (eqb b w)
    (λ q. rw q (common_byte word text (let h' = rw q at h in omega arith) (let l' = rw q at l in omega arith)))
    (λ q. rw q q)

-- two texts that agree up to a place
pub same_byte : (text other : List ℕ) (j i : ℕ) → take (suc j) other ≡ take (suc j) text → i ≤ j → get_or other i 0 ≡ get_or text i 0
same_byte text other j i e h =
    let l : i < suc j = omega arith in
    sym (get_or-take (suc j) other i 0 l) ∙ ap (λ (s : List ℕ). get_or s i 0) e ∙ get_or-take (suc j) text i 0 l

-- ---- a piece of a text

-- A piece stands in a text from one place to another.
pub record Stands (text : List ℕ) (at : ℕ) (piece : List ℕ) (end : ℕ) : Type 0 where
  pub ends : end ≡ at + length piece
  pub is : drop at text ≡ piece ++ drop end text

pub behind_of : (text : List ℕ) (at : ℕ) (piece rest : List ℕ) → drop at text ≡ piece ++ rest → drop (at + length piece) text ≡ rest
behind_of text at piece rest e = sym (drop-drop (length piece) at text) ∙ ap (drop (length piece)) e ∙ drop-append_seam piece rest

pub stands_of : (text : List ℕ) (at : ℕ) (piece rest : List ℕ) → drop at text ≡ piece ++ rest → Stands text at piece (at + length piece)
stands_of text at piece rest e = record { ends = refl; is = rw (behind_of text at piece rest e) e }

pub stands-inside : {text : List ℕ} {at : ℕ} {piece : List ℕ} {end : ℕ} → Stands text at piece end → at ≤ length text → end ≤ length text
stands-inside {text} {at} {piece} {end} s h =
    omega (arith, s.ends, ap length s.is ∙ length-append piece (drop end text), length-drop at text)

pub stands_then : {text : List ℕ} {at : ℕ} {a : List ℕ} {mid : ℕ} {b : List ℕ} {end : ℕ} → Stands text at a mid → Stands text mid b end →
    Stands text at (a ++ b) end
stands_then {text} {at} {a} {mid} {b} {end} s t = record {
  ends = omega (arith, s.ends, t.ends, length-append a b);
  is = s.is ∙ rw t.is (sym (append_assoc a b (drop end text)));
}

pub stands-split : {text : List ℕ} {at end : ℕ} (a b : List ℕ) → Stands text at (a ++ b) end →
    Stands text at a (at + length a) × Stands text (at + length a) b end
stands-split {text} {at} {end} a b s =
    let rest = b ++ drop end text in
    let e : drop at text ≡ a ++ rest = s.is ∙ append_assoc a b (drop end text) in
    (stands_of text at a rest e, record { ends = omega (arith, s.ends, length-append a b); is = behind_of text at a rest e })

-- ---- a word at a place

pub matched-inside : (text : List ℕ) (at : ℕ) (word : List ℕ) → at ≤ length text → at + matched text at word ≤ length text
matched-inside text at word h = omega (arith, (common_most word (drop at text)).1, length-drop at text)

pub matched_whole : (text : List ℕ) (at : ℕ) (word : List ℕ) → matched text at word ≡ length word → Stands text at word (at + length word)
matched_whole text at word h = stands_of text at word _ (common_whole word (drop at text) h)

-- by the reader's test
pub matched-stands : (text : List ℕ) (at : ℕ) (word : List ℕ) → ltb (matched text at word) (length word) ≡ false → Stands text at word (at + length word)
matched-stands text at word h =
    matched_whole text at word (omega (arith, ltb-false (matched text at word) (length word) h, (common_most word (drop at text)).0))

pub matched_of : {text : List ℕ} {at : ℕ} {word : List ℕ} {end : ℕ} → Stands text at word end → matched text at word ≡ length word
matched_of {text} {at} {word} {end} s = rw s.is (common_of word (drop end text))
