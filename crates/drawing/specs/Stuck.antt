-- How far a text goes along with a set of texts: the place is found word by word and number by number.
-- Assumes nothing.
use Rattle.std.specs.Prelude.{ℕ, zero, suc, ◌+◌, ◌≤◌, ◌<◌, ◌≡◌, refl, true, false, List, [], ◌∷◌, ◌++◌, eqb, ltb, length, take, drop, get_or}
use Rattle.std.proofs.Common.{sym, ap, ◌∙◌, append_assoc, arith, length-append, take-append-drop, take_at, length-take-le, eqb-true, ltb-true}
use Rattle.std.proofs.Math.Seq.{take-append-add, drop-append_seam}
use Rattle.std.proofs.lemmas.Bool.{eqb-false}
use Rattle.text.specs.Decimal.{decimal}
use Rattle.spelling.specs.declared.Number.{Number}
use Rattle.spelling.specs.Spelling.{common, matched, digit_of, number_at}
use Rattle.spelling.specs.Words.{Stands, common_most, common-take, common_miss, same_byte}
use Rattle.spelling.specs.Numbers.{decimal_some, number_sound, number_same}
use Rattle.drawing.specs.Profile.{Begins, Longest}

-- ---- sets of texts

-- k bytes of a text are the beginning of a text of the set, and no text of the set agrees with it further: in the next byte, or in
-- having none.
pub record Stuck (Texts : List ℕ → Type 0) (text : List ℕ) (k : ℕ) : Type 0 where
  pub inside : k ≤ length text
  pub begins : Begins Texts (take k text)
  pub never : (u : List ℕ) → Texts u → take (suc k) u ≡ take (suc k) text → ⊥

-- a set with the same texts, as far as they agree with the text
pub stuck_as : {A B : List ℕ → Type 0} {text : List ℕ} {k : ℕ} → ((u : List ℕ) → A u → B u) →
    ((u : List ℕ) → B u → take (suc k) u ≡ take (suc k) text → A u) → Stuck A text k → Stuck B text k
stuck_as f g s = record {
  inside = s.inside;
  begins = record { rest = s.begins.rest; whole = f _ s.begins.whole };
  never = λ u b e. s.never u (g u b e) e;
}

pub stuck_longest : {Texts : List ℕ → Type 0} {text : List ℕ} {k : ℕ} → Stuck Texts text k → Longest Texts text k
stuck_longest {text = text} {k} s = record {
  inside = s.inside;
  begins = s.begins;
  no_more = λ h b. s.never (take (suc k) text ++ b.rest) b.whole (take_at (take (suc k) text) b.rest (suc k) (length-take-le (suc k) text h));
}

-- Texts of a set with a word in front.
pub record Word (word : List ℕ) (Texts : List ℕ → Type 0) (text : List ℕ) : Type 0 where
  pub rest : List ℕ
  pub more : Texts rest
  pub whole : text ≡ word ++ rest

-- A number, and then a text of the number's set.
pub record Numbered (Texts : ℕ → List ℕ → Type 0) (text : List ℕ) : Type 0 where
  pub value : ℕ
  pub rest : List ℕ
  pub small : value < 1000
  pub more : Texts value rest
  pub whole : text ≡ decimal value ++ rest

-- No text of these begins with a digit.
abbrev pub Clean : (ℕ → List ℕ → Type 0) → Type 0
Clean Texts = (n : ℕ) (u : List ℕ) → Texts n u → digit_of (get_or u 0 0) ≡ 10

pub a_word : (word rest : List ℕ) {Texts : List ℕ → Type 0} → Texts rest → Word word Texts (word ++ rest)
a_word word rest x = record { rest = rest; more = x; whole = refl }

pub a_number : (n : ℕ) (rest : List ℕ) {Texts : ℕ → List ℕ → Type 0} → n < 1000 → Texts n rest → Numbered Texts (decimal n ++ rest)
a_number n rest h x = record { value = n; rest = rest; small = h; more = x; whole = refl }

pub some_word : (word : List ℕ) {Texts : List ℕ → Type 0} → Begins Texts [] → Begins (Word word Texts) []
some_word word b = record { rest = word ++ b.rest; whole = a_word word b.rest b.whole }

pub some_number : (n : ℕ) {Texts : ℕ → List ℕ → Type 0} → n < 1000 → Begins (Texts n) [] → Begins (Numbered Texts) []
some_number n h b = record { rest = decimal n ++ b.rest; whole = a_number n b.rest h b.whole }

-- ---- words

behind_word : (word a b : List ℕ) (k : ℕ) → take (suc (length word + k)) (word ++ a) ≡ take (suc (length word + k)) (word ++ b) →
    take (suc k) a ≡ take (suc k) b
behind_word word a b k e =
    let n : suc (length word + k) ≡ length word + suc k = omega arith in
    let f : word ++ take (suc k) a ≡ word ++ take (suc k) b = rw (n, take-append-add word a (suc k), take-append-add word b (suc k)) at e in
    sym (drop-append_seam word (take (suc k) a)) ∙ ap (drop (length word)) f ∙ drop-append_seam word (take (suc k) b)

stuck_word : (word : List ℕ) {Texts : List ℕ → Type 0} {text : List ℕ} {k : ℕ} → Stuck Texts text k → Stuck (Word word Texts) (word ++ text) (length word + k)
stuck_word word {text = text} {k} s = record {
  inside = omega (arith, length-append word text, s.inside);
  begins = rw (take-append-add word text k) (record {
    rest = s.begins.rest;
    whole = record { rest = take k text ++ s.begins.rest; more = s.begins.whole; whole = append_assoc word (take k text) s.begins.rest };
  });
  never = λ u x e. s.never x.rest x.more (behind_word word x.rest text k (rw x.whole at e));
}

stuck_miss : (word : List ℕ) {Texts : List ℕ → Type 0} (text : List ℕ) → Begins Texts [] → common word text < length word →
    Stuck (Word word Texts) text (common word text)
stuck_miss word text b h =
    let k = common word text in
    record {
      inside = (common_most word text).1;
      begins = record {
        rest = drop k word ++ b.rest;
        whole = record {
          rest = b.rest;
          more = b.whole;
          whole = rw (common-take word text) (sym (append_assoc (take k word) (drop k word) b.rest) ∙ rw (take-append-drop k word));
        };
      };
      never = λ u x e. common_miss word text x.rest h (sym (rw x.whole at e));
    }

-- ---- places of a text

-- From one place on a text goes along with a set up to another place.
pub record StuckAt (Texts : List ℕ → Type 0) (text : List ℕ) (at place : ℕ) : Type 0 where
  pub steps : ℕ
  pub is : place ≡ at + steps
  pub stuck : Stuck Texts (drop at text) steps

pub at_as : {A B : List ℕ → Type 0} {text : List ℕ} {at place : ℕ} → ((u : List ℕ) → A u → B u) → (x : StuckAt A text at place) →
    ((u : List ℕ) → B u → take (suc x.steps) u ≡ take (suc x.steps) (drop at text) → A u) → StuckAt B text at place
at_as f x g = record { steps = x.steps; is = x.is; stuck = stuck_as f g x.stuck }

pub at_word : {Texts : List ℕ → Type 0} {text : List ℕ} {at place end : ℕ} {word : List ℕ} → Stands text at word end → StuckAt Texts text end place →
    StuckAt (Word word Texts) text at place
at_word {word = word} s x = record {
  steps = length word + x.steps;
  is = omega (arith, s.ends, x.is);
  stuck = rw s.is (stuck_word word x.stuck);
}

pub at_miss : {Texts : List ℕ → Type 0} (text : List ℕ) (at : ℕ) (word : List ℕ) → Begins Texts [] → ltb (matched text at word) (length word) ≡ true →
    StuckAt (Word word Texts) text at (at + matched text at word)
at_miss text at word b h = record { steps = matched text at word; is = refl; stuck = stuck_miss word (drop at text) b (ltb-true _ _ h) }

pub at_number : {Texts : ℕ → List ℕ → Type 0} {place : ℕ} (text : List ℕ) (at : ℕ) → Clean Texts → eqb (number_at text at).end at ≡ false →
    StuckAt (Texts (number_at text at).value) text (number_at text at).end place → StuckAt (Numbered Texts) text at place
at_number {Texts} text at clean q x =
    let n = (number_at text at).value in
    let s = number_sound text at q in
    let y = at_word s.1 x in
    at_as (λ u w. record { value = n; rest = w.rest; small = s.0; more = w.more; whole = w.whole }) y
    (λ u w e.
    let same = number_same text at w.value y.steps u w.rest w.whole w.small (clean _ _ w.more) (omega (arith, x.is, y.is)) e in
    let v : w.value ≡ n = sym (ap (λ (m : Number). m.value) same) in
    record { rest = w.rest; more = rw v at w.more; whole = rw v at w.whole })

-- no number stands here
pub no_number : {Texts : ℕ → List ℕ → Type 0} {u : List ℕ} (text : List ℕ) (at j : ℕ) → Clean Texts → eqb (number_at text at).end at ≡ true → Numbered Texts u →
    take (suc j) u ≡ take (suc j) (drop at text) → ⊥
no_number {u = u} text at j clean q w e =
    let q' = eqb-true (number_at text at).end at q in
    let same = number_same text at w.value j u w.rest w.whole w.small (clean _ _ w.more) (omega arith) e in
    omega (arith, q', ap (λ (n : Number). n.end) same, decimal_some w.value w.small)

pub at_no_number : {Texts : ℕ → List ℕ → Type 0} (text : List ℕ) (at : ℕ) → Clean Texts → Begins (Numbered Texts) [] → eqb (number_at text at).end at ≡ true →
    StuckAt (Numbered Texts) text at at
at_no_number text at clean b q = record {
  steps = 0;
  is = omega arith;
  stuck = record { inside = omega arith; begins = b; never = λ u w e. no_number text at 0 clean q w e };
}

-- ---- two sets that part at their second bytes

pub parted : {A : List ℕ → Type 0} {text : List ℕ} {k first : ℕ} {sample a : List ℕ} → Stuck A text k → A sample → sample ≡ first ∷ a →
    (second : ℕ) (u : List ℕ) → eqb (get_or text 1 0) second ≡ false → take (suc k) (first ∷ second ∷ u) ≡ take (suc k) text → ⊥
parted {k = zero} {sample = sample} s x h second u q e = s.never sample x (rw h e)
parted {text = text} {k = suc k} {first} s x h second u q e =
    eqb-false (get_or text 1 0) second q (sym (same_byte text (first ∷ second ∷ u) (suc k) 1 e (omega arith)))
