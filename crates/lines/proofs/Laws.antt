-- Laws of lines: those of the first numbers, and one more behind them; and how long lines are.
-- Assumes nothing.
use mathlib.Core.Path.{◌≡◌, sym, ap, ◌∙◌}
use mathlib.Core.List.{List, [], ◌∷◌, ◌++◌, append-nil, append_assoc}
use mathlib.Core.Logic.{◌⊎◌, inl, inr}
use Prim.Native.Nat.{ℕ, suc, ◌+◌, ◌*◌, ◌^◌, ◌≤◌, ◌<◌}
use native.Mathlib.Nat.{add-zero, zero-add}
use native.Mathlib.Numerals.{add-one}
use native.Mathlib.Omega.{arith}
use lib.ListN.{length, get_or, take, length-append}
use lib.Seq.{length-take-le, take-suc}
use borrow.Author.Tests.{eq-eqb, ne_eqb}
use Rattle.text.specs.Decimal.{decimal}
use Rattle.text.proofs.Laws.{decimal_most}
use Rattle.lines.specs.Text.{space, newline, dash, refused_word, spaced, ended, pair_line, four_line, refusal_line, number_line, number_lines}

-- the first numbers and one more
pub take_more : (ns : List ℕ) (i : ℕ) → i < length ns → take (i + 1) ns ≡ take i ns ++ (get_or ns i 0 ∷ [])
take_more ns i h = ap (λ (k : ℕ). take k ns) (add-one i) ∙ take-suc ns i 0 h

-- the line of a dropped state, and that of another
pub dropped_line : (s k : ℕ) → k ≡ 65535 → spaced s ++ (dash ++ newline) ≡ number_line s k
unfolding number_line
dropped_line s k e = rw (eq-eqb k 65535 e)

pub numbered_line : (s k : ℕ) → (k ≡ 65535 → ⊥) → pair_line s k ≡ number_line s k
unfolding number_line
numbered_line s k e = rw (ne_eqb k 65535 e)

-- one state's line behind those of the states before it
states-snoc : (s : ℕ) (ks : List ℕ) (k : ℕ) → number_lines s (ks ++ (k ∷ [])) ≡ number_lines s ks ++ number_line (s + length ks) k
unfolding number_lines
states-snoc s [] k = append-nil (number_line s k) ∙ ap (λ (t : ℕ). number_line t k) (sym (add-zero s))
states-snoc s (m ∷ ks) k =
    let next : suc s + length ks ≡ s + suc (length ks) = omega arith in
    ap (λ (l : List ℕ). number_line s m ++ l) (states-snoc (suc s) ks k ∙ ap (λ (t : ℕ). number_lines (suc s) ks ++ number_line t k) next)
    ∙ sym (append_assoc (number_line s m) (number_lines (suc s) ks) (number_line (s + suc (length ks)) k))

pub states_more : (ks : List ℕ) (i : ℕ) → i < length ks → number_lines 0 (take i ks) ++ number_line i (get_or ks i 0) ≡ number_lines 0 (take (i + 1) ks)
states_more ks i h =
    let count : 0 + length (take i ks) ≡ i = zero-add _ ∙ length-take-le i ks (omega arith) in
    sym
    (ap (number_lines 0) (take_more ks i h) ∙ states-snoc 0 (take i ks) (get_or ks i 0) ∙ ap (λ (s : ℕ). number_lines 0 (take i ks) ++ number_line s (get_or ks i 0)) count)

-- ---- how long lines are

spaced_most : (k n : ℕ) → n < 10 ^ suc k → length (spaced n) ≤ suc k + 1
spaced_most k n h = omega (arith, length-append (decimal n) space, decimal_most k n h)

pub ended_most : (k n : ℕ) → n < 10 ^ suc k → length (ended n) ≤ suc k + 1
ended_most k n h = omega (arith, length-append (decimal n) newline, decimal_most k n h)

pub pair_most : (j k a b : ℕ) → a < 10 ^ suc j → b < 10 ^ suc k → length (pair_line a b) ≤ suc j + suc k + 2
unfolding pair_line
pair_most j k a b ha hb = omega (arith, length-append (spaced a) (ended b), spaced_most j a ha, ended_most k b hb)

-- a number of two digits, a place of six
pub refusal_most : (number place : ℕ) → number < 100 → place < 1000000 → length (refusal_line number place) ≤ 18
unfolding refusal_line
refusal_most number place hn hp = omega (arith, length-append refused_word (pair_line number place), pair_most 1 5 number place hn (omega arith))

-- numbers of three digits
pub four_most : (a b c d : ℕ) → a < 1000 → b < 1000 → c < 1000 → d < 1000 → length (four_line a b c d) ≤ 16
unfolding four_line
four_most a b c d ha hb hc hd =
    omega (
      arith,
      length-append (spaced a) (spaced b ++ (spaced c ++ ended d)),
      length-append (spaced b) (spaced c ++ ended d),
      length-append (spaced c) (ended d),
      spaced_most 2 a ha,
      spaced_most 2 b hb,
      spaced_most 2 c hc,
      ended_most 2 d hd,
    )

-- a state's line, with a number of three digits or a dash
state_most : (s k : ℕ) → s < 1000 → (k < 1000) ⊎ (k ≡ 65535) → length (number_line s k) ≤ 8
unfolding number_line
state_most s k h (inl l) = rw (ne_eqb k 65535 (λ z. omega arith)) (pair_most 2 2 s k h l)
state_most s k h (inr e) = rw (eq-eqb k 65535 e) (omega (arith, length-append (spaced s) (dash ++ newline), spaced_most 2 s h))

pub states_most : (s : ℕ) (ks : List ℕ) → s + length ks ≤ 1000 → ((i : ℕ) → i < length ks → (get_or ks i 0 < 1000) ⊎ (get_or ks i 0 ≡ 65535)) → length (number_lines s ks) ≤ 8 * length ks
unfolding number_lines
states_most s [] h b = omega arith
states_most s (k ∷ ks) h b =
    let rest = states_most (suc s) ks (omega arith) (λ i l. b (suc i) (omega arith)) in
    omega (arith, length-append (number_line s k) (number_lines (suc s) ks), state_most s k (omega arith) (b 0 (omega arith)), rest)
