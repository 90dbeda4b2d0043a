-- One statement more: the states' statements, and the largest of some numbers.
-- Assumes nothing.
use Rattle.std.specs.Prelude.{ℕ, suc, ◌+◌, ◌-◌, ◌≡◌, List, [], ◌∷◌, ◌++◌, ltb, length}
use Rattle.std.proofs.Common.{sym, ap, ◌∙◌, append-nil, append_assoc, add-zero, arith, ltb-true, ltb-false}
use Rattle.meaning.specs.Cases.{cases_of}
use Rattle.meaning.specs.Filter.{Edge}
use Rattle.drawing.specs.Profile.{state_line, state_lines, larger, labels_of}

pub states-append : (s : ℕ) (cs ds : List ℕ) → state_lines s (cs ++ ds) ≡ state_lines s cs ++ state_lines (s + length cs) ds
unfolding state_lines
states-append s [] ds = ap (λ (t : ℕ). state_lines t ds) (sym (add-zero s))
states-append s (c ∷ cs) ds =
    let next : suc s + length cs ≡ s + suc (length cs) = omega arith in
    ap (λ (l : List ℕ). state_line s c ++ l) (states-append (suc s) cs ds ∙ ap (λ (t : ℕ). state_lines (suc s) cs ++ state_lines t ds) next)
    ∙ sym (append_assoc (state_line s c) (state_lines (suc s) cs) (state_lines (s + suc (length cs)) ds))

pub states_one : (s c : ℕ) → state_lines s (c ∷ []) ≡ state_line s c
unfolding state_lines
states_one s c = append-nil (state_line s c)

pub larger_is : (a b : ℕ) → larger a b ≡ a + (b - a)
larger_is a b = cases_of (ltb a b) (λ q. rw q (omega (arith, ltb-true a b q))) (λ q. rw q (omega (arith, ltb-false a b q)))

pub larger_turn : (a b : ℕ) → larger a b ≡ larger b a
larger_turn a b = omega (arith, larger_is a b, larger_is b a)

pub larger_three : (a b c : ℕ) → larger a (larger b c) ≡ larger (larger a b) c
larger_three a b c =
    omega (arith, larger_is b c, larger_is a b, larger_is a (larger b c), larger_is (larger a b) c)

pub labels_more : (es : List Edge) (e : Edge) → labels_of (es ++ (e ∷ [])) ≡ larger (labels_of es) (suc e.label)
unfolding labels_of
labels_more [] e = larger_turn (suc e.label) 1
labels_more (d ∷ es) e = ap (larger (suc d.label)) (labels_more es e) ∙ larger_three (suc d.label) (labels_of es) (suc e.label)
