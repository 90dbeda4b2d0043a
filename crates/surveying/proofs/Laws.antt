-- Surveys and readings one statement at a time.
-- Assumes nothing.
use Prim.Native.Nat.{ℕ, suc, ◌+◌, ◌<◌}
use mathlib.Core.Path.{◌≡◌, refl, sym, ap, ◌∙◌}
use mathlib.Core.List.{List, [], ◌∷◌, ◌++◌}
use native.Mathlib.Nat.{zero-add}
use native.Mathlib.Numerals.{add-one}
use native.Mathlib.Omega.{arith}
use lib.ListN.{length, length-append}
use lib.Seq.{append_snoc}
use borrow.Author.Tests.{lt-ltb, le-ltb}
use Rattle.meaning.specs.Filter.{Edge}
use Rattle.drawing.specs.Profile.{larger, state_line, state_lines, labels_of}
use Rattle.drawing.specs.More.{states-append, states_one, larger_three, labels_more}
use Rattle.drawing.specs.Reader.{Read, drawing, outside, with_state, with_edge, no_state}
use Rattle.surveying.specs.declared.Survey.{Survey}
use Rattle.surveying.specs.Surveys.{bound, next_of, survey_of}

bound_more : (xs : List ℕ) (x : ℕ) → bound (xs ++ (x ∷ [])) ≡ larger (bound xs) (x + 1)
unfolding bound
bound_more [] x = rw (le-ltb (suc x) 0 (omega arith), lt-ltb 0 (x + 1) (omega arith), add-one x)
bound_more (y ∷ xs) x = rw (bound_more xs x) (larger_three (suc y) (bound xs) (x + 1))

-- ---- one statement more

next_behind : (cs : List ℕ) (es : List Edge) (e : Edge) → next_of cs (es ++ (e ∷ [])) ≡ no_state
next_behind cs [] e = refl
next_behind cs (f ∷ es) e = refl

-- where a state can be next there is no edge yet
pub no_edges : (cs : List ℕ) (es : List Edge) → next_of cs es < no_state → es ≡ []
no_edges cs [] h = refl
no_edges cs (e ∷ es) h = absurd (omega arith)

survey_parts : {a a' b b' f f' c c' d d' e e' : ℕ} → a ≡ a' → b ≡ b' → f ≡ f' → c ≡ c' → d ≡ d' → e ≡ e' →
    ◌≡◌ {A = Survey} (record { states = a; colours = b; begin = f; edges = c; labels = d; next = e })
    (record { states = a'; colours = b'; begin = f'; edges = c'; labels = d'; next = e' })
survey_parts p q o r s t = rw (p, q, o, r, s, t)

-- the edges begin behind one state's statement more
pub begin_more : (cs : List ℕ) (c : ℕ) → 10 + length (state_lines 0 (cs ++ (c ∷ []))) ≡ 10 + length (state_lines 0 cs) + length (state_line (length cs) c)
begin_more cs c =
    let more = states-append 0 cs (c ∷ []) ∙ ap (λ (l : List ℕ). state_lines 0 cs ++ l) (ap (λ (s : ℕ). state_lines s (c ∷ [])) (zero-add (length cs)) ∙ states_one (length cs) c) in
    omega (arith, ap length more, length-append (state_lines 0 cs) (state_line (length cs) c))

length_more : {A : Type 0} (xs : List A) (x : A) → length (xs ++ (x ∷ [])) ≡ length xs + 1
length_more xs x = length-append xs (x ∷ [])

pub survey_state : (cs : List ℕ) (c end : ℕ) → end ≡ 10 + length (state_lines 0 cs) + length (state_line (length cs) c) → let s = survey_of cs [] in
    record { states = s.states + 1; colours = larger s.colours (c + 1); begin = end; edges = s.edges; labels = s.labels; next = s.next + 1 } ≡ survey_of (cs ++ (c ∷ [])) []
survey_state cs c end e =
    survey_parts (sym (length_more cs c)) (sym (bound_more cs c)) (e ∙ sym (begin_more cs c)) refl refl (sym (length_more cs c))

pub survey_edge : (cs : List ℕ) (es : List Edge) (e : Edge) → let s = survey_of cs es in
    record { states = s.states; colours = s.colours; begin = s.begin; edges = s.edges + 1; labels = larger s.labels (e.label + 1); next = 1000 } ≡ survey_of cs (es ++ (e ∷ []))
survey_edge cs es e =
    survey_parts refl refl refl (sym (length_more es e)) (sym (labels_more es e ∙ ap (larger (labels_of es)) (sym (add-one e.label)))) (sym (next_behind cs es e))

-- ---- what was read, and what follows it

unfoldable pub joined : List ℕ → List Edge → Read → Read
joined cs es (drawing colours edges) = drawing (cs ++ colours) (es ++ edges)
joined cs es (outside place) = outside place

pub joined_none : (r : Read) → joined [] [] r ≡ r
unfolding joined
joined_none (drawing cs es) = refl
joined_none (outside p) = refl

pub joined_state : (cs : List ℕ) (es : List Edge) (c : ℕ) (r : Read) → joined cs es (with_state c r) ≡ joined (cs ++ (c ∷ [])) es r
unfolding joined
joined_state cs es c (drawing colours edges) = ap (λ (l : List ℕ). drawing l (es ++ edges)) (sym (append_snoc cs c colours))
joined_state cs es c (outside p) = refl

pub joined-edge : (cs : List ℕ) (es : List Edge) (e : Edge) (r : Read) → joined cs es (with_edge e r) ≡ joined cs (es ++ (e ∷ [])) r
unfolding joined
joined-edge cs es e (drawing colours edges) = ap (λ (l : List Edge). drawing (cs ++ colours) l) (sym (append_snoc es e edges))
joined-edge cs es e (outside p) = refl
