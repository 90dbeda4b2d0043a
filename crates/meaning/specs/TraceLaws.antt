-- Laws of the edge of a state at a label (one edge more at the end, and where no edge stands yet), and of a ride, one observation
-- further.
-- Assumes nothing.
use Rattle.std.specs.Prelude.{◌≡◌, Bool, true, false, ◌&&◌, ◌||◌, ◌⊎◌, ℕ, suc, ◌<◌, eqb, ltb, length}
use Rattle.std.proofs.Math.Path.{refl}
use Rattle.std.proofs.Common.{ap, ◌∙◌, inl, inr, arith, eq-eqb, ne_eqb, lt-ltb, ltb-true, eqb-true}
use mathlib.Core.List.{List, [], ◌∷◌, ◌++◌}
use Rattle.std.proofs.Math.Option.{Option, none, some}
use Rattle.meaning.specs.Cases.{impossible, and_left, and_right}
use Rattle.meaning.specs.Pick.{pick}
use Rattle.meaning.specs.Search.{at}
use Rattle.meaning.specs.Filter.{Edge, comes_before, leads, ascending}
use Rattle.meaning.specs.Trace.{target, ridden, later, halted}

-- the edge stands at this source and label
abbrev pub stands : Edge → ℕ → ℕ → Bool
stands e s y = eqb e.source s && eqb e.label y

-- one edge more at the end: what stands before it decides first
pub target-snoc : (es : List Edge) (e : Edge) (s y : ℕ) → target es s y ≡ none → target (es ++ (e ∷ [])) s y ≡ pick (stands e s y) (some e.target) none
unfolding target
target-snoc [] e s y h = refl
target-snoc (f ∷ fs) e s y h = go (stands f s y) h (target-snoc fs e s y)
  where
    go : (b : Bool) → pick b (some f.target) (target fs s y) ≡ none
        → (target fs s y ≡ none → target (fs ++ (e ∷ [])) s y ≡ pick (stands e s y) (some e.target) none)
        → pick b (some f.target) (target (fs ++ (e ∷ [])) s y) ≡ pick (stands e s y) (some e.target) none
    go true k r = impossible cc
    go false k r = r k

pub target-before : (es : List Edge) (e : Edge) (s y : ℕ) → stands e s y ≡ false → target (es ++ (e ∷ [])) s y ≡ target es s y
unfolding target
target-before [] e s y h = rw h
target-before (f ∷ fs) e s y h = rw (target-before fs e s y h)

-- ---- order

abbrev Lower : Edge → Edge → Type 0
Lower e f = (e.source < f.source) ⊎ ((e.source ≡ f.source) × (e.label < f.label))

lower : (e f : Edge) → comes_before e f ≡ true → Lower e f
unfolding comes_before
lower e f h = go (ltb e.source f.source) refl h
  where
    go : (b : Bool) → ltb e.source f.source ≡ b → b || (eqb e.source f.source && ltb e.label f.label) ≡ true → Lower e f
    go true k l = inl (ltb-true e.source f.source k)
    go false k l =
        inr (eqb-true e.source f.source (and_left (eqb e.source f.source) _ l), ltb-true e.label f.label (and_right (eqb e.source f.source) _ l))

raised : (e f : Edge) → Lower e f → comes_before e f ≡ true
unfolding comes_before
raised e f (inl h) = rw (lt-ltb _ _ h)
raised e f (inr h) = go (ltb e.source f.source)
  where
    go : (b : Bool) → b || (eqb e.source f.source && ltb e.label f.label) ≡ true
    go true = refl
    go false = rw (eq-eqb _ _ h.0, lt-ltb _ _ h.1)

pub before_trans : (e f g : Edge) → comes_before e f ≡ true → comes_before f g ≡ true → comes_before e g ≡ true
before_trans e f g h k = raised e g (go (lower e f h) (lower f g k))
  where
    go : Lower e f → Lower f g → Lower e g
    go (inl a) (inl b) = inl (omega arith)
    go (inl a) (inr b) = inl (omega (arith, b.0))
    go (inr a) (inl b) = inl (omega (arith, a.0))
    go (inr a) (inr b) = inr (a.0 ∙ b.0, omega (arith, a.1, b.1))

-- an edge that comes before another does not stand at its place
before-apart : (e f : Edge) → comes_before e f ≡ true → stands e f.source f.label ≡ false
before-apart e f h = go (lower e f h)
  where
    go : Lower e f → stands e f.source f.label ≡ false
    go (inl a) = rw (ne_eqb e.source f.source (λ z. omega arith))
    go (inr a) = rw (eq-eqb _ _ a.0, ne_eqb e.label f.label (λ z. omega (arith, a.1)))

leads_far : (e : Edge) (fs : List Edge) (g : Edge) (gs : List Edge) → leads e (fs ++ (g ∷ gs)) ≡ true → ascending (fs ++ (g ∷ gs)) ≡ true → comes_before e g ≡ true
unfolding leads ascending
leads_far e [] g gs h k = h
leads_far e (f ∷ fs) g gs h k =
    before_trans e f g h (leads_far f fs g gs (and_left (leads f (fs ++ (g ∷ gs))) _ k) (and_right (leads f (fs ++ (g ∷ gs))) _ k))

-- of edges that ascend, none before an edge stands at its place
pub target_fresh : (es : List Edge) (e : Edge) (rest : List Edge) → ascending (es ++ (e ∷ rest)) ≡ true → target es e.source e.label ≡ none
unfolding target ascending
target_fresh [] e rest h = refl
target_fresh (f ∷ fs) e rest h =
    let a = and_left (leads f (fs ++ (e ∷ rest))) _ h in
    let b = and_right (leads f (fs ++ (e ∷ rest))) _ h in
    rw (before-apart f e (leads_far f fs e rest a b)) (target_fresh fs e rest b)

-- ---- a ride

module _ (next : ℕ → ℕ → Option ℕ) (hue : ℕ → ℕ) where
  pub ridden_end : (s : ℕ) → ridden next hue s [] ≡ hue s ∷ []
  unfolding ridden
  ridden_end s = refl

  pub ridden-first : (s : ℕ) (ys : List ℕ) → at (ridden next hue s ys) 0 ≡ hue s
  unfolding ridden
  ridden-first s [] = refl
  ridden-first s (y ∷ ys) = refl

  pub ridden_on : (s y t : ℕ) (ys : List ℕ) → next s y ≡ some t → ridden next hue s (y ∷ ys) ≡ hue s ∷ ridden next hue t ys
  unfolding ridden
  ridden_on s y t ys h = rw h

  pub ridden_stop : (s y : ℕ) (ys : List ℕ) → next s y ≡ none → ridden next hue s (y ∷ ys) ≡ hue s ∷ []
  unfolding ridden
  ridden_stop s y ys h = rw h

module _ (next : ℕ → ℕ → Option ℕ) where
  pub halted_on : (s y t : ℕ) (ys : List ℕ) → next s y ≡ some t → halted next s (y ∷ ys) ≡ later (halted next t ys)
  unfolding halted
  halted_on s y t ys h = rw (h, halted)

  pub halted_stop : (s y : ℕ) (ys : List ℕ) → next s y ≡ none → halted next s (y ∷ ys) ≡ some 0
  unfolding halted
  halted_stop s y ys h = rw (h, halted)

-- ---- how many colours are shown

-- one more than the observations that are taken
abbrev pub shown_count : Option ℕ → ℕ → ℕ
shown_count none k = suc k
shown_count (some i) k = suc i

count-later : (o : Option ℕ) (k : ℕ) → suc (shown_count o k) ≡ shown_count (later o) (suc k)
count-later none k = refl
count-later (some i) k = refl

pub ridden-length : (next : ℕ → ℕ → Option ℕ) (hue : ℕ → ℕ) (s : ℕ) (ys : List ℕ) → length (ridden next hue s ys) ≡ shown_count (halted next s ys) (length ys)
unfolding ridden halted
ridden-length next hue s [] = refl
ridden-length next hue s (y ∷ ys) = go (next s y) (λ t. ridden-length next hue t ys)
  where
    go : (o : Option ℕ) → ((t : ℕ) → length (ridden next hue t ys) ≡ shown_count (halted next t ys) (length ys)) →
        length (hue s ∷ elim o [ none ↦ [] | some t ↦ ridden next hue t ys ]) ≡ shown_count (elim o [ none ↦ some 0 | some t ↦ later (halted next t ys) ]) (suc (length ys))
    go none h = refl
    go (some t) h = ap suc (h t) ∙ count-later (halted next t ys) (length ys)

-- one further is within one more
pub later-within : (o : Option ℕ) (k i : ℕ) → ((j : ℕ) → o ≡ some j → j < k) → later o ≡ some i → i < suc k
later-within none k i h e = impossible cc
later-within (some j) k i h e = let z : suc j ≡ i = cc in omega (arith, h j refl)

-- a ride stops at an observation
pub halted-within : (next : ℕ → ℕ → Option ℕ) (s : ℕ) (ys : List ℕ) (i : ℕ) → halted next s ys ≡ some i → i < length ys
unfolding halted
halted-within next s [] i e = impossible cc
halted-within next s (y ∷ ys) i e = go (next s y) (λ t. halted-within next t ys) e
  where
    go : (o : Option ℕ) → ((t j : ℕ) → halted next t ys ≡ some j → j < length ys) → elim o [ none ↦ some 0 | some t ↦ later (halted next t ys) ] ≡ some i → i < suc (length ys)
    go none h e = let z : 0 ≡ i = cc in omega arith
    go (some t) h e = later-within (halted next t ys) (length ys) i (h t) e
