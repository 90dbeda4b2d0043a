-- Names by which each state is a class of its own: classes, numbers and names are the states, and the merged filter is the
-- filter. Assumes nothing.
use Rattle.std.specs.Prelude.{ℕ, zero, suc, ◌≤◌, ◌<◌, ◌≡◌, Bool, true, ◌&&◌, eqb, length}
use Rattle.std.proofs.Math.Path.{refl, sym, ap}
use Rattle.std.proofs.Common.{◌∙◌, arith}
use mathlib.Core.List.{List, [], ◌∷◌}
use Rattle.std.proofs.Math.Option.{Option, none, some}
use borrow.Author.Tests.{eqb-true, eq-eqb, ne_eqb}
use Rattle.meaning.specs.Search.{least, count, tab, at}
use Rattle.meaning.specs.Cases.{cases_of, no_both, and_intro, and_left, and_right}
use Rattle.meaning.specs.SearchLaws.{least_is, least_empty, tab_cong}
use Rattle.meaning.specs.Filter.{Edge, Filter, states}
use Rattle.meaning.specs.Trace.{edge, colour, target}
use Rattle.meaning.specs.Classes.{named, classes, number}
use Rattle.meaning.specs.Reduced.{has, name_of, mapped, class_edge, edge', listed, merged}
use Rattle.meaning.specs.Listing.{listed_cong, find_listed}
use Rattle.meaning.proofs.Traced.{Fits, opt, name_is}

count-all : (p : ℕ → Bool) (n : ℕ) → ((i : ℕ) → i < n → p i ≡ true) → count p n ≡ n
unfolding count
count-all p zero h = refl
count-all p (suc n) h = rw (h n (omega arith), count-all p n (λ i l. h i (omega arith))) (omega arith)

tab_at : (l : List ℕ) → tab (length l) (at l) ≡ l
unfolding tab
tab_at [] = refl
tab_at (x ∷ l) = ap {B = List ℕ} (λ xs. x ∷ xs) (tab_at l)

-- Each state below n is its own name.
abbrev pub Alone : ℕ → List ℕ → Type 0
Alone n P = (s : ℕ) → s < n → at P s ≡ s

module _ (n : ℕ) (P : List ℕ) (alone : Alone n P) where
  pub classes-alone : classes n P ≡ n
  unfolding classes
  classes-alone = count-all (named P) n (λ s h. eq-eqb (at P s) s (alone s h))

  pub number-alone : (s : ℕ) → s < n → number P s ≡ s
  unfolding number
  number-alone s h =
      ap (count (named P)) (alone s h) ∙ count-all (named P) s (λ t l. eq-eqb (at P t) t (alone t (omega arith)))

  name_alone : (s : ℕ) → s < n → name_of n P s ≡ s
  name_alone s h =
      let r = name_is n P s (omega (arith, classes-alone)) in
      sym (number-alone (name_of n P s) r.0) ∙ r.1

module _ (F : Filter) (fits : Fits F) (P : List ℕ) (alone : Alone (states F) P) where
  mapped-alone : (o : Option ℕ) → ((t : ℕ) → o ≡ some t → t < states F) → mapped P o ≡ o
  unfolding mapped
  mapped-alone none h = refl
  mapped-alone (some t) h = ap some (number-alone (states F) P alone t (h t refl))

  abbrev n : ℕ
  n = states F

  abbrev bears : ℕ → ℕ → ℕ → Bool
  bears s y t = eqb (at P t) s && has (edge F t y)

  -- the edge of a state that is a class is the state's
  edge-alone : (s y : ℕ) → s < n → edge F (least (bears s y) n) y ≡ edge F s y
  edge-alone s y h = cases_of (has (edge F s y))
      (λ q. ap (λ (t : ℕ). edge F t y) (least_is (bears s y) n s h (and_intro (eq-eqb (at P s) s (alone s h)) q)
      (λ t l. rw (ne_eqb (at P t) s (λ e. omega (arith, alone t (omega arith)))))))
      (λ q. let nobody : n ≤ least (bears s y) n = least_empty (bears s y) n (λ t l. cases_of (bears s y t)
      (λ b. let e = sym (alone t l) ∙ eqb-true _ _ (and_left (eqb (at P t) s) (has (edge F t y)) b) in
      no_both (and_right (eqb (at P t) s) (has (edge F t y)) b) (ap (λ (u : ℕ). has (edge F u y)) e ∙ q))
      (λ b. b)) in
      opt (edge F (least (bears s y) n) y)
      (λ o. o ∙ opt (edge F s y) (λ v. sym v) (λ t v. no_both {b = has (edge F s y)} (rw v) q))
      (λ t o. absurd (omega (arith, (fits.within (least (bears s y) n) y t o).0))))

  edge'-alone : (s y : ℕ) → s < n → edge' (edge F) n P s y ≡ edge F s y
  unfolding edge' class_edge
  edge'-alone s y h =
      ap (λ (c : ℕ). class_edge (edge F) n P c y) (name_alone n P alone s h)
      ∙ ap (mapped P) (edge-alone s y h) ∙ mapped-alone (edge F s y) (λ t e. (fits.within s y t e).2)

  module _ (next : ℕ → ℕ → Option ℕ) (edges : F.edges ≡ listed next (states F) F.labels) where
    listed-alone : listed (edge' (edge F) n P) n F.labels ≡ F.edges
    unfolding edge
    listed-alone =
        listed_cong (edge' (edge F) n P) next n F.labels (λ s y h l.
        edge'-alone s y h ∙ ap (λ (es : List Edge). target es s y) edges ∙ find_listed s y next n F.labels h l)
        ∙ sym edges

    pub merged-alone : merged F P ≡ F
    unfolding merged colour
    merged-alone =
        let many = classes-alone n P alone in
        let begins = number-alone n P alone F.start fits.begins in
        let hues : tab (classes n P) (λ i. colour F (name_of n P i)) ≡ F.colours =
        ap (λ (i : ℕ). tab i (λ j. colour F (name_of n P j))) many
        ∙ tab_cong n _ (at F.colours) (λ s h. ap (colour F) (name_alone n P alone s h)) ∙ tab_at F.colours in
        let listing : listed (edge' (edge F) n P) (classes n P) F.labels ≡ F.edges =
        ap (λ (i : ℕ). listed (edge' (edge F) n P) i F.labels) many ∙ listed-alone in
        λ i. record { colours = hues i; labels = F.labels; start = begins i; edges = listing i }
