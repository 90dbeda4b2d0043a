-- The filter that the code writes is the filter of the classes. Assumes nothing.
use Prim.Native.Nat.{ℕ, ◌≤◌, ◌<◌, ◌^◌}
use mathlib.Core.Path.{◌≡◌, refl, sym, ap, ◌∙◌}
use mathlib.Core.Bool.{Bool, true, ◌&&◌}
use mathlib.Core.List.{List, [], ◌∷◌}
use mathlib.Core.Option.{Option, none, some}
use native.Mathlib.Omega.{arith}
use lib.Dec.{eqb}
use lib.ListN.{length, take, drop, get_or-append}
use borrow.Author.Tests.{eqb-true}
use Rattle.meaning.specs.Search.{least, tab, at}
use Rattle.meaning.specs.SearchLaws.{at_tab, length-tab, tab_cong, count_max, least_ok}
use Rattle.meaning.specs.Classes as Classes
use Rattle.meaning.specs.Classes.{classes, number}
use Rattle.meaning.specs.Cases.{and_left}
use Rattle.meaning.proofs.Traced.{In, opt, number_lt, name_is}
use Rattle.meaning.specs.Reduced.{has, name_of, mapped, class_edge, edge', listed}
use Rattle.meaning.specs.Listing.{listed_cong}
use Rattle.layout.specs.declared.profile.Profile.{Profile}
use Rattle.layout.specs.declared.Reading.{Reading}
use Rattle.layout.specs.Layout.{length_of}
use Rattle.refusals.specs.Refusals.{laid}
use Rattle.refusals.proofs.Laws.{laid_front}
use Rattle.files.specs.Tests.{Written, write_written}
use Rattle.table.specs.Table.{Table, look}
use Rattle.storing.specs.Stored.{led, row_edge, stored, Storable}
use Rattle.numbering.specs.Names.{new_number}
use Rattle.numbering.proofs.Laws.{number_in}
use Rattle.merging.specs.Merged.{Gathered, merged_by, Foldable}

-- the names of all classes, ascending
abbrev pub ordered : ℕ → List ℕ → List ℕ
ordered n P = tab (classes n P) (name_of n P)

-- the values laid into a room are its first
pub take-laid : (values room l : List ℕ) (k : ℕ) → l ≡ laid values room → k ≡ length values → take k l ≡ values
take-laid values room l k e h = ap (take k) e ∙ laid_front values room k (sym h)

module _ {p : Profile} {T₀ : Table} {colours names : List ℕ} {r : Reading} {answer list_room : ℕ} (can : Foldable p T₀ colours names r answer list_room) where
  abbrev n : ℕ
  n = r.states

  abbrev P : List ℕ
  P = take n names

  passed : Written p (merged_by T₀ colours names r) true answer (length_of p (merged_by T₀ colours names r) ∷ [])
  passed = write_written p (merged_by T₀ colours names r) true answer _ can.answer_room

  pub few_classes : classes n P ≤ 256
  unfolding classes
  few_classes = omega (arith, can.named.few, count_max (Classes.named P) n)

  fit_classes : classes n P ≤ 2 ^ p.states
  fit_classes = omega (arith, passed.writable.states_high, length-tab (classes n P) (λ k. at colours (name_of n P k)))

  -- no edge begins past the states
  pub no_edge : (y : ℕ) → look T₀ n y ≡ none
  no_edge y = opt (look T₀ n y) (λ e. e) (λ t e. absurd (omega (arith, (can.within n y t e).0)))

  -- a state in a class gets the class's number
  pub numbers_laid : (list list₀ : List ℕ) → list ≡ laid (tab n (new_number P)) list₀ → (s : ℕ) → In n P s → at list s ≡ number P s
  numbers_laid list list₀ e s h =
      let few : n ≤ 256 = can.named.few in
      ap (λ (l : List ℕ). at l s) e
      ∙ get_or-append (tab n (new_number P)) (drop (length (tab n (new_number P))) list₀) 0 s (omega (arith, length-tab n (new_number P), h.state))
      ∙ at_tab n (new_number P) s h.state ∙ number_in P s (λ z. omega (arith, z, h.seat))

  module _ {order : List ℕ} (order_is : order ≡ ordered n P) where
    pub order_long : length order ≡ classes n P
    order_long = ap length order_is ∙ length-tab (classes n P) (name_of n P)

    named_at : (i : ℕ) → i < length order → at order i ≡ name_of n P i
    named_at i l = ap (λ (names : List ℕ). at names i) order_is ∙ at_tab (classes n P) (name_of n P) i (omega (arith, order_long))

    -- names are states
    below : (i : ℕ) → i < length order → at order i < n
    below i l = omega (arith, named_at i l, (name_is n P i (omega (arith, order_long))).0)

    pub named_low : (i : ℕ) → i < length order → at order i < 256
    named_low i l = omega (arith, below i l, can.named.few)

  -- What the steps before the writing have made: the classes numbered, the edges gathered, the colours of the classes.
  pub record Ready (T : Table) (order list hues : List ℕ) : Type 0 where
    pub order_is : order ≡ ordered n P
    pub numbers : (s : ℕ) → In n P s → at list s ≡ number P s
    pub long : n ≤ length list
    pub gathered : Gathered T₀ T n P
    pub hues_are : hues ≡ tab (length order) (λ i. at colours (at order i))

  module _ {T : Table} {order list hues : List ℕ} (ready : Ready T order list hues) where
    -- the edge of a class in the table is that of its first member that has one
    first_edge : (i y : ℕ) → i < length order → look T (at order i) y ≡ look T₀ (least (λ s. eqb (at P s) (name_of n P i) && has (look T₀ s y)) n) y
    first_edge i y h =
        let is = name_is n P i (omega (arith, order_long ready.order_is)) in
        ap (λ (s : ℕ). look T s y) (named_at ready.order_is i h) ∙ ready.gathered.edges (name_of n P i) y is.0 is.2

    -- the member whose edge it is, and where the edge leads, are in a class
    first_in : (i y t : ℕ) → i < length order → look T (at order i) y ≡ some t → (y < r.labels) × In n P t
    first_in i y t h e =
        let c = name_of n P i in
        let bears : ℕ → Bool = λ s. eqb (at P s) c && has (look T₀ s y) in
        let u = least bears n in
        let has_edge = sym (first_edge i y h) ∙ e in
        let w = can.within u y t has_edge in
        let is = name_is n P i (omega (arith, h, order_long ready.order_is)) in
        let class : at P u ≡ c = eqb-true (at P u) c (and_left (eqb (at P u) c) (has (look T₀ u y)) (least_ok bears n w.0)) in
        (w.1, record { state = w.2; seat = can.leads u y t has_edge (omega (arith, class, is.0)) })

    pub can_store : Storable p T order list r.labels
    can_store = record {
      states = omega (arith, order_long ready.order_is, fit_classes);
      rows = λ i h. record { long = omega (arith, below ready.order_is i h, can.rows.long, ready.gathered.rows) };
      label = λ i y t h e. (first_in i y t h e).0;
      in_list = λ i y t h e. omega (arith, (first_in i y t h e).1.state, ready.long);
      target = λ i y t h e.
          let l = (first_in i y t h e).1 in
          omega (arith, ready.numbers t l, number_lt n P can.named.right t l, fit_classes);
    }

    pub hues_long : length order ≡ length hues
    hues_long = sym (ap length ready.hues_are ∙ length-tab (length order) _)

    -- the edge that is written is the edge of the class
    led-mapped : (o : Option ℕ) → ((t : ℕ) → o ≡ some t → In n P t) → led list o ≡ mapped P o
    unfolding led mapped
    led-mapped none h = refl
    led-mapped (some t) h = ap some (ready.numbers t (h t refl))

    same_edge : (i y : ℕ) → i < length order → y < r.labels → row_edge T order list i y ≡ edge' (look T₀) n P i y
    unfolding edge' class_edge
    same_edge i y h l = ap (led list) (first_edge i y h) ∙ led-mapped _ (λ t e. (first_in i y t h (first_edge i y h ∙ e)).1)

    pub filter_made : stored T order list hues r.labels (at list r.start) ≡ merged_by T₀ colours names r
    filter_made =
        let K = classes n P in
        let long = order_long ready.order_is in
        let hues-of : hues ≡ tab K (λ i. at colours (name_of n P i)) =
        ready.hues_are ∙ tab_cong (length order) _ _ (λ i h. ap (at colours) (named_at ready.order_is i h)) ∙ ap (λ (i : ℕ). tab i (λ j. at colours (name_of n P j))) long in
        let edges-of : listed (row_edge T order list) (length order) r.labels ≡ listed (edge' (look T₀) n P) K r.labels =
        listed_cong _ _ (length order) r.labels same_edge ∙ ap (λ (i : ℕ). listed (edge' (look T₀) n P) i r.labels) long in
        λ i. record { colours = hues-of i; labels = r.labels; start = ready.numbers r.start (record { state = can.begins; seat = can.begins_in }) i; edges = edges-of i }
