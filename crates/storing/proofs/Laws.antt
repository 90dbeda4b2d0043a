-- Laws of a table's rows: counted, and drawn one label or one row further. Assumes nothing.
use Prim.Native.Nat.{ℕ, zero, suc, ◌+◌, ◌*◌, ◌≤◌, ◌<◌}
use mathlib.Core.Path.{◌≡◌, refl, sym, ap, ap₂, ◌∙◌}
use mathlib.Core.Bool.{Bool, false, not, ◌&&◌}
use mathlib.Core.List.{List, [], ◌∷◌, ◌++◌, append-nil}
use mathlib.Core.Option.{Option, none, some}
use native.Mathlib.Omega.{arith}
use native.Mathlib.Numerals.{add-one}
use lib.Dec.{eqb}
use lib.ListN.{length, length-append}
use borrow.Author.Tests.{eqb-true, eqb-false}
use Rattle.pen.specs.declared.Pen.{Pen}
use Rattle.pen.specs.Runs.{inked, place_of, Ready}
use Rattle.pen.proofs.Pens.{drawn_none, drawn-behind}
use Rattle.meaning.specs.Search.{count, at}
use Rattle.meaning.specs.SearchLaws.{count_cong}
use Rattle.meaning.specs.Cases.{cases_of}
use Rattle.meaning.specs.Reduced.{has, cell, row, listed}
use Rattle.meaning.specs.Listing.{cells, cells_max, listed-length}
use Rattle.meaning.specs.Filter.{Edge}
use Rattle.layout.specs.declared.profile.Profile.{Profile}
use Rattle.layout.specs.Layout.{edge_widths, flat}
use Rattle.layout.proofs.EdgeLists.{flat_append, widths_append, total_edges}
use Rattle.layout.proofs.Bounds.{edges_high}
use Rattle.sets.specs.Sets.{holds, Lowest}
use Rattle.sets.proofs.Laws.{From, from_all, from_above, from_gap, from_next, from_none}
use Rattle.table.specs.Table.{Table, row as row_of, look}
use Rattle.table.proofs.Laws.{look_none, look-has}
use Rattle.storing.specs.Stored.{led, row_edge, EdgesDrawn}

pub led_none : (list : List ℕ) → led list none ≡ none
unfolding led
led_none list = refl

pub led_some : (list : List ℕ) (o : Option ℕ) (t : ℕ) → o ≡ some t → led list o ≡ some (at list t)
unfolding led
led_some list o t h = rw h

led-has : (list : List ℕ) (o : Option ℕ) → has (led list o) ≡ has o
unfolding led
led-has list none = refl
led-has list (some t) = refl

-- a label that is not in a row's set has no edge
pub row_without : (T : Table) (order list : List ℕ) (k y : ℕ) → holds (row_of T (at order k)).labels y ≡ false → row_edge T order list k y ≡ none
row_without T order list k y h = ap (led list) (look_none T (at order k) y h) ∙ led_none list

-- ---- counted

pub cells_more : (q : ℕ → ℕ → Bool) (k m : ℕ) → cells q (k + 1) m ≡ cells q k m + count (q k) m
unfolding cells
cells_more q k m = rw (add-one k)

cells_cong : (p q : ℕ → ℕ → Bool) (n m : ℕ) → ((k y : ℕ) → y < m → p k y ≡ q k y) → cells p n m ≡ cells q n m
unfolding cells
cells_cong p q zero m h = refl
cells_cong p q (suc n) m h = ap₂ (λ (i j : ℕ). i + j) (cells_cong p q n m h) (count_cong (p n) (q n) m (h n))

-- the edges are as many as the rows have labels
pub listed-counted : (T : Table) (order list : List ℕ) (n : ℕ) → cells (λ k y. holds (row_of T (at order k)).labels y) n 64 ≡ length (listed (row_edge T order list) n 64)
listed-counted T order list n =
    cells_cong _ _ n 64 (λ k y h. sym (led-has list (look T (at order k) y) ∙ look-has T (at order k) y h)) ∙ sym (listed-length (row_edge T order list) n 64)

-- at most one edge a label
cell_few : (k y : ℕ) (o : Option ℕ) → length (cell k y o) ≤ 1
unfolding cell
cell_few k y none = omega arith
cell_few k y (some t) = omega arith

row_few : (next : ℕ → Option ℕ) (k y : ℕ) → length (row next k y) ≤ y
unfolding row
row_few next k zero = omega arith
row_few next k (suc y) =
    rw (length-append (row next k y) (cell k y (next y))) (omega (arith, row_few next k y, cell_few k y (next y)))

listed_few : (next : ℕ → ℕ → Option ℕ) (n : ℕ) → length (listed next n 64) ≤ n * 64
listed_few next n = rw (listed-length next n 64) (cells_max _ n 64)

-- ---- labels without an edge

row_skip : (next : ℕ → Option ℕ) (k y z : ℕ) → y ≤ z → ((j : ℕ) → y ≤ j → j < z → next j ≡ none) → row next k z ≡ row next k y
unfolding row cell
row_skip next k y zero l h = let none_left : 0 ≡ y = omega arith in ap (row next k) none_left
row_skip next k y (suc z) l h = cases_of (eqb y (suc z))
    (λ q. ap (row next k) (sym (eqb-true y (suc z) q)))
    (λ q. let w : y ≤ z = omega (arith, eqb-false y (suc z) q) in
    rw (h z w (omega arith)) (append-nil (row next k z) ∙ row_skip next k y z w (λ j a b. h j a (omega arith))))

-- where no row has a label from m on, the labels below m are enough
pub listed-short : (next : ℕ → ℕ → Option ℕ) (n m : ℕ) → m ≤ 64 → ((k y : ℕ) → k < n → m ≤ y → next k y ≡ none) → listed next n 64 ≡ listed next n m
unfolding listed
listed-short next zero m l h = refl
listed-short next (suc n) m l h =
    ap₂ (λ (a b : List Edge). a ++ b) (listed-short next n m l (λ k y i. h k y (omega arith)))
    (row_skip (next n) n m 64 l (λ j a b. h n j (omega arith) a))

-- ---- drawn

pub listed_more : (next : ℕ → ℕ → Option ℕ) (k m : ℕ) → listed next (k + 1) m ≡ listed next k m ++ row (next k) k m
unfolding listed
listed_more next k m = rw (add-one k)

-- edges drawn behind edges
pub edges_drawn : {s₀ : List ℕ} {at : ℕ} {s s' : List ℕ} {pen pen' : Pen} (p : Profile) (es fs : List Edge) →
    EdgesDrawn p s₀ at es s pen → EdgesDrawn p (inked s pen) (place_of pen) fs s' pen' → EdgesDrawn p s₀ at (es ++ fs) s' pen'
edges_drawn p es fs d e = rw (length-append es fs, widths_append p (length es) (length fs), flat_append es fs) (drawn-behind d e)

-- edges as many as a table can have end where a pen can go on
edges_near : (p : Profile) {s₀ : List ℕ} {at : ℕ} {s : List ℕ} {pen : Pen} (es : List Edge) →
    EdgesDrawn p s₀ at es s pen → length es ≤ 65536 → place_of pen ≤ at + 1572864
edges_near p es d few = omega (arith, d.place, total_edges p (length es), edges_high p p.usable (length es) few)

pub listed_near : (p : Profile) {s₀ : List ℕ} {at : ℕ} {s : List ℕ} {pen : Pen} (next : ℕ → ℕ → Option ℕ) (k : ℕ) →
    EdgesDrawn p s₀ at (listed next k 64) s pen → k ≤ 256 → place_of pen ≤ at + 1572864
listed_near p next k d h = edges_near p (listed next k 64) d (omega (arith, listed_few next k))

-- The row of a state with the labels `set`, drawn up to a label; `rest` holds the labels from there on.
pub record RowUpTo (p : Profile) (next : ℕ → Option ℕ) (k set : ℕ) (s₀ : List ℕ) (at : ℕ) (s : List ℕ) (pen : Pen) (rest : ℕ)
    : Type 0 where
  pub label : ℕ
  pub most : label ≤ 64
  pub edges : EdgesDrawn p s₀ at (row next k label) s pen
  pub from : From set label rest

pub row-begun : (p : Profile) (next : ℕ → Option ℕ) (k set : ℕ) (s : List ℕ) (pen : Pen) → Ready pen →
    RowUpTo p next k set (inked s pen) (place_of pen) s pen set
unfolding row edge_widths flat
row-begun p next k set s pen h = record {
  label = 0;
  most = omega arith;
  edges = drawn_none s pen h;
  from = from_all set;
}

module _ {p : Profile} {next : ℕ → Option ℕ} {k set : ℕ} {s₀ : List ℕ} {at : ℕ} {s : List ℕ} {pen : Pen} {rest : ℕ}
    (r : RowUpTo p next k set s₀ at s pen rest) where
  pub row_near : place_of pen ≤ at + 1572864
  row_near = edges_near p (row next k r.label) r.edges (omega (arith, row_few next k r.label, r.most))

  module _ (only : (j : ℕ) → holds set j ≡ false → next j ≡ none) where
    pub row_more : (y t : ℕ) → y < 64 → Lowest rest y → next y ≡ some t → {s' : List ℕ} {pen' : Pen} {rest' : ℕ}
        → EdgesDrawn p (inked s pen) (place_of pen) (record { source = k; label = y; target = t } ∷ []) s' pen'
        → ((j : ℕ) → holds rest' j ≡ (holds rest j && not (eqb y j))) → RowUpTo p next k set s₀ at s' pen' rest'
    unfolding row cell
    row_more y t high lowest is d less = record {
      label = suc y;
      most = omega arith;
      edges = rw is (edges_drawn p (row next k y) _ (rw same r.edges) d);
      from = from_next r.from y lowest less;
    }
      where
        same : row next k y ≡ row next k r.label
        same = row_skip next k r.label y (from_above r.from y lowest.there) (λ j a b. only j (from_gap r.from y lowest j a b))

    pub row-ended : rest ≡ 0 → EdgesDrawn p s₀ at (row next k 64) s pen
    row-ended e = rw all r.edges
      where
        all : row next k 64 ≡ row next k r.label
        all = row_skip next k r.label 64 r.most (λ j a b. only j (from_none r.from e j a))
