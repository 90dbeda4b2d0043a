use mathlib.Core.Path.{refl, sym, ap, ap₂, ◌∙◌}
use mathlib.Core.Bool.{Bool}
use Prim.Native.Nat.{ℕ, ◌+◌, ◌<◌}
use lib.ListN.{length}
use native.Mathlib.Omega.{arith}
use Rattle.meaning.specs.Search.{count, at}
use Rattle.meaning.specs.Listing as Listing
use Rattle.sets.specs.Sets.{holds}
use Rattle.std.proofs.lemmas.List.{get_or_default}
use Rattle.table.specs.declared.Row.{Row}
use Rattle.table.specs.Table.{row, blank}
use Rattle.storing.proofs.Counting.{holds-count}
use Rattle.storing.proofs.Laws.{cells_more}
use Rattle.storing.proofs.edge_count.Goals as goal

pub loop-state-init : goal.loop-state-init
unfolding Listing.cells
loop-state-init c = (omega arith, refl)

pub loop-state-preserved : goal.loop-state-preserved
loop-state-preserved c =
    let loop = c.loop-state in
    let a = c.args in
    let there : c.from.result < length a.rows.now = omega (arith, c.from.ensures, c.requires.1 loop.state-index c.loop-state-test.true) in
    let is = get_or_default a.rows.now c.from.result _ blank there in
    let test : ℕ → ℕ → Bool = λ i y. holds (row a.rows.now (at a.order.now i)).labels y in (
      omega (arith, c.size-e.ensures.1, loop.invariant.0),
      ap₂ (λ (i j : ℕ). i + j) loop.invariant.1 (c.size-e.ensures.0 ∙ holds-count 64 _ c.size-e.ensures.2 ∙ ap (λ (r : Row). count (holds r.labels) 64) is ∙ ap (λ (s : ℕ). count (holds (row a.rows.now s).labels) 64) c.from.ensures) ∙ sym (cells_more test loop.state-index 64),
    )
