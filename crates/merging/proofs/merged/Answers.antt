-- `merging::merged` meets its contract. Assumes nothing.
use mathlib.Core.Path.{◌≡◌, sym, ap, ◌∙◌, subst}
use mathlib.Core.List.{List}
use Prim.Native.Nat.{ℕ, ◌≤◌}
use native.Mathlib.Omega.{arith}
use lib.ListN.{length, take}
use Rattle.meaning.specs.Search.{at}
use Rattle.meaning.specs.SearchLaws.{length-tab}
use Rattle.meaning.specs.Filter.{Filter}
use Rattle.meaning.specs.Classes.{classes}
use Rattle.layout.specs.declared.profile.Profile.{Profile}
use Rattle.layout.specs.declared.Reading.{Reading}
use Rattle.layout.specs.Layout.{length_of, written}
use Rattle.refusals.specs.Refusals.{laid}
use Rattle.table.specs.Table.{Table}
use Rattle.storing.specs.Stored.{stored, Packable}
use Rattle.merging.specs.Merged.{merged_by, Foldable}
use Rattle.merging.proofs.Making.{ordered, take-laid, few_classes, order_long, named_low, Ready, numbers_laid, can_store, hues_long, filter_made}
use Rattle.merging.proofs.merged.Goals as goal
use Rattle.merging.proofs.merged.Goals.{After-colours_by}

module _ {p : Profile} {T₀ : Table} {colours names : List ℕ} {r : Reading} {answer room : ℕ} (can : Foldable p T₀ colours names r answer room) where
  few : (k : ℕ) → k ≡ classes r.states (take r.states names) → k ≤ 256
  few k e = omega (arith, e, few_classes can)

  -- the room for the order begins with the names of the classes
  module _ (k : ℕ) (order₀ order₁ : List ℕ) (k_is : k ≡ classes r.states (take r.states names)) (laid_is : order₁ ≡ laid (ordered r.states (take r.states names)) order₀) where
    order_is : take k order₁ ≡ ordered r.states (take r.states names)
    order_is = take-laid _ _ _ _ laid_is (k_is ∙ sym (length-tab _ _))

    count_is : k ≡ length (take k order₁)
    count_is = k_is ∙ sym (order_long can order_is)

  -- what is written is the filter of the classes
  filter_of : {T : Table} {order list hues : List ℕ} {start : ℕ} → Ready can T order list hues → start ≡ at list r.start →
      stored T order list hues r.labels start ≡ merged_by T₀ colours names r
  filter_of {T} {order} {list} {hues} ready e = ap (stored T order list hues r.labels) e ∙ filter_made can ready

-- what the steps before the writing have made
made : (c : After-colours_by) →
    Ready c.requires c.gather.new.rows (take c.numbered-count.result c.numbered-count.new.order) c.numbered-count.new.list
    (take c.numbered-count.result c.colours_by.new.hues)
made c =
    let k = c.numbered-count.result in
    let numbered = c.numbered-count.ensures in
    record {
      order_is = order_is c.requires k _ c.numbered-count.new.order numbered.count numbered.names;
      numbers = numbers_laid c.requires c.numbered-count.new.list c.args.list.now numbered.list;
      long = omega (arith, c.numbered-count.auto.list, c.requires.list_room);
      gathered = c.gather.ensures;
      hues_are = take-laid _ _ _ _ c.colours_by.ensures (count_is c.requires k _ c.numbered-count.new.order numbered.count numbered.names ∙ sym (length-tab _ _));
    }

pub slice_bounds-order-end : goal.slice_bounds-order-end
slice_bounds-order-end c = omega (arith, few c.requires _ c.numbered-count.ensures.count, c.numbered-count.auto.order, c.filled-order.ensures.1)

pub slice_bounds-order-end-2 : goal.slice_bounds-order-end-2
slice_bounds-order-end-2 c = omega (arith, few c.requires _ c.numbered-count.ensures.count, c.numbered-count.auto.order, c.filled-order.ensures.1)

pub slice_bounds-colours_by-end : goal.slice_bounds-colours_by-end
slice_bounds-colours_by-end c =
    count_is c.requires _ _ c.numbered-count.new.order c.numbered-count.ensures.count c.numbered-count.ensures.names

pub colours_by-requires : goal.colours_by-requires
colours_by-requires c =
    let k = c.numbered-count.result in
    let numbered = c.numbered-count.ensures in
    let is = count_is c.requires k _ c.numbered-count.new.order numbered.count numbered.names in
    record {
      order_in_bounds = (omega (arith, few c.requires k numbered.count, is, c.filled-hues.ensures.1), c.requires.colours_long);
      by_index = named_low c.requires (order_is c.requires k _ c.numbered-count.new.order numbered.count numbered.names);
    }

pub slice_bounds-hues-end : goal.slice_bounds-hues-end
slice_bounds-hues-end c =
    omega (arith, few c.requires _ c.numbered-count.ensures.count, c.colours_by.auto.hues, c.filled-hues.ensures.1)

pub slice_bounds-write-end : goal.slice_bounds-write-end
slice_bounds-write-end c =
    count_is c.requires _ _ c.numbered-count.new.order c.numbered-count.ensures.count c.numbered-count.ensures.names
    ∙ hues_long c.requires (made (goal.at.slice_bounds-write-end c).After-colours_by)

pub slice_bounds-write-end-2 : goal.slice_bounds-write-end-2
slice_bounds-write-end-2 c =
    count_is c.requires _ _ c.numbered-count.new.order c.numbered-count.ensures.count c.numbered-count.ensures.names

pub write-length-requires : goal.write-length-requires
write-length-requires c =
    let a = c.args in
    let can = c.requires in
    let ready = made (goal.at.write-length-requires c).After-colours_by in
    record {
      rows = can_store can ready;
      labels = can.labels;
      coloured = hues_long can ready;
      packable = subst (λ (F : Filter). Packable a.p F (length a.answer.now)) (sym (filter_of can ready c.from-start.ensures)) can.answer_room;
    }

pub returns : goal.returns
returns c =
    let a = c.args in
    let filter = filter_of c.requires (made (goal.at.returns c).After-colours_by) c.from-start.ensures in
    record {
      answer = c.write-length.ensures.bytes ∙ ap (λ (F : Filter). laid (written a.p F) a.answer.now) filter;
      list = c.numbered-count.ensures.list;
      states = c.numbered-count.ensures.count;
      length = c.write-length.ensures.length ∙ ap (length_of a.p) filter;
    }
