-- `shown::put_text` meets its contract: the room refuses no ride, so that what the call gives is what is printed. Assumes nothing.
use mathlib.Core.Path.{◌≡◌, sym, ap, ◌∙◌}
use mathlib.Core.List.{List, ◌++◌}
use Prim.Native.Nat.{ℕ, ◌≤◌}
use native.Mathlib.Omega.{arith}
use lib.ListN.{length, take}
use lib.Seq.{length-take-le}
use Rattle.std.specs.Prelude.{Result}
use Rattle.refusals.specs.declared.Refusal.{Refusal}
use Rattle.layout.specs.Layout.{large}
use Rattle.text.specs.Decimal.{wrote}
use Rattle.tracing.specs.declared.Traced.{Traced}
use Rattle.tracing.specs.Promise.{TracePromise}
use Rattle.shown.specs.Text.{number_lines, last_line, shown_for}
use Rattle.shown.proofs.Laws.{text_is, few}
use Rattle.shown.proofs.put_text.Goals as goal

-- how many colours were shown: no more than the room has
short : (s ys room room' : List ℕ) (r : Result Traced Refusal) (k : ℕ) → length room ≡ 65536 → length room' ≡ length room → TracePromise large s ys room r room' → k ≡ shown_for r (length ys)
    → (k ≤ 65536) × (k ≤ length room') × (length (take k room') ≡ k)
short s ys room room' r k long same kept e =
    let h : shown_for r (length ys) ≤ 65536 = few s ys room room' long r kept in
    let fits : k ≤ length room' = omega arith in
    (omega arith, fits, length-take-le k room' fits)

pub shown-k-requires : goal.shown-k-requires
shown-k-requires c =
    let a = c.args in
    few a.file.now a.observations.now c.large_buffer-colours.result c.trace-answer.new.colours (omega arith) c.trace-answer.result c.trace-answer.ensures

pub slice_bounds-colours-end : goal.slice_bounds-colours-end
slice_bounds-colours-end c =
    let a = c.args in
    (short a.file.now a.observations.now c.large_buffer-colours.result c.trace-answer.new.colours c.trace-answer.result c.shown-k.result (omega arith) (omega arith) c.trace-answer.ensures c.shown-k.ensures).1

pub slice_bounds-put_trace-end : goal.slice_bounds-put_trace-end
slice_bounds-put_trace-end c =
    let a = c.args in
    sym (short a.file.now a.observations.now c.large_buffer-colours.result c.trace-answer.new.colours c.trace-answer.result c.shown-k.result (omega arith) (omega arith) c.trace-answer.ensures c.shown-k.ensures).2

pub put_trace-requires : goal.put_trace-requires
put_trace-requires c =
    let a = c.args in
    let h = short a.file.now a.observations.now c.large_buffer-colours.result c.trace-answer.new.colours c.trace-answer.result c.shown-k.result (omega arith) (omega arith) c.trace-answer.ensures c.shown-k.ensures in
    omega (arith, h.0, h.2)

pub returns : goal.returns
returns c =
    let a = c.args in
    let room = c.trace-answer.new.colours in
    let long : length c.large_buffer-colours.result ≡ 65536 = omega arith in
    let h = short a.file.now a.observations.now c.large_buffer-colours.result room c.trace-answer.result c.shown-k.result long (omega arith) c.trace-answer.ensures c.shown-k.ensures in
    let made = c.put_trace.ensures in
    let text =
    ap (λ (k : ℕ). number_lines (take k room) ++ last_line c.trace-answer.result) c.shown-k.ensures
    ∙ text_is a.file.now a.observations.now c.large_buffer-colours.result room long c.trace-answer.result c.trace-answer.ensures in (
      made.0 ∙ ap (wrote a.room.now 0) text,
      made.1 ∙ ap length text,
      omega (arith, made.2, h.0, h.2),
    )
