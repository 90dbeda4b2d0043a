-- `tracing::trace_in` meets its contract: the check's answer decides, then the rooms, then the labels, and then the ride. Assumes nothing.
use mathlib.Core.Path.{◌≡◌, ap, ap₂, sym, ◌∙◌}
use mathlib.Core.Bool.{false, ◌||◌}
use mathlib.Core.List.{List}
use mathlib.Core.Option.{Option}
use Prim.Native.Nat.{ℕ, ◌+◌, ◌≤◌, ◌<◌}
use native.Mathlib.Omega.{arith}
use borrow.Author.Tests.{lt-ltb, le-ltb}
use lib.Dec.{ltb}
use lib.ListN.{length}
use lib.Pow.{pow_mono}
use Rattle.meaning.specs.Search.{at}
use Rattle.meaning.specs.Trace.{edge, ridden, halted, shown, stops}
use Rattle.refusals.specs.Refusals.{laid}
use Rattle.layout.specs.declared.profile.Profile.{Profile}
use Rattle.layout.specs.declared.Reading.{Reading}
use Rattle.layout.specs.Contents.{states_in, labels_in, start_in, filter_in}
use Rattle.layout.proofs.Bounds.{labels_fit, labels_low, states_high}
use Rattle.files.specs.Tests.{ReadIs}
use Rattle.files.proofs.Accepted.{reading_is}
use Rattle.std.specs.Prelude.{Ok}
use Rattle.checking.specs.Promise.{Checked, checked_outcome}
use Rattle.checking.proofs.Calls.{refused_is}
use Rattle.table.specs.Table.{Table}
use Rattle.loading.specs.Loading.{Tabled}
use Rattle.loading.proofs.Laws.{tabled, look-within}
use Rattle.observed.specs.Observed.{first_outside, found}
use Rattle.observed.proofs.Laws.{all_inside}
use Rattle.tracing.specs.Answers.{ride_outcome}
use Rattle.tracing.specs.Riding.{Stand}
use Rattle.tracing.proofs.Calls.{trace_refused, trace_short, trace_label, trace_ridden}
use Rattle.tracing.proofs.trace_in.Goals as goal

-- the rooms are long enough
roomy : (ys room : List ℕ) → length ys ≤ 65535 → length ys + 1 ≤ length room → ltb 65535 (length ys) || ltb (length room) (length ys + 1) ≡ false
roomy ys room few long = rw (le-ltb _ _ few, le-ltb (length room) (length ys + 1) long)

start_of : (p : Profile) (s : List ℕ) (n : ℕ) → n ≡ start_in p s → n ≡ (filter_in p s).start
unfolding filter_in
start_of p s n h = h

module _ {p : Profile} {file : List ℕ} {r : Checked} {T : Table} (pre : Tabled p file r T) where
  -- a ride can be in each state of the file
  stand : (hues : List ℕ) → length hues ≡ 256 → (s : ℕ) → s < states_in p file → Stand T hues s
  stand hues long s h = record {
    row = record { long = omega (arith, pre.rows.long) };
    coloured = omega (arith, states_high p p.usable file);
  }

  module _ {reading : Reading} (e : r ≡ Ok reading) where
    is_read : ReadIs p file reading
    is_read = reading_is p file reading (sym pre.answer ∙ ap checked_outcome e)

    -- what the labels' test found, by the file's own number of labels
    outside : (ys : List ℕ) (o : Option ℕ) → o ≡ first_outside reading.labels ys → first_outside (labels_in p file) ys ≡ o
    outside ys o h = ap (λ (m : ℕ). first_outside m ys) (sym is_read.labels_are) ∙ sym h

-- ---- the goals

pub returns-in_default : goal.returns-in_default
returns-in_default c =
    trace_refused _ _ _ _ c.unwrap_err.result (refused_is _ _ _ c.load-checked.ensures.answer _ c.unwrap_err.ensures)

pub returns-then-count-gt65535 : goal.returns-then-count-gt65535
returns-then-count-gt65535 c =
    let pre = tabled _ _ _ _ _ c.requires c.load-checked.ensures in
    rw c.refused.ensures (trace_short _ _ _ _ _ (is_read pre c.in-Ok.is).answer (rw (lt-ltb _ _ c.if-count-gt65535.true)))

pub returns-then-colours-count : goal.returns-then-colours-count
returns-then-colours-count c =
    let pre = tabled _ _ _ _ _ c.requires c.load-checked.ensures in
    rw c.refused-then-colours-count.ensures
    (trace_short _ _ _ _ _ (is_read pre c.in-Ok.is).answer (rw (le-ltb _ _ c.if-count-gt65535.false, lt-ltb _ _ c.if-colours-count.true)))

pub returns-in-Some : goal.returns-in-Some
returns-in-Some c =
    let pre = tabled _ _ _ _ _ c.requires c.load-checked.ensures in
    let ys = c.args.observations.now in
    rw c.refused-in-Some.ensures
    (trace_label _ _ _ _ _ (is_read pre c.in-Ok.is).answer (roomy ys c.args.colours.now c.if-count-gt65535.false c.if-colours-count.false) _
    (outside pre c.in-Ok.is ys _ (ap found (sym c.in-Some.is) ∙ c.first_outside.ensures)))

pub colours_of-hues-requires : goal.colours_of-hues-requires
colours_of-hues-requires c =
    let pre = tabled _ _ _ _ _ c.requires c.load-checked.ensures in
    (is_read pre c.in-Ok.is).states_are

pub ride_through-requires : goal.ride_through-requires
ride_through-requires c =
    let a = c.args in
    let file = a.file.now in
    let ys = a.observations.now in
    let pre = tabled _ _ _ _ _ c.requires c.load-checked.ensures in
    let is = is_read pre c.in-Ok.is in
    let state = stand pre c.colours_of-hues.result c.colours_of-hues.ensures.long in
    record {
      few = c.if-count-gt65535.false;
      labels = λ i. omega (
        arith,
        all_inside (labels_in a.p file) ys (labels_low a.p file) (outside pre c.in-Ok.is ys _ (ap found (sym c.in_default-first_outside.is) ∙ c.first_outside.ensures)) i,
        labels_fit a.p a.p.usable file,
        pow_mono {j = 6} pre.labels≤6,
      );
      roomy = c.if-colours-count.false;
      begins = state c.in-Ok.reading.start (omega (arith, is.start_is, is.sound.start_in_lem));
      leads = λ s y t e. state t (look-within a.p a.p.usable file _ c.load-checked.new.rows is.answer (pre.edges _ is.answer) s y t e).2;
    }

pub returns : goal.returns
unfolding shown stops
returns c =
    let a = c.args in
    let file = a.file.now in
    let ys = a.observations.now in
    let room = a.colours.now in
    let pre = tabled _ _ _ _ _ c.requires c.load-checked.ensures in
    let is = is_read pre c.in-Ok.is in
    let F = filter_in a.p file in
    let from_start : c.in-Ok.reading.start ≡ F.start = start_of a.p file c.in-Ok.reading.start is.start_is in
    let by-table = pre.edges _ is.answer in
    trace_ridden a.p file ys room _ is.answer (roomy ys room c.if-count-gt65535.false c.if-colours-count.false) c.ride_through.result _
    (outside pre c.in-Ok.is ys _ (ap found (sym c.in_default-first_outside.is) ∙ c.first_outside.ensures))
    (c.ride_through.ensures.answer ∙ ap₂ (λ (next : ℕ → ℕ → Option ℕ) (s : ℕ). ride_outcome (halted next s ys)) by-table from_start)
    (c.ride_through.ensures.colours
    ∙ ap₂ (λ (next : ℕ → ℕ → Option ℕ) (s : ℕ). laid (ridden next (at c.colours_of-hues.result) s ys) room) by-table from_start
    ∙ ap (λ (hue : ℕ → ℕ). laid (ridden (edge F) hue F.start ys) room) c.colours_of-hues.ensures.colours)
