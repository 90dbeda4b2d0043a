-- `converting::convert` meets its contract: the check's answer decides, then what the other file can hold, then the room; and then the
-- lists of the file are written. Assumes nothing.
use mathlib.Core.Path.{◌≡◌, ap, sym, ◌∙◌}
use mathlib.Core.Bool.{Bool}
use mathlib.Core.List.{List}
use Prim.Native.Nat.{ℕ, ◌≤◌}
use native.Mathlib.Omega.{arith}
use lib.ListN.{length, take, length-replicate}
use lib.Seq.{length-take-le}
use Rattle.layout.specs.declared.Reading.{Reading}
use Rattle.layout.specs.declared.profile.Profile.{Profile}
use Rattle.layout.specs.Contents.{colours_in, filter_in}
use Rattle.layout.proofs.Bounds.{states_high, count_high}
use Rattle.std.specs.Prelude.{Ok}
use Rattle.checking.specs.Promise.{Checked, CheckPromise, checked_outcome}
use Rattle.checking.proofs.Calls.{refused_is}
use Rattle.files.specs.Files.{holdable}
use Rattle.files.specs.Tests.{ReadIs}
use Rattle.files.proofs.Accepted.{reading_is}
use Rattle.loading.specs.Loading.{Coloured}
use Rattle.loading.proofs.Laws.{colours_taken}
use Rattle.converting.proofs.Calls.{convert_refused, not_held, held_is, length_is, convert_short, convert_laid, few_edges, edges_taken, lists_are, lists_packed}
use Rattle.converting.proofs.convert.Goals as goal

-- ---- a file that was accepted

module _ (from : Profile) (file : List ℕ) {r : Reading} {answer : Checked} (promise : CheckPromise from file answer) (e : answer ≡ Ok r) where
  read : ReadIs from file r
  read = reading_is from file r (sym promise ∙ ap checked_outcome e)

  few_states : r.states ≤ 256
  few_states = omega (arith, read.states_are, states_high from from.usable file)

  count_few : r.edges ≤ 65536
  count_few = omega (arith, read.count_is, count_high from from.usable file)

  -- the colours of the file, and whether the other file can hold the filter
  module _ {hues : List ℕ} (coloured : Coloured from file hues) where
    hues_long : length (take r.states hues) ≡ r.states
    hues_long = length-take-le r.states hues (omega (arith, few_states, coloured.long))

    colours_are : take r.states hues ≡ colours_in from file
    colours_are = colours_taken _ _ from.usable _ _ read.states_are coloured

    tested : (to : Profile) (held : Bool) → held ≡ holdable to (take r.states hues) r.labels →
        held ≡ holdable to (filter_in from file).colours (filter_in from file).labels
    tested to held h = h ∙ held_is _ _ _ _ read _ colours_are

-- ---- the goals

pub returns-in_default : goal.returns-in_default
returns-in_default c =
    let a = c.args in
    convert_refused a.from a.to a.file.now a.room.now c.unwrap_err.result (refused_is _ _ _ c.check_as-checked.ensures _ c.unwrap_err.ensures)

pub colours_of-hues-requires : goal.colours_of-hues-requires
colours_of-hues-requires c = (read _ _ c.check_as-checked.ensures c.in-Ok.is).states_are

pub slice_bounds-hues-end : goal.slice_bounds-hues-end
slice_bounds-hues-end c =
    omega (arith, few_states c.args.from c.args.file.now c.check_as-checked.ensures c.in-Ok.is, c.colours_of-hues.ensures.long)

pub slice_bounds-colours-end : goal.slice_bounds-colours-end
slice_bounds-colours-end c = sym (hues_long c.args.from c.args.file.now c.check_as-checked.ensures c.in-Ok.is c.colours_of-hues.ensures)

pub file_bits-requires : goal.file_bits-requires
file_bits-requires c =
    let a = c.args in
    (few_states a.from a.file.now c.check_as-checked.ensures c.in-Ok.is, count_few a.from a.file.now c.check_as-checked.ensures c.in-Ok.is)

pub returns-then-not-held : goal.returns-then-not-held
returns-then-not-held c =
    let a = c.args in
    let is = c.in-Ok.is in
    rw c.into.ensures (not_held _ _ _ _ (read a.from a.file.now c.check_as-checked.ensures is) _
    (sym (tested a.from a.file.now c.check_as-checked.ensures is c.colours_of-hues.ensures a.to _ c.holdable-held.ensures) ∙ c.if-not-held.true))

pub returns-then-room-length : goal.returns-then-room-length
returns-then-room-length c =
    let a = c.args in
    let is = c.in-Ok.is in
    let reads = read a.from a.file.now c.check_as-checked.ensures is in
    let held = sym (tested a.from a.file.now c.check_as-checked.ensures is c.colours_of-hues.ensures a.to _ c.holdable-held.ensures) ∙ c.if-not-held.false in
    rw c.into-then-room-length.ensures
    (convert_short _ _ _ _ reads _ _ (length_is _ _ _ _ reads _ _ c.file_bits.ensures.0 c.bytes_for-length.ensures) held c.if-room-length.true)

pub edges_begin-requires : goal.edges_begin-requires
edges_begin-requires c = few_states c.args.from c.args.file.now c.check_as-checked.ensures c.in-Ok.is

pub get_edges-requires : goal.get_edges-requires
get_edges-requires c =
    let a = c.args in
    let is = c.in-Ok.is in
    let reads = read a.from a.file.now c.check_as-checked.ensures is in
    let held = sym (tested a.from a.file.now c.check_as-checked.ensures is c.colours_of-hues.ensures a.to _ c.holdable-held.ensures) ∙ c.if-not-held.false in
    -- the edges fit into the code's list
    let short = few_edges _ _ c.requires _ _ reads held in
    record {
      begin = c.edges_begin.ensures.1;
      few = omega (arith, short);
      holds = omega (arith, short, length-replicate {A = ℕ} 384 0);
    }

pub overflow_mul-list : goal.overflow_mul-list
overflow_mul-list c =
    let a = c.args in
    let is = c.in-Ok.is in
    let reads = read a.from a.file.now c.check_as-checked.ensures is in
    let held = sym (tested a.from a.file.now c.check_as-checked.ensures is c.colours_of-hues.ensures a.to _ c.holdable-held.ensures) ∙ c.if-not-held.false in
    omega (arith, few_edges _ _ c.requires _ _ reads held)

pub slice_bounds-list-end : goal.slice_bounds-list-end
slice_bounds-list-end c =
    let a = c.args in
    let is = c.in-Ok.is in
    let reads = read a.from a.file.now c.check_as-checked.ensures is in
    let held = sym (tested a.from a.file.now c.check_as-checked.ensures is c.colours_of-hues.ensures a.to _ c.holdable-held.ensures) ∙ c.if-not-held.false in
    omega (arith, few_edges _ _ c.requires _ _ reads held, c.get_edges.auto.out, length-replicate {A = ℕ} 384 0)

pub slice_bounds-write-end : goal.slice_bounds-write-end
slice_bounds-write-end c =
    let a = c.args in
    let is = c.in-Ok.is in
    let reads = read a.from a.file.now c.check_as-checked.ensures is in
    let held = sym (tested a.from a.file.now c.check_as-checked.ensures is c.colours_of-hues.ensures a.to _ c.holdable-held.ensures) ∙ c.if-not-held.false in
    sym (length-take-le _ c.get_edges.new.out (omega (arith, few_edges _ _ c.requires _ _ reads held, c.get_edges.auto.out, length-replicate {A = ℕ} 384 0)))

-- the lists are those of the filter, and the room holds its other file
pub write-requires : goal.write-requires
write-requires c =
    let a = c.args in
    let is = c.in-Ok.is in
    let reads = read a.from a.file.now c.check_as-checked.ensures is in
    let hues = c.colours_of-hues.ensures in
    let held = sym (tested a.from a.file.now c.check_as-checked.ensures is hues a.to _ c.holdable-held.ensures) ∙ c.if-not-held.false in
    let long = length_is _ a.to _ _ reads _ _ c.file_bits.ensures.0 c.bytes_for-length.ensures in
    -- the first bytes of the list are the edges
    let edges = edges_taken _ _ c.requires _ _ reads held _ _ c.edges_begin.result c.edges_begin.ensures.0 c.get_edges.ensures in
    lists_packed _ _ c.requires _ _ reads held _ _ (colours_are a.from a.file.now c.check_as-checked.ensures is hues) edges _ (rw (← long) c.if-room-length.false)

pub returns : goal.returns
returns c =
    let a = c.args in
    let is = c.in-Ok.is in
    let reads = read a.from a.file.now c.check_as-checked.ensures is in
    let hues = c.colours_of-hues.ensures in
    let held = sym (tested a.from a.file.now c.check_as-checked.ensures is hues a.to _ c.holdable-held.ensures) ∙ c.if-not-held.false in
    let long = length_is _ a.to _ _ reads _ _ c.file_bits.ensures.0 c.bytes_for-length.ensures in
    -- the first bytes of the list are the edges
    let edges = edges_taken _ _ c.requires _ _ reads held _ _ c.edges_begin.result c.edges_begin.ensures.0 c.get_edges.ensures in
    rw (
      c.write.ensures,
      lists_are _ _ c.requires _ _ reads held _ _ (colours_are a.from a.file.now c.check_as-checked.ensures is hues) edges,
    )
    (convert_laid _ _ _ _ reads _ _ long held c.if-room-length.false)
