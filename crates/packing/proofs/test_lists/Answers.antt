-- `packing::test_lists` meets its contract: past each test its condition is false in the definition too. Assumes nothing.
use mathlib.Core.Path.{◌≡◌, ap, sym, ◌∙◌}
use mathlib.Core.Bool.{true, false}
use mathlib.Core.List.{List, ◌∷◌, []}
use mathlib.Core.Option.{Option, none}
use Prim.Native.Nat.{ℕ, ◌*◌, ◌/◌, ◌%◌, ◌<◌, ◌≤◌}
use native.Mathlib.Nat.{mul-le-mul, le_trans}
use native.Mathlib.Omega.{arith}
use borrow.Author.Tests.{lt-ltb, le-ltb, le-leb, lt-leb, eq-eqb, ne_eqb}
use lib.Dec.{eqb}
use lib.ListN.{length}
use Rattle.std.proofs.lemmas.Result.{err_from_is_err_and}
use Rattle.layout.specs.declared.profile.Profile.{Profile}
use Rattle.layout.specs.Layout.{fault_colour, bytes_for, file_bits, file_length, length_of, threes, from_lists}
use Rattle.layout.specs.Code.{Usable}
use Rattle.refusals.specs.Refusals.{accepted, first_of, room_test}
use Rattle.edges.specs.Faults.{Fault, listed_from, or_else, first_fault, first_leaving, edges_then}
use Rattle.files.specs.Files.{holdable, write_tests, write_of}
use Rattle.packing.specs.Promise.{pack_of}
use Rattle.edges.specs.Walk.{fault_of}
use Rattle.layout.proofs.Bounds.{states-pow, labels_pow}
use Rattle.layout.proofs.EdgeLists.{length-threes}
use Rattle.edges.proofs.Leaving.{then_then}
use Rattle.files.specs.Tests.{held}
use Rattle.packing.proofs.test_lists.Goals as goal

-- ---- the tests that were passed

whole_list : (es : List ℕ) → length es % 3 ≡ 0 → eqb (length es % 3) 0 ≡ true
whole_list es h = eq-eqb _ 0 h

edge_count : (es : List ℕ) → length es % 3 ≡ 0 → length (threes es) ≡ length es / 3
edge_count es h = length-threes (length es / 3) es (omega arith)

module _ (P : Profile) (cs : List ℕ) (m : ℕ) (ok : Usable P) (holds : holdable P cs m ≡ true) where
  states_few : length cs ≤ 256
  states_few = le_trans (held P cs m holds).states_high (states-pow P ok)

  product_few : length cs * m ≤ 65536
  product_few = mul-le-mul states_few (le_trans (held P cs m holds).labels_high (labels_pow P ok))

-- 7, 8 and 9 of the edges, and 17
abbrev own : List ℕ → List ℕ → ℕ → Option Fault
own cs es m = first_fault (length cs) m none (listed_from 0 (threes es))

abbrev leaving : Profile → List ℕ → List ℕ → Option Fault
leaving P cs es = first_leaving (fault_colour P) cs (listed_from 0 (threes es))

-- past the first three numbers: what the edges and the room decide
tested : (P : Profile) (cs es : List ℕ) (m st room : ℕ) → holdable P cs m ≡ true → length es % 3 ≡ 0 → st < length cs → length es / 3 ≤ length cs * m →
    pack_of P cs es m st room
    ≡ edges_then (or_else (own cs es m) (leaving P cs es))
    (first_of (room_test (length_of P (from_lists cs es m st)) room) (accepted (length_of P (from_lists cs es m st) ∷ [])))
unfolding pack_of write_of write_tests
tested P cs es m st room holds whole starts few =
    rw (holds, whole_list es whole, lt-leb _ _ starts, edge_count es whole, le-ltb _ _ few, then_then (own cs es m) (leaving P cs es))

length_is : (P : Profile) (cs es : List ℕ) (m st : ℕ) → length es % 3 ≡ 0 → bytes_for (file_bits P (length cs) (length es / 3)) ≡ length_of P (from_lists cs es m st)
unfolding length_of file_length
length_is P cs es m st whole = ap (λ (e : ℕ). bytes_for (file_bits P (length cs) e)) (sym (edge_count es whole))

-- ---- the goals

pub returns-then-not-holdable : goal.returns-then-not-holdable
unfolding pack_of write_of write_tests
returns-then-not-holdable c =
    let a = c.args in
    let no : holdable a.p a.colours.now a.m ≡ false = sym c.holdable.ensures ∙ c.if-not-holdable.true in
    rw (c.not_packed.ensures, no)

pub returns-then-edges-ne0 : goal.returns-then-edges-ne0
unfolding pack_of write_of write_tests
returns-then-edges-ne0 c =
    rw (c.not_packed-then-edges-ne0.ensures, sym c.holdable.ensures ∙ c.if-not-holdable.false, ne_eqb _ 0 c.if-edges-ne0.true)

pub returns-then-n-start : goal.returns-then-n-start
unfolding pack_of write_of write_tests
returns-then-n-start c =
    rw (
      c.not_packed-then-n-start.ensures,
      sym c.holdable.ensures ∙ c.if-not-holdable.false,
      whole_list c.args.edges.now c.if-edges-ne0.false,
      le-leb _ _ c.if-n-start.true,
    )

pub overflow_mul-n : goal.overflow_mul-n
overflow_mul-n c =
    omega (arith, product_few c.args.p c.args.colours.now c.args.m c.args.p.usable (sym c.holdable.ensures ∙ c.if-not-holdable.false))

pub returns-then-n-m : goal.returns-then-n-m
unfolding pack_of write_of write_tests
returns-then-n-m c =
    let es = c.args.edges.now in
    rw (
      c.not_packed-then-n-m.ensures,
      sym c.holdable.ensures ∙ c.if-not-holdable.false,
      whole_list es c.if-edges-ne0.false,
      lt-leb _ _ c.if-n-start.false,
      edge_count es c.if-edges-ne0.false,
      lt-ltb _ _ c.if-n-m.true,
    )

pub file_bits-requires : goal.file_bits-requires
file_bits-requires c =
    let holds = sym c.holdable.ensures ∙ c.if-not-holdable.false in
    let a = c.args in
    (states_few a.p a.colours.now a.m a.p.usable holds, le_trans c.if-n-m.false (product_few a.p a.colours.now a.m a.p.usable holds))

pub returns-in_err-test_list : goal.returns-in_err-test_list
returns-in_err-test_list c =
    let a = c.args in
    let is = sym c.test_list.ensures ∙ ap fault_of c.in_err-test_list.was in
    let p = err_from_is_err_and c.from_residual.result c.from_residual.ensures.1 in
    rw (p.1, p.2)
    (sym (tested a.p a.colours.now a.edges.now a.m a.start a.room (sym c.holdable.ensures ∙ c.if-not-holdable.false) c.if-edges-ne0.false
    c.if-n-start.false c.if-n-m.false ∙ rw is))

pub returns : goal.returns
returns c =
    let a = c.args in
    let cs = a.colours.now in
    let es = a.edges.now in
    let clear : or_else (own cs es a.m) (leaving a.p cs es) ≡ none = sym c.test_list.ensures ∙ ap fault_of c.in_ok-test_list.was in
    let bytes : c.bytes_for.result ≡ length_of a.p (from_lists cs es a.m a.start) =
    c.bytes_for.ensures ∙ ap bytes_for c.file_bits.ensures.0 ∙ length_is a.p cs es a.m a.start c.if-edges-ne0.false in
    c.test_room.ensures
    ∙ ap (λ (n : ℕ). first_of (room_test n a.room) (accepted (n ∷ []))) bytes
    ∙ sym (tested a.p cs es a.m a.start a.room (sym c.holdable.ensures ∙ c.if-not-holdable.false) c.if-edges-ne0.false c.if-n-start.false c.if-n-m.false ∙ rw clear)
