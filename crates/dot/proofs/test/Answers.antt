-- `dot::test` meets its contract: past each test its condition is false in the definition too. Assumes nothing.
use mathlib.Core.Path.{◌≡◌, ap, sym, ◌∙◌}
use mathlib.Core.Bool.{true}
use mathlib.Core.List.{List, [], ◌∷◌}
use mathlib.Core.Option.{none}
use Prim.Native.Nat.{ℕ, ◌*◌, ◌≤◌}
use native.Mathlib.Nat.{mul-le-mul, le_trans}
use native.Mathlib.Omega.{arith}
use Rattle.std.proofs.lemmas.Result.{err_from_is_err_and}
use Rattle.layout.specs.declared.profile.Profile.{Profile}
use Rattle.layout.specs.Layout.{fault_colour, bytes_for, file_length}
use Rattle.layout.proofs.Bounds.{states-pow, labels_pow}
use Rattle.refusals.specs.Refusals.{accepted, first_of, room_test}
use Rattle.edges.specs.Walk.{Verdict}
use Rattle.edges.specs.Faults.{listed_from, or_else, first_fault, first_leaving}
use Rattle.edges.specs.Walk.{fault_of}
use Rattle.files.specs.Files.{holdable}
use Rattle.files.specs.Tests.{Held, held}
use Rattle.drawing.specs.Reader.{colours_of, edges_of, read_of}
use Rattle.surveying.specs.declared.Survey.{Survey}
use Rattle.dot.specs.Promise.{made_outcome}
use Rattle.dot.specs.Tests.{Testable}
use Rattle.dot.proofs.Texts.{states_are, fault_is_lem}
use Rattle.dot.proofs.Calls.{not_held, too_many, onto_edges}
use Rattle.dot.proofs.test.Goals as goal
use Rattle.dot.proofs.test.Goals.{Else-not-holdable}

-- ---- the tests that were passed

module _ (p : Profile) (text : List ℕ) (s : Survey) (verdict : Verdict) (ok : Testable p text s verdict)
    (holds : holdable p (colours_of (read_of text)) s.labels ≡ true) where
  is_held : Held p (colours_of (read_of text)) s.labels
  is_held = held _ _ _ holds

  states≤256 : s.states ≤ 256
  states≤256 = omega (arith, states_are _ _ ok.known, is_held.states_high, states-pow p p.usable)

  labels≤256 : s.labels ≤ 256
  labels≤256 = le_trans is_held.labels_high (labels_pow p p.usable)

  product≤65536 : s.states * s.labels ≤ 65536
  product≤65536 = mul-le-mul states≤256 labels≤256

  -- the verdict on a filter that a file can hold
  fault : let read = read_of text in
      let edges = listed_from 0 (edges_of read) in
      fault_of verdict ≡ or_else (first_fault s.states s.labels none edges) (first_leaving (fault_colour p) (colours_of read) edges)
  fault = ok.fault ∙ fault_is_lem _ _ _ ok.known states≤256 labels≤256

holds : (c : Else-not-holdable) → holdable c.args.p (colours_of (read_of c.args.text.now)) c.args.s.labels ≡ true
holds c = sym c.holdable.ensures ∙ c.if-not-holdable.false

-- ---- the needs

pub returns-then-not-holdable : goal.returns-then-not-holdable
returns-then-not-holdable c =
    let no = sym c.holdable.ensures ∙ c.if-not-holdable.true in
    ap made_outcome c.not_made.ensures ∙ sym (not_held _ _ _ c.requires.known _ no)

pub overflow_mul-n : goal.overflow_mul-n
overflow_mul-n c = omega (arith, product≤65536 _ _ _ _ c.requires (holds (goal.at.overflow_mul-n c).Else-not-holdable))

pub returns-then-n-s : goal.returns-then-n-s
returns-then-n-s c =
    ap made_outcome c.not_made-then-n-s.ensures
    ∙ sym (too_many _ _ _ c.requires.known _ (holds (goal.at.returns-then-n-s c).Else-not-holdable) c.if-n-s.true)

pub file_bits-requires : goal.file_bits-requires
file_bits-requires c =
    let h = holds (goal.at.file_bits-requires c).Else-not-holdable in
    (states≤256 _ _ _ _ c.requires h, le_trans c.if-n-s.false (product≤65536 _ _ _ _ c.requires h))

pub returns : goal.returns
unfolding file_length
returns c =
    let h = holds (goal.at.returns c).Else-not-holdable in
    let clear = sym (fault _ _ _ _ c.requires h) ∙ ap fault_of c.in_ok-verdict.was in
    let length = c.bytes_for.ensures ∙ ap bytes_for c.file_bits.ensures.0 in
    c.test_room.ensures
    ∙ ap (λ (n : ℕ). first_of (room_test n c.args.room) (accepted (n ∷ []))) length
    ∙ sym (onto_edges _ _ _ c.requires.known _ h c.if-n-s.false ∙ rw clear)

pub returns-in_err-verdict : goal.returns-in_err-verdict
returns-in_err-verdict c =
    let h = holds (goal.at.returns-in_err-verdict c).Else-not-holdable in
    let faulty = sym (fault _ _ _ _ c.requires h) ∙ ap fault_of c.in_err-verdict.was in
    let p = err_from_is_err_and c.from_residual.result c.from_residual.ensures.1 in
    rw (p.1, p.2) (sym (onto_edges _ _ _ c.requires.known _ h c.if-n-s.false ∙ rw faulty))
