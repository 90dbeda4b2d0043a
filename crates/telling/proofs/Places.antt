-- The refusals of unpack, pack, reduce and the conversions, of any usable profile: a number of at most two digits, and a place of at most six.
-- So what a C caller gets is the place itself times 256 plus the number, as of check and trace. Only a drawing's place can be larger.
-- Assumes nothing.
use Prim.Native.Nat.{ℕ, ◌+◌, ◌*◌, ◌^◌, ◌≤◌}
use mathlib.Core.Path.{◌≡◌, refl}
use mathlib.Core.List.{List}
use mathlib.Core.Option.{none}
use native.Mathlib.Nat.{mul-le-mul, le_trans}
use native.Mathlib.Omega.{arith}
use lib.ListN.{length}
use borrow.Author.Tests.{lt-ltb, ltb-false, not-false}
use Rattle.meaning.specs.Cases.{and_left}
use Rattle.meaning.specs.Filter.{states}
use Rattle.layout.specs.declared.profile.Profile.{Profile}
use Rattle.layout.specs.Layout.{fault_colour, from_lists}
use Rattle.layout.specs.Contents.{filter_in}
use Rattle.layout.specs.Code.{Usable}
use Rattle.layout.proofs.Bounds.{states-pow, labels_pow}
use Rattle.refusals.specs.Refusals.{Outcome, refused, room_test}
use Rattle.edges.specs.Faults.{listed_from, first_fault, first_leaving}
use Rattle.files.specs.Files.{check_of, holdable, write_tests, write_of}
use Rattle.files.specs.Tests.{held}
use Rattle.files.specs.Places.{Small, small_accepted, small_first, small_onward, listed_small, small_edges, small_leaving, listed_leaving, check_small}
use Rattle.unpacking.specs.Promise.{unpack_tests, unpack_of}
use Rattle.unpacking.specs.Promise as unpacking
use Rattle.packing.specs.Promise.{pack_of}
use Rattle.reduction.specs.Reducing.{reduce_tests, reduce_of}
use Rattle.folding.specs.Folding as folding
use Rattle.converting.specs.Promise.{convert_tests, convert_of}
use Rattle.telling.specs.Codes.{code_of}

module _ (P : Profile) (ok : Usable P) where
  pub unpack_small : (s : List ℕ) (room : unpacking.Rooms) → Small (unpack_of P s room)
  unfolding unpack_of
  unpack_small s room = small_onward (check_of P s) _ (check_small P ok s) (small_first (unpack_tests P s room) _ refl (λ _. small_accepted _))

  pub pack_small : (cs es : List ℕ) (m st room : ℕ) → Small (pack_of P cs es m st room)
  unfolding pack_of write_of write_tests
  pack_small cs es m st room =
      let F = from_lists cs es m st in
      small_first (write_tests P F _) _ refl λ p.
      let h = held P cs m (and_left (holdable P cs m) _ (not-false _ p.0)) in
      let most : states F * m ≤ 256 * 256 = mul-le-mul (le_trans h.states_high (states-pow P ok)) (le_trans h.labels_high (labels_pow P ok)) in
      let few = ltb-false (states F * m) (length F.edges) p.1.1.0 in
      small_edges (first_fault (states F) m none (listed_from 0 F.edges)) _
      (λ f e. let r = listed_small (states F) m 0 none F.edges f e in (r.0, omega (arith, r.1, most, few)))
      (small_leaving (first_leaving (fault_colour P) cs (listed_from 0 F.edges)) _
      (λ f e. let r = listed_leaving (fault_colour P) cs 0 F.edges f e in (r.0, omega (arith, r.1, most, few)))
      (small_first (room_test _ room) _ refl (λ _. small_accepted _)))

  pub reduce_small : (s : List ℕ) (room : folding.Rooms) → Small (reduce_of P s room)
  unfolding reduce_of
  reduce_small s room = small_onward (check_of P s) _ (check_small P ok s) (small_first (reduce_tests P s room) _ refl (λ _. small_accepted _))

  pub convert_small : (To : Profile) (s : List ℕ) (room : ℕ) → Small (convert_of P To s room)
  unfolding convert_of
  convert_small To s room = small_onward (check_of P s) _ (check_small P ok s) (small_first (convert_tests To (filter_in P s) room) _ refl (λ _. small_accepted _))

-- a place that is small is told whole
pub told_whole : (o : Outcome) → Small o → (k p : ℕ) → o ≡ refused k p → code_of o ≡ p * 256 + k
told_whole o small k p e = rw (e, lt-ltb p (2 ^ 56) (omega (arith, (small k p e).1)))
