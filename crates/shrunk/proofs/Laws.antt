-- What the reduce call gives in rooms that hold any file is what `shrink` writes. Assumes nothing.
use Prim.Native.Nat.{ℕ, ◌≤◌}
use mathlib.Core.Path.{◌≡◌, refl, sym, ap, ◌∙◌}
use mathlib.Core.List.{List, [], ◌∷◌}
use native.Mathlib.Omega.{arith}
use lib.ListN.{length, take}
use Rattle.meaning.specs.Cases.{impossible}
use Rattle.meaning.specs.Filter.{Filter, states}
use Rattle.meaning.specs.Reduced.{reduce, reduced, distinct}
use Rattle.refusals.specs.declared.Refusal.{Refusal}
use Rattle.refusals.specs.Refusals.{Outcome, accepted, refused, refusal_outcome, onward}
use Rattle.refusals.proofs.Laws.{onward_accepted, laid_front, promise_laid}
use Rattle.layout.specs.Layout.{large, length_of, written}
use Rattle.layout.specs.Contents.{filter_in}
use Rattle.layout.proofs.Bounds.{large_usable}
use Rattle.files.specs.Files.{check_of}
use Rattle.files.specs.Tests.{check_sound, Writable}
use Rattle.files.specs.Written.{length-written, read_writable, largest-length, longest_files}
use Rattle.folding.specs.declared.Counts.{Counts}
use Rattle.folding.specs.Folding.{Rooms, counts_of}
use Rattle.folding.proofs.Accepted.{reduced_writable}
use Rattle.reduction.specs.Answers.{Reduced}
use Rattle.std.specs.Prelude.{Ok, Err}
use Rattle.reduction.specs.Answers.{reduced_outcome}
use Rattle.reduction.specs.Reducing.{reduce_of}
use Rattle.reduction.specs.Promise.{ReducePromise}
use Rattle.reduction.proofs.Calls.{roomy}
use Rattle.text.specs.Printed.{Printed}
use Rattle.text.proofs.Laws.{printed_whole}
use Rattle.shrunk.specs.Shrunk.{or_nothing, shrink_bytes}

-- the two kinds of answer, in rooms that hold any file
module _ (s : List ℕ) (room left : Rooms) (r : Reduced) (kept : ReducePromise large s room r left) (long : 45253 ≤ length room.answer) (wide : 256 ≤ length room.classes) where
  abbrev F : Filter
  F = filter_in large s

  module _ (c : Counts) (e : r ≡ Ok c) where
    answer : reduce_of large s room ≡ accepted (c.states ∷ c.colours ∷ c.rounds ∷ c.length ∷ [])
    answer = sym kept.answer ∙ ap reduced_outcome e

    checked : (us : List ℕ) × (check_of large s ≡ accepted us) × (accepted (counts_of large F) ≡ accepted (c.states ∷ c.colours ∷ c.rounds ∷ c.length ∷ []))
    checked = onward_accepted (check_of large s) _ _ (sym (roomy s room long wide) ∙ answer)

    length_is : length_of large (reduced F) ≡ c.length
    unfolding counts_of
    length_is =
        let made : states (reduced F) ∷ distinct F ∷ (reduce F).rounds ∷ length_of large (reduced F) ∷ [] ≡ c.states ∷ c.colours ∷ c.rounds ∷ c.length ∷ [] = cc checked.2 in
        cc

    writable : Writable large (reduced F)
    writable = reduced_writable large large_usable F (read_writable large large_usable s (check_sound large s _ checked.1).0)

    pub short : c.length ≤ 45253
    short = omega (arith, length_is, largest-length large (reduced F) writable, longest_files.0)

    pub bytes_are : take c.length left.answer ≡ shrink_bytes s
    unfolding shrink_bytes
    bytes_are =
        ap (take c.length) (cc (promise_laid kept answer))
        ∙ laid_front (written large (reduced F)) room.answer c.length (length-written large large_usable (reduced F) writable ∙ length_is)
        ∙ rw checked.1

  pub nothing_written : (why : Refusal) → r ≡ Err why → (lent : List ℕ) → Printed (shrink_bytes s) lent 0 lent
  unfolding shrink_bytes
  nothing_written why e lent = go (check_of large s) (sym (ap reduced_outcome e) ∙ kept.answer ∙ roomy s room long wide)
    where
      go : (o : Outcome) → refusal_outcome why ≡ onward o (accepted (counts_of large F)) → Printed (or_nothing o (written large (reduced F))) lent 0 lent
      go (accepted vs) e = impossible cc
      go (refused k p) e = printed_whole [] lent 0 lent (omega arith) refl refl
