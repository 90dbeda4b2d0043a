-- The promise of reduce in each of its cases, and in rooms that hold any file.
-- Assumes nothing.
use mathlib.Core.Path.{◌≡◌, refl, sym}
use mathlib.Core.List.{List}
use Prim.Native.Nat.{ℕ, ◌≤◌, ◌<◌}
use lib.ListN.{length}
use native.Mathlib.Omega.{arith}
use borrow.Author.Tests.{lt-ltb, le-ltb}
use Rattle.layout.specs.declared.profile.Profile.{Profile}
use Rattle.refusals.specs.declared.Kind.TheVariants.{AnswerRoom, ClassRoom}
use Rattle.refusals.specs.declared.Refusal.{Refusal}
use Rattle.layout.specs.Layout.{large}
use Rattle.layout.specs.Contents.{states_in, filter_in}
use Rattle.refusals.specs.Refusals.{Outcome, accepted, refused, refusal_outcome, first_of, onward}
use Rattle.refusals.proofs.Laws.{first_passed, promise_refused, promise_accepted}
use Rattle.layout.proofs.Bounds.{large_usable, states_high}
use Rattle.files.specs.Files.{check_of}
use Rattle.files.specs.Written.{longest_files}
use Rattle.files.proofs.Accepted.{largest_file}
use Rattle.folding.specs.declared.Counts.{Counts}
use Rattle.std.specs.Prelude.{Ok, Err}
use Rattle.folding.specs.Folding.{Rooms, counts_of, Folded}
use Rattle.reduction.specs.Reducing.{reduce_tests, reduce_of}
use Rattle.reduction.specs.Promise.{ReducePromise}

module _ (P : Profile) (s : List ℕ) (room : Rooms) where
  -- a refused file ends the call with that same refusal
  pub reduce_refused : (r : Refusal) → check_of P s ≡ refusal_outcome r → ReducePromise P s room (Err r) room
  unfolding reduce_of
  reduce_refused r h = promise_refused _ r _ (rw h)

  module _ (vs : List ℕ) (h : check_of P s ≡ accepted vs) where
    pub reduce-short : length room.answer < length s → ReducePromise P s room (Err (record { kind = AnswerRoom; place = 0 })) room
    unfolding reduce_of
    reduce-short l = promise_refused _ (record { kind = AnswerRoom; place = 0 }) _ (rw (h, lt-ltb _ _ l))

    module _ (roomy : length s ≤ length room.answer) where
      pub reduce_few : length room.classes < states_in P s → ReducePromise P s room (Err (record { kind = ClassRoom; place = 0 })) room
      unfolding reduce_of
      reduce_few l = promise_refused _ (record { kind = ClassRoom; place = 0 }) _ (rw (h, le-ltb _ _ roomy, lt-ltb _ _ l))

      pub reduce_folded : states_in P s ≤ length room.classes → (c : Counts) (left : Rooms) → Folded P s room c left → ReducePromise P s room (Ok c) left
      unfolding reduce_of
      reduce_folded l c left made =
          rw (made.answer, made.classes) (promise_accepted _ _ _ (rw (h, le-ltb _ _ roomy, le-ltb _ _ l) (sym made.counts)))

-- rooms that hold any file refuse none
pub roomy : (s : List ℕ) (room : Rooms) → 45253 ≤ length room.answer → 256 ≤ length room.classes → reduce_of large s room ≡ onward (check_of large s) (accepted (counts_of large (filter_in large s)))
unfolding reduce_of
roomy s room long wide = go (check_of large s) refl
  where
    go : (o : Outcome) → check_of large s ≡ o → onward o (first_of (reduce_tests large s room) (accepted (counts_of large (filter_in large s)))) ≡ onward o (accepted (counts_of large (filter_in large s)))
    go (refused k p) e = refl
    go (accepted vs) e =
        first_passed (reduce_tests large s room) _
        (le-ltb (length room.answer) (length s) (omega (arith, largest_file large large_usable s vs e, longest_files.0)), (le-ltb (length room.classes) (states_in large s) (omega (arith, states_high large large_usable s)), tt))
