-- What unpack answers in each of its cases, from what check answered.
-- Assumes nothing.
use mathlib.Core.Logic.{◌⊎◌, inl, inr}
use mathlib.Core.Path.{◌≡◌, refl, sym, ap, ◌∙◌}
use mathlib.Core.Bool.{Bool, true, false, ◌||◌}
use mathlib.Core.List.{List, ◌++◌}
use Prim.Native.Nat.{ℕ, ◌*◌, ◌≤◌, ◌<◌}
use native.Mathlib.Omega.{arith}
use lib.Dec.{ltb}
use lib.ListN.{length, drop, replicate}
use borrow.Author.Tests.{lt-ltb, le-ltb}
use Rattle.pen.specs.Runs.{fields}
use Rattle.meaning.specs.Cases.{impossible, or_left, or_right}
use Rattle.refusals.specs.declared.Kind.TheVariants.{Room}
use Rattle.refusals.specs.declared.Refusal.{Refusal}
use Rattle.refusals.specs.Refusals.{Outcome, accepted, refused, refusal_outcome, first_of, onward, laid}
use Rattle.refusals.proofs.Laws.{first_accepted, promise_refused, promise_accepted}
use Rattle.layout.specs.declared.profile.Profile.{Profile}
use Rattle.layout.specs.declared.Reading.{Reading}
use Rattle.layout.specs.Layout.{header_bits, edges_begin, flat}
use Rattle.layout.specs.Contents.{states_in, count_in, colours_in, placed_in, edges_from, edges_in}
use Rattle.layout.proofs.EdgeLists.{length-flat}
use Rattle.files.specs.Files.{numbers_in, check_of}
use Rattle.files.specs.Tests.{check_sound, ReadIs}
use Rattle.files.specs.Written.{length_colours, length-edges_in}
use Rattle.std.specs.Prelude.{Ok, Err}
use Rattle.unpacking.specs.Promise.{Rooms, rooms, unpack_tests, unpack_of, UnpackPromise}

or_neither : (a b : Bool) → a ≡ false → b ≡ false → a || b ≡ false
or_neither true b h k = h
or_neither false b h k = k

-- rooms that hold the lists pass unpack's test
pub unpack_accepts : (P : Profile) (s vs : List ℕ) (room : Rooms) → check_of P s ≡ accepted vs → states_in P s ≤ length room.colours → 3 * count_in P s ≤ length room.edges
    → unpack_of P s room ≡ accepted vs
unfolding unpack_of
unpack_accepts P s vs room h hc he =
    let roomy = or_neither (ltb (length room.colours) (states_in P s)) (ltb (length room.edges) (3 * count_in P s)) (le-ltb _ _ hc) (le-ltb _ _ he) in
    rw (h, roomy) (ap accepted (check_sound P s vs h).1)

-- an accepted unpacking is one of an accepted file
pub unpack_checked : (P : Profile) (s vs : List ℕ) (room : Rooms) → unpack_of P s room ≡ accepted vs → check_of P s ≡ accepted vs
unfolding unpack_of
unpack_checked P s vs room h = go (check_of P s) refl h
  where
    go : (o : Outcome) → check_of P s ≡ o → onward o (first_of (unpack_tests P s room) (accepted (numbers_in P s))) ≡ accepted vs → check_of P s ≡ accepted vs
    go (accepted us) q k = q ∙ ap accepted (sym (check_sound P s us q).1) ∙ (first_accepted (unpack_tests P s room) (accepted (numbers_in P s)) vs k).1
    go (refused n p) q k = impossible cc

-- a refused file ends the call with that same refusal
pub unpack_refused : (P : Profile) (s : List ℕ) (room : Rooms) (r : Refusal) → check_of P s ≡ refusal_outcome r → UnpackPromise P s room (Err r) room
unfolding unpack_of
unpack_refused P s room r h = promise_refused _ r _ (rw h)

module _ (P : Profile) (s : List ℕ) (r : Reading) (is : ReadIs P s r) (room : Rooms) where
  pub short : (length room.colours < r.states) ⊎ (length room.edges < 3 * r.edges) → UnpackPromise P s room (Err (record { kind = Room; place = 0 })) room
  unfolding unpack_of
  short l = promise_refused _ (record { kind = Room; place = 0 }) _ (rw (is.answer, given l))
    where
      given : (length room.colours < r.states) ⊎ (length room.edges < 3 * r.edges)
          → (ltb (length room.colours) (states_in P s) || ltb (length room.edges) (3 * count_in P s)) ≡ true
      given (inl h) = or_left (ltb (length room.edges) (3 * count_in P s)) (lt-ltb (length room.colours) (states_in P s) (omega (arith, is.states_are)))
      given (inr h) = or_right (ltb (length room.colours) (states_in P s)) (lt-ltb (length room.edges) (3 * count_in P s) (omega (arith, is.count_is)))

  pub unpack_filled : r.states ≤ length room.colours → 3 * r.edges ≤ length room.edges →
      UnpackPromise P s room (Ok r) (rooms (laid (colours_in P s) room.colours) (laid (flat (edges_in P s)) room.edges))
  unpack_filled lc le =
      promise_accepted _ _ _ (unpack_accepts P s _ room is.answer (omega (arith, is.states_are)) (omega (arith, is.count_is)))

-- the colours and the edges as they are read, laid into the rooms
pub colours_laid : (P : Profile) (s room : List ℕ) (at n : ℕ) → at ≡ header_bits P → n ≡ states_in P s →
    fields s at (replicate n P.colour) ++ drop n room ≡ laid (colours_in P s) room
unfolding colours_in
colours_laid P s room at n h e = sym (rw (length_colours P s, ← h, ← e))

pub edges_laid : (P : Profile) (s room : List ℕ) (at n e : ℕ) → at ≡ edges_begin P n → n ≡ states_in P s → e ≡ count_in P s →
    flat (edges_from P s at e) ++ drop (3 * e) room ≡ laid (flat (edges_in P s)) room
unfolding edges_in placed_in edges_from
edges_laid P s room at n e h k l = rw (length-flat (edges_in P s), length-edges_in P s, h, k, l)
