-- What pack answers in each of its cases, and what accepted lists are.
-- Assumes nothing.
use mathlib.Core.Path.{◌≡◌, sym, ap, ◌∙◌}
use mathlib.Core.Bool.{true}
use mathlib.Core.List.{List, [], ◌∷◌}
use Prim.Native.Nat.{ℕ, ◌*◌, ◌/◌, ◌%◌, ◌≤◌}
use native.Mathlib.Omega.{arith}
use lib.Dec.{eqb}
use lib.ListN.{length}
use borrow.Author.Tests.{eq-eqb, eqb-true}
use Rattle.meaning.specs.Filter.{Filter}
use Rattle.refusals.specs.declared.Refusal.{Refusal}
use Rattle.refusals.specs.Refusals.{accepted, laid}
use Rattle.refusals.proofs.Laws.{promise_refused, promise_accepted}
use Rattle.layout.specs.declared.profile.Profile.{Profile}
use Rattle.layout.specs.Layout.{flat, threes, from_lists, length_of, written}
use Rattle.layout.specs.Code.{Usable}
use Rattle.layout.proofs.EdgeLists.{length-flat, threes-flat, flat-threes, length-threes}
use Rattle.files.specs.Tests.{Writable, Written, write_written, writable_write}
use Rattle.packing.specs.Promise.{Packed}
use Rattle.std.specs.Prelude.{Ok, Err}
use Rattle.packing.specs.Promise.{packed_outcome, pack_of, PackPromise}

module _ (P : Profile) (ok : Usable P) where
  module _ (cs es : List ℕ) (m st room : ℕ) (vs : List ℕ) (h : pack_of P cs es m st room ≡ accepted vs) where
    pub pack_passed : Written P (from_lists cs es m st) (eqb (length es % 3) 0) room vs
    unfolding pack_of
    pack_passed = write_written P (from_lists cs es m st) (eqb (length es % 3) 0) room vs h

    pub whole_edges : length es ≡ 3 * (length es / 3)
    whole_edges = omega (arith, eqb-true (length es % 3) 0 pack_passed.is_whole)

    -- the edges are as many as a third of their bytes
    pub count-listed : length (threes es) ≡ length es / 3
    count-listed = length-threes (length es / 3) es whole_edges

    pub flat-listed : flat (threes es) ≡ es
    flat-listed = flat-threes (length es / 3) es whole_edges

-- the lists of a filter that can be written are accepted
pub pack_accepts : (P : Profile) (F : Filter) (room : ℕ) → Writable P F → length_of P F ≤ room →
    pack_of P F.colours (flat F.edges) F.labels F.start room ≡ accepted (length_of P F ∷ [])
unfolding pack_of
pack_accepts P F room w l =
    let whole : eqb (length (flat F.edges) % 3) 0 ≡ true = eq-eqb (length (flat F.edges) % 3) 0 (rw (length-flat F.edges) (omega arith)) in
    rw (whole, threes-flat F.edges) (writable_write P F room w l)

-- what pack's lists make of its answer: nothing of the room is changed by a refusal, and the file is laid into it otherwise
pub pack_refused : (P : Profile) (cs es : List ℕ) (m st : ℕ) (room : List ℕ) (r : Packed) (why : Refusal) →
    packed_outcome r ≡ pack_of P cs es m st (length room) → r ≡ Err why → PackPromise P cs es m st room r room
pack_refused P cs es m st room r why h e = rw e (promise_refused _ why _ (sym h ∙ ap packed_outcome e))

pub pack_laid : (P : Profile) (cs es : List ℕ) (m st : ℕ) (room : List ℕ) (r : Packed) (n : ℕ) →
    packed_outcome r ≡ pack_of P cs es m st (length room) → r ≡ Ok n →
    PackPromise P cs es m st room (Ok n) (laid (written P (from_lists cs es m st)) room)
pack_laid P cs es m st room r n h e = promise_accepted _ _ _ (sym h ∙ ap packed_outcome e)
