-- A reduced file is itself accepted, and never longer than its original. Assumes nothing.
use Prim.Native.Nat.{ℕ, ◌*◌, ◌^◌, ◌≤◌, ◌<◌}
use mathlib.Core.Path.{◌≡◌, refl, sym, ap, ◌∙◌}
use mathlib.Core.Bool.{true}
use mathlib.Core.List.{List}
use native.Mathlib.Nat.{mul-le-mul, le_refl, le_trans}
use native.Mathlib.Omega.{arith}
use lib.Dec.{ltb}
use lib.ListN.{length}
use borrow.Author.Tests.{ltb-true}
use Rattle.bits.specs.Bits.{Bytes}
use Rattle.meaning.specs.Search.{at}
use Rattle.meaning.specs.SearchLaws.{at_tab, length-tab}
use Rattle.meaning.specs.Cases.{and_left, and_right}
use Rattle.meaning.specs.Filter.{Filter, states, inside, each, ascending, in_order}
use Rattle.meaning.specs.Trace.{edge, colour}
use Rattle.meaning.specs.Classes.{classes}
use Rattle.meaning.specs.Reduced.{has, name_of, edge', merged, reduce, reduced}
use Rattle.meaning.specs.Listing.{cells_max, listed-length}
use Rattle.meaning.proofs.Demand.{reduced-in_order, reduced-bound, reduced_edges}
use Rattle.meaning.proofs.Staying.{reduced-stays}
use Rattle.layout.specs.declared.profile.Profile.{Profile}
use Rattle.layout.specs.Layout.{fault_colour, edge_bits, edges_begin, file_bits, bytes_for, file_length, length_of, written}
use Rattle.layout.specs.Code.{Usable}
use Rattle.layout.specs.Contents.{filter_in}
use Rattle.refusals.specs.Refusals.{accepted}
use Rattle.files.specs.Files.{numbers_in, check_of}
use Rattle.files.specs.Tests.{Sound, check_sound, sound_check, Writable, writable_in_order}
use Rattle.edges.proofs.Tests.{listed_clear}
use Rattle.files.specs.Written.{at_below, colours_fit, states≤256, length-written, written_sound, read_writable, read_back}

module _ (P : Profile) (ok : Usable P) (F : Filter) (w : Writable P F) where
  in_order_lem : in_order F ≡ true
  in_order_lem = writable_in_order P F w

  few : states F ≤ 256
  few = states≤256 P ok F w

  ordered : in_order (reduced F) ≡ true
  ordered = reduced-in_order F few in_order_lem

  fewer : states (reduced F) ≤ states F
  fewer = let b = reduced-bound F few in_order_lem in le_trans b.1 b.2

  start_in_lem : (reduced F).start < states (reduced F)
  unfolding in_order
  start_in_lem = ltb-true _ _ (and_left (ltb (reduced F).start (states (reduced F))) _ ordered)

  labels_kept : (reduced F).labels ≡ F.labels
  unfolding reduced merged
  labels_kept = refl

  colour-below : (i : ℕ) → i < states (reduced F) → at (reduced F).colours i < 2 ^ P.colour
  unfolding reduced merged colour
  colour-below i h =
      let k = classes (states F) (reduce F).names in
      let f : ℕ → ℕ = λ j. at F.colours (name_of (states F) (reduce F).names j) in
      rw (at_tab k f i (rw (length-tab k f) at h)) (colours_fit P ok F w (name_of (states F) (reduce F).names i))

  count_in_lem : length (reduced F).edges ≤ states (reduced F) * (reduced F).labels
  unfolding reduced merged
  count_in_lem =
      let k = classes (states F) (reduce F).names in
      let next = edge' (edge F) (states F) (reduce F).names in
      rw (length-tab k (λ j. colour F (name_of (states F) (reduce F).names j)), listed-length next k F.labels) (cells_max (λ a b. has (next a b)) k F.labels)

  pub reduced_writable : Writable P (reduced F)
  unfolding in_order
  reduced_writable =
      let R = reduced F in
      let rest = and_right (ltb R.start (states R)) _ ordered in
      record {
        states_low = omega (arith, start_in_lem);
        states_high = le_trans fewer w.states_high;
        labels_low = rw labels_kept w.labels_low;
        labels_high = rw labels_kept w.labels_high;
        colours_below = at_below (2 ^ P.colour) R.colours colour-below;
        start_in_lem = start_in_lem;
        count_in_lem = count_in_lem;
        clear = listed_clear (states R) R.labels R.edges
            (and_left (each (inside (states R) R.labels) R.edges) (ascending R.edges) rest)
            (and_right (each (inside (states R) R.labels) R.edges) (ascending R.edges) rest);
        stays = reduced-stays (fault_colour P) F few in_order_lem w.stays;
      }

  pub reduced_shorter : length_of P (reduced F) ≤ length_of P F
  unfolding length_of file_length bytes_for file_bits edges_begin
  reduced_shorter =
      let a : P.colour * states (reduced F) ≤ P.colour * states F = mul-le-mul (le_refl P.colour) fewer in
      let b : edge_bits P * length (reduced F).edges ≤ edge_bits P * length F.edges = mul-le-mul (le_refl (edge_bits P)) (reduced_edges F few in_order_lem) in
      omega (arith, a, b)

-- of the bytes of an accepted file
module _ (P : Profile) (ok : Usable P) (s : List ℕ) (bytes : Bytes s) (vs : List ℕ) (h : check_of P s ≡ accepted vs) where
  sound : Sound P s
  sound = (check_sound P s vs h).0

  abbrev F : Filter
  F = filter_in P s

  pub read_length : length_of P F ≡ length s
  read_length = sym (length-written P ok F (read_writable P ok s sound)) ∙ ap length (read_back P ok s sound bytes)

  pub file_shorter : length_of P (reduced F) ≤ length s
  file_shorter = rw (← read_length) (reduced_shorter P ok F (read_writable P ok s sound))

  pub file_accepted : check_of P (written P (reduced F)) ≡ accepted (numbers_in P (written P (reduced F)))
  file_accepted = sound_check P (written P (reduced F)) (written_sound P ok (reduced F) (reduced_writable P ok F (read_writable P ok s sound)))
