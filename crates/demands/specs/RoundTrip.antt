-- Packing what was unpacked gives the same bytes, and unpacking what was packed gives the same lists and numbers.
-- First of the definitions, then of any answers and rooms that meet the two calls' promises.
-- Assumes nothing.
use Rattle.std.specs.Prelude.{◌≡◌, List, [], ◌∷◌, ℕ, ◌*◌, ◌/◌, ◌%◌, ◌≤◌, eqb, length, take}
use Rattle.std.proofs.Common.{sym, ap, ◌∙◌, arith}
use Rattle.bits.specs.Bits.{Bytes}
use Rattle.layout.specs.declared.profile.Profile.{Profile}
use Rattle.unpacking.specs.Promise.{Unpacked}
use Rattle.packing.specs.Promise.{Packed}
use Rattle.layout.specs.Layout.{flat, written, from_lists}
use Rattle.layout.specs.Code.{Usable}
use Rattle.layout.specs.Contents.{states_in, labels_in, start_in, count_in, colours_in, edges_in, filter_in}
use Rattle.refusals.specs.Refusals.{accepted, laid}
use Rattle.unpacking.specs.Promise.{unpacked_outcome, unpack_of, UnpackPromise, Rooms}
use Rattle.packing.specs.Promise.{packed_outcome, pack_of, PackPromise}
use Rattle.files.specs.Files.{check_of, numbers_in}
use Rattle.files.specs.Tests.{Sound, check_sound, sound_check, Written}
use Rattle.refusals.proofs.Laws.{laid_front, promise_laid}
use Rattle.packing.proofs.Calls.{pack_accepts, pack_passed, whole_edges, count-listed, flat-listed}
use Rattle.unpacking.proofs.Calls.{unpack_accepts, unpack_checked}
use Rattle.files.specs.Written.{length-written, written-holds, written_sound, length_colours, length-flat_edges, length_read, read_writable, read_back, lists_filter}

-- ---- of the definitions

module _ (P : Profile) (ok : Usable P) where
  pub pack_unpacked : (s : List ℕ) (room : ℕ) → Sound P s → length s ≤ room →
      pack_of P (colours_in P s) (flat (edges_in P s)) (labels_in P s) (start_in P s) room ≡ accepted (length s ∷ [])
  unfolding filter_in
  pack_unpacked s room h l =
      rw (length_read P s h) at (pack_accepts P (filter_in P s) room (read_writable P ok s h) (omega (arith, length_read P s h)))

  pub bytes_unpacked : (s : List ℕ) → Bytes s → Sound P s →
      written P (from_lists (colours_in P s) (flat (edges_in P s)) (labels_in P s) (start_in P s)) ≡ s
  bytes_unpacked s b h = rw (lists_filter P s) (read_back P ok s h b)

  module _ (cs es : List ℕ) (m st room : ℕ) (vs : List ℕ) (h : pack_of P cs es m st room ≡ accepted vs) where
    abbrev passed : Written P (from_lists cs es m st) (eqb (length es % 3) 0) room vs
    passed = pack_passed P ok cs es m st room vs h

    pub check_packed : check_of P (written P (from_lists cs es m st)) ≡ accepted (length cs ∷ m ∷ st ∷ length es / 3 ∷ [])
    check_packed =
        let k = written-holds P ok (from_lists cs es m st) passed.writable in
        sound_check P (written P (from_lists cs es m st)) (written_sound P ok (from_lists cs es m st) passed.writable)
        ∙ rw (k.states_are, k.labels_are, k.start_is, k.count_is, count-listed P ok cs es m st room vs h)

    pub colours_packed : colours_in P (written P (from_lists cs es m st)) ≡ cs
    colours_packed = (written-holds P ok (from_lists cs es m st) passed.writable).colours_are

    pub edges_packed : flat (edges_in P (written P (from_lists cs es m st))) ≡ es
    edges_packed =
        ap flat (written-holds P ok (from_lists cs es m st) passed.writable).edges_are ∙ flat-listed P ok cs es m st room vs h

-- ---- of the calls

module _ (P : Profile) (ok : Usable P) where
  -- what was unpacked from a file into two rooms, and packed again, gives the file's bytes, and behind them the room as found
  pub pack_after_unpack : (file : List ℕ) (found left : Rooms) (u : Unpacked)
      (n m start e : ℕ) (room room' : List ℕ) (p : Packed) → Bytes file →
      UnpackPromise P file found u left → unpacked_outcome u ≡ accepted (n ∷ m ∷ start ∷ e ∷ []) →
      PackPromise P (take n left.colours) (take (3 * e) left.edges) m start room p room' → length file ≤ length room →
      (packed_outcome p ≡ accepted (length file ∷ [])) × (room' ≡ laid file room)
  pack_after_unpack file found left u n m start e room room' p b hu a hp l =
      let h : unpack_of P file found ≡ accepted (n ∷ m ∷ start ∷ e ∷ []) = sym hu.answer ∙ a in
      let q = check_sound P file _ (unpack_checked P file _ found h) in
      let numbers : numbers_in P file ≡ n ∷ m ∷ start ∷ e ∷ [] = q.1 in
      let hn : states_in P file ≡ n = cc in
      let hm : labels_in P file ≡ m = cc in
      let hs : start_in P file ≡ start = cc in
      let he : count_in P file ≡ e = cc in
      let filled = promise_laid hu h in
      let cs : take n left.colours ≡ colours_in P file = ap (take n) (cc filled) ∙ laid_front (colours_in P file) found.colours n (length_colours P file ∙ hn) in
      let es : take (3 * e) left.edges ≡ flat (edges_in P file) =
      ap (take (3 * e)) (cc filled)
      ∙ laid_front (flat (edges_in P file)) found.edges (3 * e) (length-flat_edges P file ∙ ap (λ (k : ℕ). 3 * k) he) in
      let accepts : pack_of P (take n left.colours) (take (3 * e) left.edges) m start (length room) ≡ accepted (length file ∷ []) =
      rw (cs, es, ← hm, ← hs) (pack_unpacked P ok file (length room) q.0 l) in
      let bytes : written P (from_lists (take n left.colours) (take (3 * e) left.edges) m start) ≡ file = rw (cs, es, ← hm, ← hs) (bytes_unpacked P ok file b q.0) in
      (hp.answer ∙ accepts, cc (promise_laid hp accepts) ∙ ap (λ (s : List ℕ). laid s room) bytes)

  -- what was packed into a room, and unpacked from its first bytes, gives the lists and the numbers, and behind them the rooms
  -- as found
  pub unpack_after_pack : (colours edges : List ℕ) (m start : ℕ) (room room' : List ℕ)
      (p : Packed) (n : ℕ) (found left : Rooms) (u : Unpacked) →
      PackPromise P colours edges m start room p room' → packed_outcome p ≡ accepted (n ∷ []) →
      UnpackPromise P (take n room') found u left → length colours ≤ length found.colours → length edges ≤ length found.edges →
      (unpacked_outcome u ≡ accepted (length colours ∷ m ∷ start ∷ length edges / 3 ∷ []))
      × (left.colours ≡ laid colours found.colours) × (left.edges ≡ laid edges found.edges)
  unpack_after_pack colours edges m start room room' p n found left u hp a hu lc le =
      let F = from_lists colours edges m start in
      let h : pack_of P colours edges m start (length room) ≡ accepted (n ∷ []) = sym hp.answer ∙ a in
      let passed = pack_passed P ok colours edges m start (length room) (n ∷ []) h in
      let long : length (written P F) ≡ n = length-written P ok F passed.writable ∙ cc passed.are in
      let file : take n room' ≡ written P F = ap (take n) (cc (promise_laid hp h)) ∙ laid_front (written P F) room n long in
      let holds = written-holds P ok F passed.writable in
      let third : length edges ≡ 3 * (length edges / 3) = whole_edges P ok colours edges m start (length room) (n ∷ []) h in
      let count : count_in P (written P F) ≡ length edges / 3 = holds.count_is ∙ count-listed P ok colours edges m start (length room) (n ∷ []) h in
      let accepts : unpack_of P (take n room') found ≡ accepted (length colours ∷ m ∷ start ∷ length edges / 3 ∷ []) =
      rw file
      (unpack_accepts P (written P F) _ found (check_packed P ok colours edges m start (length room) (n ∷ []) h)
      (omega (arith, holds.states_are)) (omega (arith, count, third))) in
      let filled = promise_laid hu accepts in (
        hu.answer ∙ accepts,
        cc filled ∙ ap (λ (cs : List ℕ). laid cs found.colours) (ap (colours_in P) file ∙ colours_packed P ok colours edges m start (length room) (n ∷ []) h),
        cc filled ∙ ap (λ (es : List ℕ). laid es found.edges) (ap (λ (s : List ℕ). flat (edges_in P s)) file ∙ edges_packed P ok colours edges m start (length room) (n ∷ []) h),
      )
