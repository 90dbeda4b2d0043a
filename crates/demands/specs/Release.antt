-- What a release lead knows who has only what the calls gave: the bound, that what was written is a file with so many states, which
-- colours are counted, which states are dropped; that what the start cannot reach has no say; and that reducing a second time changes nothing.
-- Assumes nothing.
use Rattle.std.specs.Prelude.{ℕ, ◌+◌, ◌^◌, ◌≤◌, ◌<◌, ◌≡◌, refl, List, [], ◌∷◌, length, take, drop}
use Rattle.std.proofs.Common.{sym, ap, ap₂, ◌∙◌, arith, le-ltb}
use Rattle.std.proofs.Math.Option.{some}
use Rattle.std.proofs.Math.ListN.{get_or-append}
use Rattle.bits.specs.Bits.{Bytes}
use Rattle.meaning.specs.Search.{tab, at}
use Rattle.meaning.specs.Cases.{impossible}
use Rattle.meaning.specs.Filter.{Filter, states}
use Rattle.meaning.specs.Trace.{edge, colour}
use Rattle.meaning.specs.Reach.{led}
use Rattle.meaning.specs.Classes.{Classes}
use Rattle.meaning.proofs.Colours.{occurring}
use Rattle.meaning.specs.Reduced.{live, reduce, reduced, class_list, distinct}
use Rattle.meaning.proofs.Demand.{distinct-occurring}
use Rattle.meaning.proofs.Dropped.{list_length, list_led, list_not_led}
use Rattle.meaning.proofs.Leftovers.{AsReached, leftovers_idle}
use Rattle.again.specs.Again.{reduced_again}
use Rattle.refusals.specs.Refusals.{Outcome, accepted, refused, refusal_outcome, laid}
use Rattle.layout.specs.declared.profile.Profile.{Profile}
use Rattle.layout.specs.declared.Reading.{Reading}
use Rattle.layout.specs.Code.{Usable}
use Rattle.layout.specs.Layout.{large, header_bits, bytes_for, length_of, written}
use Rattle.layout.specs.Contents.{states_in, filter_in}
use Rattle.layout.proofs.Bounds.{large_usable}
use Rattle.files.specs.Files.{reading_outcome, check_of}
use Rattle.files.specs.Tests.{check_sound}
use Rattle.files.proofs.Accepted.{reading_is}
use Rattle.files.specs.Written.{length-filter, read_writable, colours_fit}
use Rattle.checking.specs.Promise.{Checked}
use Rattle.std.specs.Prelude.{Ok, Err}
use Rattle.checking.specs.Promise.{CheckPromise}
use Rattle.folding.specs.declared.Counts.{Counts}
use Rattle.folding.specs.Folding.{Rooms, counts_of}
use Rattle.reduction.specs.Promise.{ReducePromise}
use Rattle.shrunk.specs.Shrunk.{shrink_bytes}
use Rattle.demands.specs.Demand3.{reduced_file, reached_states, few, ok, holds, reduced_file-holds, reduced_file_accepted, reduced_file-bound, answered, answer_is}

-- ---- of an answer that meets reduce's promise

module _ (P : Profile) (usable : Usable P) (file : List ℕ) (bytes : Bytes file) (found left : Rooms) (c : Counts)
    (kept : ReducePromise P file found (Ok c) left) where
  -- rounds + colours ≤ states ≤ reached states ≤ n, with the n that check answers
  pub counts_bound : (r : Reading) → CheckPromise P file (Ok r)
      → (c.rounds + c.colours ≤ c.states) × (c.states ≤ reached_states P file) × (reached_states P file ≤ r.states)
  counts_bound r h =
      let f = answered P file found left c kept in
      let b = reduced_file-bound P usable file bytes f.checks.0 f.checks.1 in
      let n = (reading_is P file r (sym h)).states_are in (
        omega (arith, f.rounds_are, f.colours_are, f.states_are, b.0),
        omega (arith, f.states_are, b.1),
        omega (arith, b.2, length-filter P file, n),
      )

  -- check of the bytes that were written accepts, and answers with the count of states
  pub written_checks : (k : Checked) → CheckPromise P (take c.length left.answer) k → (r : Reading) × (k ≡ Ok r) × (r.states ≡ c.states)
  written_checks (Ok r) h =
      let f = answered P file found left c kept in
      let is = answer_is P usable file found left c bytes f in
      let n = (reading_is P (reduced_file P file) r (ap (check_of P) (sym is) ∙ sym h)).states_are in
      (r, refl, n ∙ (holds P usable file bytes f.checks.0 f.checks.1).states_are ∙ sym f.states_are)
  written_checks (Err why) h =
      let f = answered P file found left c kept in
      let accepts = reduced_file_accepted P usable file bytes f.checks.0 f.checks.1 in
      let e : refusal_outcome why ≡ accepted _ = h ∙ ap (check_of P) (answer_is P usable file found left c bytes f) ∙ accepts in
      impossible cc

  -- the colours counted are those that reached states have, of all that a field holds: 64 in the large file
  pub colours_occur : c.colours ≡ occurring (live (filter_in P file)) (colour (filter_in P file)) (states (filter_in P file)) (2 ^ P.colour)
  unfolding colour
  colours_occur =
      let f = answered P file found left c kept in
      let accepts = f.checks.1 in
      let fit = colours_fit P usable (filter_in P file) (read_writable P usable file (check_sound P file _ accepts).0) in
      f.colours_are ∙ distinct-occurring (filter_in P file) (few P usable file bytes _ accepts) (ok P usable file bytes _ accepts) (2 ^ P.colour) (λ s h. fit s)

  -- ---- the class list

  entry_is : (s : ℕ) → s < states (filter_in P file) → at left.classes s ≡ at (class_list (filter_in P file)) s
  entry_is s h =
      let l = (answered P file found left c kept).list in
      let list = class_list (filter_in P file) in
      ap (λ (xs : List ℕ). at xs s) l
      ∙ get_or-append list (drop (length list) found.classes) 0 s (omega (arith, h, list_length (filter_in P file)))

  -- a state whose entry is not 65,535 is led to from the start by some sequence of observations: by this one
  pub entry_led : (s : ℕ) → s < states (filter_in P file) → (at left.classes s ≡ 65535 → ⊥)
      → (ys : List ℕ) × (led (edge (filter_in P file)) (filter_in P file).start ys ≡ some s)
  entry_led s h e =
      let f = answered P file found left c kept in
      list_led (filter_in P file) (few P usable file bytes f.checks.0 f.checks.1) (ok P usable file bytes f.checks.0 f.checks.1) s h
      (λ z. e (entry_is s h ∙ z))

  -- and one whose entry is 65,535 by none
  pub entry_dropped : (s : ℕ) → s < states (filter_in P file) → at left.classes s ≡ 65535
      → (ys : List ℕ) → led (edge (filter_in P file)) (filter_in P file).start ys ≡ some s → ⊥
  entry_dropped s h e =
      let f = answered P file found left c kept in
      list_not_led (filter_in P file) (few P usable file bytes f.checks.0 f.checks.1) (ok P usable file bytes f.checks.0 f.checks.1) s h
      (sym (entry_is s h) ∙ e)

-- ---- what the start cannot reach has no say

-- two accepted files of which the states that the start can reach have the same colours and edges: one reduced file, one class list, the
-- same counts
pub leftovers_no_say : (P : Profile) → Usable P → (file other us vs : List ℕ) → Bytes file → Bytes other
    → check_of P file ≡ accepted us → check_of P other ≡ accepted vs → AsReached (filter_in P file) (filter_in P other)
    → (reduced_file P other ≡ reduced_file P file) × (class_list (filter_in P other) ≡ class_list (filter_in P file))
    × (counts_of P (filter_in P other) ≡ counts_of P (filter_in P file))
unfolding counts_of
leftovers_no_say P usable file other us vs bytes bytes' accepts accepts' like =
    let same = leftovers_idle (filter_in P file) (filter_in P other) (few P usable file bytes us accepts) (ok P usable file bytes us accepts)
    (ok P usable other bytes' vs accepts') like in (
      ap (written P) same.1,
      same.2,
      ap₂ (λ (F : Filter) (d : ℕ). states F ∷ d ∷ (reduce (filter_in P other)).rounds ∷ length_of P F ∷ []) same.1 same.3
          ∙ ap (λ (Q : Classes). states (reduced (filter_in P file)) ∷ distinct (filter_in P file) ∷ Q.rounds ∷ length_of P (reduced (filter_in P file)) ∷ [])
          same.0,
    )

-- ---- the same bytes a second time

module _ (P : Profile) (usable : Usable P) (file : List ℕ) (bytes : Bytes file) (vs : List ℕ) (accepts : check_of P file ≡ accepted vs) where
  -- a reduced file is its own reduced file, each state keeps its number, and as many rounds are made
  pub reduced_file_again :
      (reduced_file P (reduced_file P file) ≡ reduced_file P file)
      × (class_list (filter_in P (reduced_file P file)) ≡ tab (states (reduced (filter_in P file))) (λ s. s))
      × ((reduce (filter_in P (reduced_file P file))).rounds ≡ (reduce (filter_in P file)).rounds)
  reduced_file_again =
      let is = reduced_file-holds P usable file bytes vs accepts in
      let again = reduced_again (filter_in P file) (few P usable file bytes vs accepts) (ok P usable file bytes vs accepts) in (
        ap (λ (F : Filter). written P (reduced F)) is ∙ ap (written P) again.0,
        ap class_list is ∙ again.1,
        ap (λ (F : Filter). (reduce F).rounds) is ∙ again.2,
      )

-- what `shrink` writes of a file
shrunk_file : (file vs : List ℕ) → check_of large file ≡ accepted vs → shrink_bytes file ≡ reduced_file large file
unfolding shrink_bytes
shrunk_file file vs e = rw e

shrunk_nothing : (file : List ℕ) (k p : ℕ) → check_of large file ≡ refused k p → shrink_bytes file ≡ []
unfolding shrink_bytes
shrunk_nothing file k p e = rw e

nothing_shrunk : (o : Outcome) → check_of large [] ≡ o → shrink_bytes [] ≡ []
unfolding header_bits bytes_for
nothing_shrunk (refused k p) e = shrunk_nothing [] k p e
nothing_shrunk (accepted vs) e = let b = (check_sound large [] vs e).0.begins in absurd (omega (arith, b))

shrunk_again : (file : List ℕ) → Bytes file → (o : Outcome) → check_of large file ≡ o → shrink_bytes (shrink_bytes file) ≡ shrink_bytes file
shrunk_again file bytes (refused k p) e =
    let none = shrunk_nothing file k p e in
    ap shrink_bytes none ∙ nothing_shrunk (check_of large []) refl ∙ sym none
shrunk_again file bytes (accepted vs) e =
    let once = shrunk_file file vs e in
    ap shrink_bytes once ∙ shrunk_file (reduced_file large file) _ (reduced_file_accepted large large_usable file bytes vs e)
    ∙ (reduced_file_again large large_usable file bytes vs e).0 ∙ sym once

-- so a station that shrinks a shrunk file flashes equal bytes, whatever bytes it began with
pub shrink_again : (file : List ℕ) → Bytes file → shrink_bytes (shrink_bytes file) ≡ shrink_bytes file
shrink_again file bytes = shrunk_again file bytes (check_of large file) refl
