-- No text of `reduce` is longer than 2,064 bytes: a line of four numbers and 256 lines of two, of three digits each.
-- Assumes nothing.
use Rattle.std.specs.Prelude.{ℕ, ◌≤◌, ◌<◌, ◌≡◌, refl, true, ◌⊎◌, List, length}
use Rattle.std.proofs.Common.{inl, inr, arith}
use Rattle.std.proofs.Math.ListN.{length-append}
use Rattle.meaning.specs.Search.{at}
use Rattle.meaning.specs.Cases.{cases_of}
use Rattle.meaning.specs.Filter.{Filter, states, in_order}
use Rattle.meaning.specs.Reduced.{live, reduce, reduced, class_list, distinct}
use Rattle.meaning.proofs.Demand.{reduced-bound}
use Rattle.meaning.proofs.Dropped.{list_length, list_number, list_dropped}
use Rattle.refusals.specs.Refusals.{Outcome, accepted, refused}
use Rattle.layout.specs.Layout.{large}
use Rattle.layout.specs.Contents.{filter_in}
use Rattle.layout.proofs.Bounds.{large_usable, states_high}
use Rattle.files.specs.Files.{check_of}
use Rattle.files.specs.Written.{length-filter}
use Rattle.files.proofs.Accepted.{checked_in_order}
use Rattle.files.specs.Places.{Small, check_small}
use Rattle.lines.specs.Text.{four_line, number_lines, reduced_text, or_refusal}
use Rattle.lines.proofs.Laws.{refusal_most, four_most, states_most}
use Rattle.report.specs.Report.{reduce_text}

-- of a filter
module _ (F : Filter) (few : states F ≤ 256) (ok : in_order F ≡ true) where
  entry : (i : ℕ) → i < states F → (at (class_list F) i < 1000) ⊎ (at (class_list F) i ≡ 65535)
  entry i h = cases_of (live F i)
      (λ q. let b = reduced-bound F few ok in inl (omega (arith, list_number F few ok i h q, few, b.1, b.2)))
      (λ q. inr (list_dropped F few ok i h q))

  counts_most : length (reduced_text (states F) (states (reduced F)) (distinct F) (reduce F).rounds (class_list F)) ≤ 2064
  unfolding reduced_text
  counts_most =
      let b = reduced-bound F few ok in
      let first = four_most (states F) (states (reduced F)) (distinct F) (reduce F).rounds (omega arith) (omega (arith, b.1, b.2)) (omega (arith, b.0, b.1, b.2)) (omega (arith, b.0, b.1, b.2)) in
      let rest = states_most 0 (class_list F) (omega (arith, list_length F)) (λ i h. entry i (omega (arith, list_length F))) in
      omega (arith, length-append (four_line (states F) (states (reduced F)) (distinct F) (reduce F).rounds) (number_lines 0 (class_list F)), first, rest, list_length F)

pub reduce-longest : (file : List ℕ) → length (reduce_text file) ≤ 2064
unfolding reduce_text
reduce-longest file = go (check_of large file) refl
  where
    go : (o : Outcome) → check_of large file ≡ o → length (or_refusal o (reduced_text (states (filter_in large file)) (states (reduced (filter_in large file))) (distinct (filter_in large file)) (reduce (filter_in large file)).rounds (class_list (filter_in large file)))) ≤ 2064
    go (refused k p) e = let s = check_small large large_usable file k p e in omega (arith, refusal_most k p s.0 s.1)
    go (accepted vs) e =
        counts_most (filter_in large file) (rw (length-filter large file) (states_high large large_usable file)) (checked_in_order large large_usable file vs e)
