-- What the reduce call gives in rooms that hold any file is what `reduce` prints. Assumes nothing.
use Prim.Native.Nat.{ℕ, ◌≤◌}
use mathlib.Core.Path.{◌≡◌, sym, ap, ap₂, ◌∙◌}
use mathlib.Core.List.{List, [], ◌∷◌}
use lib.ListN.{length, take}
use Rattle.meaning.specs.SearchLaws.{length-tab}
use Rattle.meaning.specs.Cases.{impossible}
use Rattle.meaning.specs.Filter.{Filter, states}
use Rattle.meaning.specs.Reduced.{reduce, reduced, class_list, distinct}
use Rattle.refusals.specs.declared.Refusal.{Refusal}
use Rattle.refusals.specs.Refusals.{number_of, Outcome, accepted, refused, refusal_outcome, onward}
use Rattle.refusals.proofs.Laws.{onward_accepted, laid_front, promise_laid}
use Rattle.layout.specs.Layout.{large, length_of}
use Rattle.layout.specs.Contents.{states_in, filter_in}
use Rattle.files.specs.Files.{check_of}
use Rattle.files.specs.Written.{length-filter}
use Rattle.folding.specs.declared.Counts.{Counts}
use Rattle.folding.specs.Folding.{Rooms, counts_of}
use Rattle.reduction.specs.Answers.{Reduced}
use Rattle.std.specs.Prelude.{Ok, Err}
use Rattle.reduction.specs.Answers.{reduced_outcome}
use Rattle.reduction.specs.Reducing.{reduce_of}
use Rattle.reduction.proofs.Calls.{roomy}
use Rattle.reduction.specs.Promise.{ReducePromise}
use Rattle.lines.specs.Text.{refusal_line, reduced_text, or_refusal}
use Rattle.report.specs.Report.{reduce_text}

entries : (s : List ℕ) → length (class_list (filter_in large s)) ≡ states_in large s
unfolding class_list
entries s = length-tab (states (filter_in large s)) _ ∙ length-filter large s

-- the two kinds of answer, in rooms that hold any file
module _ (s : List ℕ) (room left : Rooms) (r : Reduced) (kept : ReducePromise large s room r left) (long : 45253 ≤ length room.answer) (wide : 256 ≤ length room.classes) where
  abbrev F : Filter
  F = filter_in large s

  pub text_counts : (c : Counts) (n : ℕ) → r ≡ Ok c → n ≡ states_in large s → reduced_text n c.states c.colours c.rounds (take n left.classes) ≡ reduce_text s
  unfolding reduce_text counts_of
  text_counts c n e h =
      let answer : reduce_of large s room ≡ accepted (c.states ∷ c.colours ∷ c.rounds ∷ c.length ∷ []) = sym kept.answer ∙ ap reduced_outcome e in
      let a = onward_accepted (check_of large s) _ _ (sym (roomy s room long wide) ∙ answer) in
      let made : states (reduced F) ∷ distinct F ∷ (reduce F).rounds ∷ length_of large (reduced F) ∷ [] ≡ c.states ∷ c.colours ∷ c.rounds ∷ c.length ∷ [] = cc a.2 in
      let original : states F ≡ states_in large s = length-filter large s in
      let reduced-states : states (reduced F) ≡ c.states = cc in
      let colours : distinct F ≡ c.colours = cc in
      let rounds : (reduce F).rounds ≡ c.rounds = cc in
      let list : take n left.classes ≡ class_list F = ap (take n) (cc (promise_laid kept answer)) ∙ laid_front (class_list F) room.classes n (entries s ∙ sym h) in
      rw (a.1, original, reduced-states, colours, rounds, list, h)

  pub text_refusal : (why : Refusal) → r ≡ Err why → refusal_line (number_of why.kind) why.place ≡ reduce_text s
  unfolding reduce_text
  text_refusal why e = go (check_of large s) (sym (ap reduced_outcome e) ∙ kept.answer ∙ roomy s room long wide)
    where
      go : (o : Outcome) → refusal_outcome why ≡ onward o (accepted (counts_of large F)) →
          refusal_line (number_of why.kind) why.place ≡ or_refusal o (reduced_text (states F) (states (reduced F)) (distinct F) (reduce F).rounds (class_list F))
      go (accepted vs) e = impossible cc
      go (refused k p) e =
          let number : number_of why.kind ≡ k = cc in
          let place : why.place ≡ p = cc in
          ap₂ refusal_line number place
