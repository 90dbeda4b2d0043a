-- Laws of lines: those of the first numbers, and one more behind them; and that what the trace call gives is what is printed.
-- Assumes nothing.
use mathlib.Core.Path.{◌≡◌, refl, sym, ap, ◌∙◌}
use mathlib.Core.List.{List, [], ◌∷◌, ◌++◌, append_assoc}
use mathlib.Core.Option.{Option, none, some}
use Prim.Native.Nat.{ℕ, ◌+◌, ◌≤◌, ◌<◌}
use native.Mathlib.Numerals.{add-one}
use native.Mathlib.Omega.{arith}
use lib.ListN.{length, get_or, take}
use Rattle.std.specs.Prelude.{Result, Ok, Err}
use Rattle.meaning.specs.Filter.{Filter}
use Rattle.meaning.specs.Trace.{edge, colour, shown, stops}
use Rattle.meaning.specs.TraceLaws.{shown_count, ridden-length, halted-within}
use Rattle.refusals.specs.declared.Refusal.{Refusal}
use Rattle.refusals.specs.Refusals.{Outcome, accepted, refusal_outcome, laid}
use Rattle.refusals.proofs.Laws.{laid_front, promise_laid}
use Rattle.layout.specs.Layout.{large}
use Rattle.layout.specs.Contents.{filter_in}
use Rattle.tracing.specs.declared.Traced.{Traced}
use Rattle.tracing.specs.declared.Traced.TheVariants as traced
use Rattle.tracing.specs.Answers.{ride_outcome, traced_outcome}
use Rattle.tracing.specs.Tracing.{trace_of}
use Rattle.tracing.specs.Promise.{TracePromise}
use Rattle.tracing.proofs.Calls.{trace_accepted, ride_one, rode_few, room_enough}
use Rattle.text.specs.Decimal.{decimal}
use Rattle.lines.specs.Text.{newline, ended}
use Rattle.lines.proofs.Laws.{take_more}
use Rattle.shown.specs.Text.{number_lines, end_line, last_line, shown_for, trace_text}

-- its line behind theirs
lines_snoc : (ns : List ℕ) (n : ℕ) → number_lines (ns ++ (n ∷ [])) ≡ number_lines ns ++ ended n
unfolding number_lines
lines_snoc [] n = append_assoc (decimal n) newline []
lines_snoc (m ∷ ns) n = ap (λ (l : List ℕ). ended m ++ l) (lines_snoc ns n) ∙ sym (append_assoc (ended m) (number_lines ns) (ended n))

pub lines_more : (ns : List ℕ) (i : ℕ) → i < length ns → number_lines (take i ns) ++ ended (get_or ns i 0) ≡ number_lines (take (i + 1) ns)
lines_more ns i h = sym (ap number_lines (take_more ns i h) ∙ lines_snoc (take i ns) (get_or ns i 0))

-- ---- what the trace call gives is what is printed

module _ (s ys room room' : List ℕ) where
  abbrev F : Filter
  F = filter_in large s

  shown_is : (o : Option ℕ) (k : ℕ) → stops F ys ≡ o → k ≡ shown_count o (length ys) → room' ≡ laid (shown F ys) room → take k room' ≡ shown F ys
  unfolding shown stops
  shown_is o k h e w =
      ap (take k) w
      ∙ laid_front (shown F ys) room k (ridden-length (edge F) (colour F) F.start ys ∙ ap (λ (o : Option ℕ). shown_count o (length ys)) h ∙ sym e)

  module _ (long : length room ≡ 65536) where
    due : (o : Outcome) → o ≡ trace_of large s ys (length room) → trace_of large s ys (length ys + 1) ≡ o
    due o e = sym (e ∙ ap (trace_of large s ys) long ∙ room_enough large s ys)

    -- a ride that is accepted, wherever it stops
    ridden_text : (o : Option ℕ) (k : ℕ) (r : Result Traced Refusal) → TracePromise large s ys room r room' → traced_outcome r ≡ ride_outcome o → (vs : List ℕ) → ride_outcome o ≡ accepted vs
        → k ≡ shown_count o (length ys) → number_lines (take k room') ++ end_line o ≡ trace_text s ys
    unfolding trace_text
    ridden_text o k r kept e vs a n =
        let answer : trace_of large s ys (length room) ≡ accepted vs = sym kept.answer ∙ e ∙ a in
        let stop : stops F ys ≡ o = ride_one (stops F ys) o ((trace_accepted large s ys (length room) vs answer).rides ∙ sym a) in
        let colours : take k room' ≡ shown F ys = shown_is o k stop n (cc (promise_laid kept answer)) in
        let here : trace_of large s ys (length ys + 1) ≡ accepted vs = due (accepted vs) (sym answer) in
        rw (colours, here, stop)

    pub text_is : (r : Result Traced Refusal) → TracePromise large s ys room r room' → number_lines (take (shown_for r (length ys)) room') ++ last_line r ≡ trace_text s ys
    unfolding trace_text last_line number_lines
    text_is (Ok traced.All) kept = ridden_text none (length ys + 1) (Ok traced.All) kept refl _ refl (add-one (length ys))
    text_is (Ok (traced.Stopped i)) kept = ridden_text (some i) (i + 1) (Ok (traced.Stopped i)) kept refl _ refl (add-one i)
    text_is (Err why) kept = rw (due (refusal_outcome why) kept.answer)

    pub few : (r : Result Traced Refusal) → TracePromise large s ys room r room' → shown_for r (length ys) ≤ 65536
    unfolding stops
    few (Ok traced.All) kept = let rode = trace_accepted large s ys (length room) _ (sym kept.answer) in omega (arith, rode_few ys (length room) rode.few_enough)
    few (Ok (traced.Stopped i)) kept =
        let rode = trace_accepted large s ys (length room) _ (sym kept.answer) in
        let stop : stops F ys ≡ some i = ride_one (stops F ys) (some i) rode.rides in
        omega (arith, rode_few ys (length room) rode.few_enough, halted-within (edge F) F.start ys i stop)
    few (Err why) kept = omega arith
