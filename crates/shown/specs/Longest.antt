-- No text of `trace` is longer than 196,619 bytes: 65,535 colours of two digits, each on its line, and a stop at the last observation.
-- Assumes nothing.
use Rattle.std.specs.Prelude.{ℕ, ◌+◌, ◌*◌, ◌≤◌, ◌<◌, ◌≡◌, refl, List, [], ◌∷◌, ◌++◌, length, get_or}
use Rattle.std.proofs.Math.Option.{Option, none, some}
use Rattle.std.proofs.Common.{arith, length-append}
use Rattle.meaning.specs.Filter.{Filter}
use Rattle.meaning.specs.Trace.{edge, colour, ridden, halted, shown, stops}
use Rattle.meaning.specs.TraceLaws.{shown_count, ridden-length, halted-within}
use Rattle.refusals.specs.Refusals.{Outcome, accepted, refused}
use Rattle.layout.specs.Layout.{large}
use Rattle.layout.specs.Contents.{filter_in}
use Rattle.layout.proofs.Bounds.{large_usable}
use Rattle.files.specs.Tests.{check_sound}
use Rattle.files.specs.Written.{read_writable, colours_fit}
use Rattle.tracing.specs.Tracing.{trace_of}
use Rattle.tracing.proofs.Calls.{trace_accepted, rode_few}
use Rattle.tracing.proofs.Places.{trace_small}
use Rattle.lines.specs.Text.{ended, or_refusal}
use Rattle.lines.proofs.Laws.{ended_most, refusal_most}
use Rattle.shown.specs.Text.{stopped_word, number_lines, end_line, trace_text}

-- colours of two digits, a line each
none_most : length (number_lines []) ≤ 3 * length {A = ℕ} []
unfolding number_lines
none_most = omega arith

one_more : (c : ℕ) (cs : List ℕ) → c < 100 → length (number_lines cs) ≤ 3 * length cs → length (number_lines (c ∷ cs)) ≤ 3 * length (c ∷ cs)
unfolding number_lines
one_more c cs h r = omega (arith, length-append (ended c) (number_lines cs), ended_most 1 c h, r)

lines_most : (next : ℕ → ℕ → Option ℕ) (hue : ℕ → ℕ) → ((s : ℕ) → hue s < 100) → (s : ℕ) (ys : List ℕ) →
    length (number_lines (ridden next hue s ys)) ≤ 3 * length (ridden next hue s ys)
unfolding ridden
lines_most next hue h s [] = one_more (hue s) [] (h s) none_most
lines_most next hue h s (y ∷ ys) = go (next s y) (λ t. lines_most next hue h t ys)
  where
    go : (o : Option ℕ) → ((t : ℕ) → length (number_lines (ridden next hue t ys)) ≤ 3 * length (ridden next hue t ys)) →
        length (number_lines (hue s ∷ elim o [ none ↦ [] | some t ↦ ridden next hue t ys ])) ≤ 3 * length (hue s ∷ elim o [ none ↦ [] | some t ↦ ridden next hue t ys ])
    go none r = one_more (hue s) [] (h s) none_most
    go (some t) r = one_more (hue s) (ridden next hue t ys) (h s) (r t)

-- and the last line
end_most : (o : Option ℕ) (k : ℕ) → k ≤ 65535 → ((i : ℕ) → o ≡ some i → i < k) → 3 * shown_count o k + length (end_line o) ≤ 196619
end_most none k h w = omega arith
end_most (some i) k h w =
    let l = w i refl in
    omega (arith, length-append stopped_word (ended i), ended_most 4 i (omega arith))

colour_most : (F : Filter) → ((i : ℕ) → get_or F.colours i 0 < 64) → (s : ℕ) → colour F s < 100
unfolding colour
colour_most F h s = omega (arith, h s)

ride_most : (F : Filter) (ys : List ℕ) → ((i : ℕ) → get_or F.colours i 0 < 64) → length ys ≤ 65535 → length (number_lines (shown F ys) ++ end_line (stops F ys)) ≤ 196619
unfolding shown stops
ride_most F ys h few =
    omega (
      arith,
      length-append (number_lines (ridden (edge F) (colour F) F.start ys)) (end_line (halted (edge F) F.start ys)),
      lines_most (edge F) (colour F) (colour_most F h) F.start ys,
      ridden-length (edge F) (colour F) F.start ys,
      end_most (halted (edge F) F.start ys) (length ys) few (halted-within (edge F) F.start ys),
    )

pub trace_longest : (file observations : List ℕ) → length (trace_text file observations) ≤ 196619
unfolding trace_text
trace_longest file ys = go (trace_of large file ys (length ys + 1)) refl
  where
    go : (o : Outcome) → trace_of large file ys (length ys + 1) ≡ o →
        length (or_refusal o (number_lines (shown (filter_in large file) ys) ++ end_line (stops (filter_in large file) ys))) ≤ 196619
    go (refused k p) e = let s = trace_small large large_usable file ys (length ys + 1) k p e in omega (arith, refusal_most k p s.0 s.1)
    go (accepted vs) e =
        let rode = trace_accepted large file ys (length ys + 1) vs e in
        let writable = read_writable large large_usable file (check_sound large file _ rode.checks.1).0 in
        ride_most (filter_in large file) ys (colours_fit large large_usable (filter_in large file) writable) (rode_few ys (length ys + 1) rode.few_enough)
