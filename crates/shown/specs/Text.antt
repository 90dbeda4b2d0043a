-- The text that `trace` prints, a function of the bytes that it reads (document 01, "Three programs"). Bytes are ASCII.
-- Assumes nothing.
use Rattle.std.specs.Prelude.{Result, Ok, Err, ℕ, ◌+◌, List, [], ◌∷◌, ◌++◌, length}
use Rattle.std.proofs.Math.Option.{Option, none, some}
use Rattle.meaning.specs.Trace.{shown, stops}
use Rattle.refusals.specs.declared.Refusal.{Refusal}
use Rattle.refusals.specs.Refusals.{number_of}
use Rattle.layout.specs.Layout.{large}
use Rattle.layout.specs.Contents.{filter_in}
use Rattle.tracing.specs.Tracing.{trace_of}
use Rattle.tracing.specs.declared.Traced.{Traced}
use Rattle.tracing.specs.declared.Traced.TheVariants as traced
use Rattle.lines.specs.Text.{ended, refusal_line, or_refusal}

-- "traced" and a newline
abbrev pub traced_line : List ℕ
traced_line = 116 ∷ 114 ∷ 97 ∷ 99 ∷ 101 ∷ 100 ∷ 10 ∷ []

-- "stopped "
abbrev pub stopped_word : List ℕ
stopped_word = 115 ∷ 116 ∷ 111 ∷ 112 ∷ 112 ∷ 101 ∷ 100 ∷ 32 ∷ []

-- One number a line.
unfoldable pub number_lines : List ℕ → List ℕ
number_lines [] = []
number_lines (n ∷ ns) = ended n ++ number_lines ns

-- A line with `traced` alone, or with `stopped` and the index.
abbrev pub end_line : Option ℕ → List ℕ
end_line none = traced_line
end_line (some i) = stopped_word ++ ended i

-- What `trace` prints of the bytes of a file and of observations, in a room that holds what they show: the colours, one a line,
-- then the last line; or else only the refusal line.
unfoldable pub trace_text : List ℕ → List ℕ → List ℕ
trace_text file observations =
    let F = filter_in large file in
    or_refusal (trace_of large file observations (length observations + 1))
    (number_lines (shown F observations) ++ end_line (stops F observations))

-- ---- of the call's answer

-- The last line of what is printed.
unfoldable pub last_line : Result Traced Refusal → List ℕ
last_line (Ok traced.All) = end_line none
last_line (Ok (traced.Stopped i)) = end_line (some i)
last_line (Err r) = refusal_line (number_of r.kind) r.place

-- How many colours were shown for k observations.
abbrev pub shown_for : Result Traced Refusal → ℕ → ℕ
shown_for (Ok traced.All) k = k + 1
shown_for (Ok (traced.Stopped i)) k = i + 1
shown_for (Err r) k = 0
