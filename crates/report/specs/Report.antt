-- What `reduce` prints of the bytes of a file (document 01, "Three programs"; document 02, "States nobody can reach").
-- Assumes nothing.
use Rattle.std.specs.Prelude.{ℕ, List}
use Rattle.meaning.specs.Filter.{states}
use Rattle.meaning.specs.Reduced.{reduce, reduced, class_list, distinct}
use Rattle.layout.specs.Layout.{large}
use Rattle.layout.specs.Contents.{filter_in}
use Rattle.files.specs.Files.{check_of}
use Rattle.lines.specs.Text.{reduced_text, or_refusal}

-- Original states, reduced states, distinct colours and rounds on one line, then for each original state a line with its number
-- and its new number, `-` for a dropped one. A refusal prints its own line.
unfoldable pub reduce_text : List ℕ → List ℕ
reduce_text file =
    let F = filter_in large file in
    or_refusal (check_of large file) (reduced_text (states F) (states (reduced F)) (distinct F) (reduce F).rounds (class_list F))
