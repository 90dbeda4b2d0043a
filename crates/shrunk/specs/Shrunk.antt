-- What `shrink` writes of the bytes of a file (document 01, "Three programs").
-- Assumes nothing.
use Rattle.std.specs.Prelude.{ℕ, List, []}
use Rattle.meaning.specs.Reduced.{reduced}
use Rattle.refusals.specs.Refusals.{Outcome, accepted, refused}
use Rattle.layout.specs.Layout.{large, written}
use Rattle.layout.specs.Contents.{filter_in}
use Rattle.files.specs.Files.{check_of}

-- Nothing for a refusal.
abbrev pub or_nothing : Outcome → List ℕ → List ℕ
or_nothing (accepted vs) bytes = bytes
or_nothing (refused number place) bytes = []

-- The reduced file's bytes alone.
unfoldable pub shrink_bytes : List ℕ → List ℕ
shrink_bytes file = or_nothing (check_of large file) (written large (reduced (filter_in large file)))
