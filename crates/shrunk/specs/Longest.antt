-- No reduced file is longer than the largest file, 45,253 bytes. Assumes nothing.
use Rattle.std.specs.Prelude.{ℕ, ◌≤◌, ◌≡◌, refl, List, length}
use Rattle.std.proofs.Common.{arith}
use Rattle.meaning.specs.Filter.{Filter}
use Rattle.meaning.specs.Reduced.{reduced}
use Rattle.refusals.specs.Refusals.{Outcome, accepted, refused}
use Rattle.layout.specs.Layout.{large, written}
use Rattle.layout.specs.Contents.{filter_in}
use Rattle.layout.proofs.Bounds.{large_usable}
use Rattle.files.specs.Files.{check_of}
use Rattle.files.specs.Tests.{check_sound, Writable}
use Rattle.files.specs.Written.{length-written, read_writable, largest-length, longest_files}
use Rattle.folding.proofs.Accepted.{reduced_writable}
use Rattle.shrunk.specs.Shrunk.{or_nothing, shrink_bytes}

pub shrink_longest : (file : List ℕ) → length (shrink_bytes file) ≤ 45253
unfolding shrink_bytes
shrink_longest file = go (check_of large file) refl
  where
    go : (o : Outcome) → check_of large file ≡ o → length (or_nothing o (written large (reduced (filter_in large file)))) ≤ 45253
    go (refused k p) e = omega arith
    go (accepted vs) e =
        let w = reduced_writable large large_usable (filter_in large file) (read_writable large large_usable file (check_sound large file vs e).0) in
        omega (arith, length-written large large_usable (reduced (filter_in large file)) w, largest-length large (reduced (filter_in large file)) w, longest_files.0)
