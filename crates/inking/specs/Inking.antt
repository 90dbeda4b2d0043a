-- What is asked for writing the file of a text's filter.
-- Assumes nothing.
use Rattle.std.specs.Prelude.{ℕ, ◌/◌, ◌≤◌, List, length}
use Rattle.meaning.specs.Filter.{Filter}
use Rattle.pen.specs.declared.Pen.{Pen}
use Rattle.pen.specs.Runs.{Ready, place_of}
use Rattle.layout.specs.declared.profile.Profile.{Profile}
use Rattle.layout.specs.Layout.{length_of}
use Rattle.files.specs.Tests.{Writable}
use Rattle.drawing.specs.Profile.{filter_of}
use Rattle.drawing.specs.Reader.{Read, colours_of, edges_of, read_of}
use Rattle.surveying.specs.declared.Survey.{Survey}
use Rattle.surveying.specs.Surveys.{Known}

-- The filter of what was read.
abbrev pub filter_read : Read → Filter
filter_read r = filter_of (colours_of r) (edges_of r)

-- A text of the profile with its survey, whose filter a file can hold, and a room that holds the file.
pub record Inkable (P : Profile) (text : List ℕ) (s : Survey) (room : List ℕ) : Type 0 where
  pub known : Known text s
  pub writable : Writable P (filter_read (read_of text))
  pub roomy : length_of P (filter_read (read_of text)) ≤ length room

-- A pen that has come to the colours.
pub record Begun (P : Profile) (text : List ℕ) (s : Survey) (pen : Pen) : Type 0 where
  pub known : Known text s
  pub writable : Writable P (filter_read (read_of text))
  pub ready : Ready pen
  pub begin : place_of pen ≤ 48

-- The part of a room from a bit on, for the edges.
pub record Placeable (P : Profile) (text : List ℕ) (s : Survey) (bit : ℕ) (room : List ℕ) : Type 0 where
  pub known : Known text s
  pub writable : Writable P (filter_read (read_of text))
  pub begin : bit ≤ 2096
  pub reaches : bit / 8 ≤ length room
