-- What is asked for testing a text of the profile. No public call's promise speaks of it.
-- Assumes nothing.
use Rattle.std.specs.Prelude.{ℕ, ◌≡◌, List}
use Rattle.layout.specs.declared.profile.Profile.{Profile}
use Rattle.layout.specs.Layout.{fault_colour}
use Rattle.edges.specs.Walk.{Verdict, fault_of}
use Rattle.drawing.specs.Reader.{colours_of, edges_of, read_of}
use Rattle.surveying.specs.declared.Survey.{Survey}
use Rattle.surveying.specs.Surveys.{Known, fault_in}

-- A text of the profile with its survey, and the fault of its edges.
pub record Testable (P : Profile) (text : List ℕ) (s : Survey) (verdict : Verdict) : Type 0 where
  pub known : Known text s
  pub fault : fault_of verdict ≡ fault_in (fault_colour P) (colours_of (read_of text)) (edges_of (read_of text))
