-- The drawing of a file's filter, and how long it is.
-- Assumes nothing.
use Rattle.std.specs.Prelude.{ℕ, ◌≡◌, List, length}
use Rattle.layout.specs.declared.profile.Profile.{Profile}
use Rattle.layout.specs.Contents.{states_in, count_in, colours_in, edges_in}
use Rattle.loading.specs.Loading.{Coloured}
use Rattle.drawing.specs.Profile.{drawn, labels_of}
use Rattle.plotting.specs.declared.Extent.{Extent}

-- The text that a file's filter is drawn as.
unfoldable pub text_of : Profile → List ℕ → List ℕ
text_of P file = drawn (colours_in P file) (edges_in P file)

abbrev pub extent_of : Profile → List ℕ → Extent
extent_of P file = record { length = length (text_of P file); labels = labels_of (edges_in P file) }

-- What is asked for drawing a file: its own colours and numbers of states and edges.
pub record Plottable (P : Profile) (file colours : List ℕ) (n e : ℕ) : Type 0 where
  pub coloured : Coloured P file colours
  pub states : n ≡ states_in P file
  pub edges : e ≡ count_in P file
