-- Where a walk over a file's edges has come to. No public call's promise speaks of it.
-- Assumes nothing.
use Rattle.std.specs.Prelude.{ℕ, ◌+◌, ◌*◌, ◌≤◌, ◌≡◌, List}
use Rattle.layout.specs.declared.profile.Profile.{Profile}
use Rattle.layout.specs.declared.edge.Edges.{Edges}
use Rattle.layout.specs.Layout.{edge_bits}

-- A walk over the e edges from bit `at` on.
pub record Along (P : Profile) (file : List ℕ) (at e : ℕ) (walk : Edges) : Type 0 where
  pub profile : walk.p ≡ P
  pub bytes : walk.file.now ≡ file
  pub ends : walk.end ≡ e
  pub inside : walk.index ≤ e
  pub placed : walk.place ≡ at + edge_bits P * walk.index
