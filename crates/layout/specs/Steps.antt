-- One step of a walk over a file's edges. No public call's promise speaks of it.
-- Assumes nothing.
use Rattle.std.specs.Prelude.{ℕ, ◌+◌, ◌*◌, ◌-◌, ◌^◌, ◌≤◌, ◌<◌, ◌≡◌, Option, Some, None, List}
use Rattle.layout.specs.declared.profile.Profile.{Profile}
use Rattle.layout.specs.declared.edge.Placed.{Placed}
use Rattle.layout.specs.Layout.{edge_bits}
use Rattle.layout.specs.Contents.{placed_at}
use Rattle.layout.specs.Code.{Small, bare}

-- The bits of the edges that are left have numbers: an edge has at most 24.
abbrev pub near : ℕ → ℕ → ℕ → Type 0
near place index end = place + 24 * (end - index) < 2 ^ 63

-- The edge that begins at a place is handed out, and the walk stands behind it; or none is left.
abbrev pub Advanced : Profile → List ℕ → ℕ → ℕ → ℕ → Option Placed → Profile → List ℕ → ℕ → ℕ → ℕ → Type 0
Advanced P file place index end None P' file' place' index' end' = end ≤ index
Advanced P file place index end (Some edge) P' file' place' index' end' =
    (index < end) × (edge ≡ placed_at P file place) × Small (bare edge) × (P' ≡ P) × (file' ≡ file) × (place' ≡ place + edge_bits P) × (index' ≡ index + 1)
    × (end' ≡ end)
