-- Laws of a walk over a file's edges: where it begins, one step, and where it ends. Assumes nothing.
use mathlib.Core.Path.{◌≡◌, sym, ap, ◌∙◌}
use mathlib.Core.List.{List}
use Prim.Native.Nat.{ℕ, ◌+◌, ◌*◌, ◌≤◌, ◌<◌}
use native.Mathlib.Nat.{mul-suc, le_antisymm}
use native.Mathlib.Numerals.{add-one}
use native.Mathlib.Omega.{arith}
use Rattle.std.specs.Prelude.{Some}
use Rattle.layout.specs.declared.profile.Profile.{Profile}
use Rattle.layout.specs.declared.edge.Placed.{Placed}
use Rattle.layout.specs.declared.edge.Edges.{Edges}
use Rattle.layout.specs.Layout.{edge_bits}
use Rattle.layout.specs.Contents.{placed_at}
use Rattle.layout.specs.Steps.{Advanced, near}
use Rattle.layout.specs.Along.{Along}
use Rattle.layout.proofs.Bounds.{place_high}

module _ (P : Profile) (file : List ℕ) (at e : ℕ) (walk : Edges) where
  pub along_begun : (walk.p ≡ P) × (walk.file.now ≡ file) × (walk.place ≡ at) × (walk.index ≡ 0) × (walk.end ≡ e) → Along P file at e walk
  along_begun begin = record {
    profile = begin.0;
    bytes = begin.1;
    ends = begin.4;
    inside = omega (arith, begin.3);
    placed = rw (begin.2, begin.3) (omega arith);
  }

  module _ (w : Along P file at e walk) where
    -- the edges that are left begin at bits with a number
    pub along_near : at ≤ 2096 → e ≤ 65536 → near walk.place walk.index walk.end
    along_near ha he = omega (arith, w.placed, w.inside, w.ends, place_high P P.usable at walk.index ha (omega (arith, w.inside)))

    pub along_done : walk.end ≤ walk.index → walk.index ≡ e
    along_done all = le_antisymm w.inside (omega (arith, w.ends))

    module _ (edge : Placed) (walk' : Edges) (step : Advanced walk.p walk.file.now walk.place walk.index walk.end (Some edge) walk'.p walk'.file.now walk'.place walk'.index walk'.end) where
      pub along_more : walk.index < e
      along_more = omega (arith, step.0, w.ends)

      pub along_read : edge ≡ placed_at P file walk.place
      along_read = rw (← w.profile, ← w.bytes) step.1

      pub along_next : Along P file at e walk'
      along_next =
          let place : walk'.place ≡ walk.place + edge_bits P = step.5 ∙ ap (λ (Q : Profile). walk.place + edge_bits Q) w.profile in
          record {
            profile = step.3 ∙ w.profile;
            bytes = step.4 ∙ w.bytes;
            ends = step.7 ∙ w.ends;
            inside = omega (arith, step.6, along_more);
            placed = rw (place, step.6, w.placed, add-one walk.index, mul-suc (edge_bits P) walk.index) (omega arith);
          }
