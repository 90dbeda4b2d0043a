use mathlib.Core.Path.{◌≡◌, ap}
use mathlib.Core.List.{List}
use Prim.Native.Nat.{ℕ, ◌*◌, ◌+◌}
use native.Mathlib.Omega.{arith}
use Rattle.layout.specs.declared.edge.Placed.{Placed}
use Rattle.layout.specs.declared.profile.Profile.{Profile}
use Rattle.layout.specs.Layout.{edge_bits, edges_begin}
use Rattle.layout.specs.Contents.{placed_at, edge_at}
use Rattle.leaving.specs.Leaving.{source}
use Rattle.leaving.proofs.Laws.{few_states, halved_low, halved_high}
use Rattle.leaving.proofs.first_from.Goals as goal

pub edge_at-edge-requires : goal.edge_at-edge-requires
edge_at-edge-requires c =
    let passed = c.requires in
    (few_states _ _ _ _ passed, omega (arith, c.loop-low.invariant.within, passed.few))

-- the source that was read is that of the edge
read : (P : Profile) (file : List ℕ) (n i : ℕ) (d : Placed) → d ≡ placed_at P file (edges_begin P n + edge_bits P * i) →
    d.source.value ≡ source P file n i
unfolding edge_at
read P file n i d is = ap (λ (d : Placed). d.source.value) is

pub loop-low-preserved-then-source-state : goal.loop-low-preserved-then-source-state
loop-low-preserved-then-source-state c =
    halved_low _ _ _ _ c.requires _ _ _ _ c.loop-low.invariant (omega arith) (omega arith) (rw (← read c.args.p c.args.file.now c.args.n _ _ c.edge_at-edge.ensures) c.if-source-state.true)

pub loop-low-preserved : goal.loop-low-preserved
loop-low-preserved c =
    halved_high _ _ _ _ c.requires _ _ _ _ c.loop-low.invariant (omega arith) (omega arith) (rw (← read c.args.p c.args.file.now c.args.n _ _ c.edge_at-edge.ensures) c.if-source-state.false)
