use mathlib.Core.Path.{refl}
use native.Mathlib.Nat.{lt_of_lt_of_le}
use native.Mathlib.Omega.{arith}
use lib.Pow.{pow_mono}
use Rattle.bits.proofs.Reading.{one_shl, field_lt}
use Rattle.layout.specs.Contents.{placed_at}
use Rattle.layout.proofs.EdgeLists.{parts}
use Rattle.layout.proofs.edge.read.Goals as goal

pub returns : goal.returns
unfolding placed_at
returns c =
    let a = c.args in
    let ok = c.args.p.usable in
    let q = parts a.file.now a.at a.p.states a.p.labels in
    rw (one_shl a.p.labels (omega arith), one_shl a.p.states (omega arith), c.get-v.ensures.0, q.first, q.second, q.third) (
      refl,
      record {
        source = lt_of_lt_of_le (field_lt _ _ _) (pow_mono {j = 8} ok.states≤);
        label = lt_of_lt_of_le (field_lt _ _ _) (pow_mono {j = 8} ok.labels≤);
        target = lt_of_lt_of_le (field_lt _ _ _) (pow_mono {j = 8} ok.states≤);
      },
    )
