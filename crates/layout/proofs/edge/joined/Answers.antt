-- `layout::edge::joined` meets its contract: nothing is shifted out of 64 bits. Assumes nothing.
use mathlib.Core.Path.{refl}
use Rattle.layout.proofs.EdgeLists.{Joined, joined}
use Rattle.layout.proofs.edge.joined.Goals as goal

pub returns : goal.returns
returns c =
    let a = c.args in
    let j : Joined a.p.states a.p.labels a.edge.source a.edge.label a.edge.target = joined _ _ _ _ _ a.p.usable.states≤ a.p.usable.labels≤ c.requires.source c.requires.label c.requires.target in
    rw (j.upper_shift, j.whole_shift) (refl, j.whole_fit)
