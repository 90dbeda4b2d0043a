use Rattle.std.proofs.Common.{◌≡◌, ◌<◌, ℕ, List, length, take, arith, refl, sym, ap, ◌∙◌}
use Rattle.std.proofs.lemmas.List.{get_or-take, length-take-le}
use Rattle.meaning.specs.Search.{at}
use Rattle.partition.proofs.Laws.{twin_here}
use Rattle.partition.proofs.first_like.Goals as goal

-- the state at place i of the first j
front : (live : List ℕ) (j i s : ℕ) → s ≡ at (take j live) i → j < length live → i < length (take j live) → (i < j) × (s ≡ at live i)
front live j i s e h l =
    let here : i < j = omega (arith, length-take-le j live (omega arith)) in
    (here, e ∙ get_or-take j live i 0 here)

pub returns-then-colours-from : goal.returns-then-colours-from
returns-then-colours-from c =
    let live = c.args.live.now in
    let hues = at c.args.colours.now in
    let here = front live c.args.j c.loop-state.state-index _ c.from-in-loop-state.ensures c.requires.0 c.loop-state-test.true in
    let same = ap hues (sym here.1) ∙ c.if-colours-from.true ∙ ap hues c.from.ensures in
    λ n r. sym c.from-in-loop-state.ensures ∙ here.1 ∙ twin_here _ _ n _ _ r (omega (arith, here.0)) c.requires.0 same c.loop-state.invariant

pub returns : goal.returns
returns c =
    let all : c.loop-state.state-index ≡ c.args.j = omega (arith, length-take-le c.args.j c.args.live.now (omega arith), c.loop-state-test.false) in
    λ n r. twin_here _ _ n _ _ r (omega arith) c.requires.0 refl (rw all at c.loop-state.invariant)
