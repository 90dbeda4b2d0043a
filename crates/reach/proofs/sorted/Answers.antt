use Rattle.reach.proofs.Laws.{sorting_begun, sorting_more, sorting_skip}
use Rattle.reach.proofs.sorted.Goals as goal
use Rattle.reach.proofs.sorted.Goals.{then-numbers-s, else-numbers-s}

pub loop-s-init : goal.loop-s-init
loop-s-init c = sorting_begun _ _ c.requires.1

pub loop-s-preserved : goal.loop-s-preserved
loop-s-preserved c =
    let loop = c.loop-s in
    let here = c.loop-s-test.true in
    elim c.if-numbers-s.branch [
      | then-numbers-s w ↦ rw (w.numbers-is, w.k-is) (sorting_more loop.invariant here c.requires.0 w.if-numbers-s.true)
      | else-numbers-s w ↦ rw (w.numbers-is, w.k-is) (sorting_skip loop.invariant here w.if-numbers-s.false)
    ]
