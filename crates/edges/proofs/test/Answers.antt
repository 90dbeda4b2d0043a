-- `edges::test` meets its contract: each way out has passed the tests before it. Assumes nothing.
use mathlib.Core.Path.{◌≡◌, ap, ◌∙◌}
use mathlib.Core.Option.{some}
use Prim.Native.Nat.{ℕ}
use native.Mathlib.Omega.{arith}
use borrow.Author.Tests.{lt-leb, le-leb}
use Rattle.layout.specs.declared.edge.Edge as layout
use Rattle.layout.specs.declared.edge.Placed.{Placed}
use Rattle.layout.specs.Contents.{values}
use Rattle.layout.specs.Code.{edge_of, bare}
use Rattle.edges.specs.Faults.{edge_fault}
use Rattle.edges.specs.Walk.{rank_of}
use Rattle.edges.proofs.Tests.{order_decides, rank_less, rank_same, rank_more}
use Rattle.edges.proofs.test.Goals as goal

pub returns-then-n-source : goal.returns-then-n-source
unfolding edge_fault
returns-then-n-source c before ranked = rw (c.faulty.ensures, le-leb _ _ c.if-n-source.true)

pub returns-then-m-label : goal.returns-then-m-label
unfolding edge_fault
returns-then-m-label c before ranked =
    rw (c.faulty-then-m-label.ensures, lt-leb _ _ c.if-n-source.false, le-leb _ _ c.if-m-label.true)

pub returns-then-n-target : goal.returns-then-n-target
unfolding edge_fault
returns-then-n-target c before ranked =
    rw (c.faulty-then-n-target.ensures, lt-leb _ _ c.if-n-source.false, lt-leb _ _ c.if-m-label.false, le-leb _ _ c.if-n-target.true)

-- the rank of the edge without its places is the rank of its values
here : (edge : Placed) (e : layout.Edge) (rank : ℕ) → rank ≡ rank_of (some (edge_of e)) → e ≡ bare edge → rank ≡ rank_of (some (values edge))
here edge e rank r b = r ∙ ap (λ (e : layout.Edge). rank_of (some (edge_of e))) b

-- behind the tests for 7 the order decides

pub returns-then-here-last-2 : goal.returns-then-here-last-2
returns-then-here-last-2 c before ranked =
    let edge = c.args.edge in
    let rank = here edge _ _ c.rank-here.ensures c.bare.ensures in
    rw (
      c.faulty-then-here-last-2.ensures,
      order_decides _ _ before edge c.if-n-source.false c.if-m-label.false c.if-n-target.false,
      rank_less edge c.requires.label _ before ranked (omega (arith, rank, c.if-here-last-2.true)),
    )

pub returns-then-here-last : goal.returns-then-here-last
returns-then-here-last c before ranked =
    let edge = c.args.edge in
    let rank = here edge _ _ c.rank-here.ensures c.bare.ensures in
    rw (
      c.faulty-then-here-last.ensures,
      order_decides _ _ before edge c.if-n-source.false c.if-m-label.false c.if-n-target.false,
      rank_same edge c.requires.label _ before ranked (omega (arith, rank, c.if-here-last.true, c.if-here-last-2.false)),
    )

pub returns : goal.returns
returns c before ranked =
    let edge = c.args.edge in
    let rank = here edge _ _ c.rank-here.ensures c.bare.ensures in
    rw (
      order_decides _ _ before edge c.if-n-source.false c.if-m-label.false c.if-n-target.false,
      rank_more edge c.requires.label _ before ranked (omega (arith, rank, c.if-here-last.false)),
    )
