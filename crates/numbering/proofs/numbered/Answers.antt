use mathlib.Core.Path.{ap, ◌∙◌}
use Prim.Native.Nat.{◌<◌}
use native.Mathlib.Omega.{arith}
use lib.ListN.{take}
use Rattle.meaning.specs.Search.{count}
use Rattle.meaning.specs.Reduced.{name_of}
use Rattle.meaning.specs.Classes.{named, classes}
use Rattle.numbering.proofs.Laws.{laid-all, numbering_begins, numbering_own, numbering_none, numbering_other}
use Rattle.numbering.proofs.numbered.Goals as goal
use Rattle.numbering.proofs.numbered.Goals.{then-name-s, else-name-s+then-name, else-name-s+else-name}

pub loop-s-init : goal.loop-s-init
loop-s-init c = numbering_begins _ _ _ _

pub loop-s-preserved : goal.loop-s-preserved
loop-s-preserved c =
    let loop = c.loop-s in
    let pre = c.requires in
    let taken : loop.s < c.args.n = omega arith in
    elim c.if-name-s.branch [
      | then-name-s v ↦ rw (v.list-is, v.order-is, v.k-is) (numbering_own _ _ pre.0 _ _ _ _ _ _ loop.invariant taken pre.1 pre.2 v.if-name-s.true)
      | else-name-s+then-name v ↦ rw (v.list-is, v.order-is, v.k-is) (numbering_none _ _ pre.0 _ _ _ _ _ _ loop.invariant taken pre.1 v.if-name.true)
      | else-name-s+else-name v ↦ rw (v.list-is, v.order-is, v.k-is, v.from.ensures)
          (numbering_other _ _ pre.0 _ _ _ _ _ _ loop.invariant taken pre.1 v.if-name-s.false v.if-name.false)
    ]

pub returns-clause-count : goal.returns-clause-count
unfolding classes
returns-clause-count c = c.loop-s.invariant.counted ∙ ap (count (named (take c.args.n c.args.names.now))) (omega arith)

pub returns-clause-names : goal.returns-clause-names
unfolding classes
returns-clause-names c =
    let loop = c.loop-s in
    let a = c.args in
    let P = take a.n a.names.now in
    laid-all (name_of a.n P) a.order.now loop.order loop.k (classes a.n P) loop.invariant.order_is (loop.invariant.counted ∙ ap (count (named P)) (omega arith))
