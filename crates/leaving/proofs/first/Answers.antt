use mathlib.Core.Path.{sym, ap, ◌∙◌}
use Prim.Native.Nat.{ℕ, ◌+◌, ◌*◌, ◌≤◌}
use native.Mathlib.Omega.{arith}
use Rattle.bits.specs.Bits.{field}
use Rattle.edges.specs.Walk.{fault_of}
use Rattle.leaving.proofs.Laws.{few_states, none_left, none_eight, none_other}
use Rattle.leaving.proofs.first.Goals as goal
use Rattle.leaving.proofs.first.Goals.{In-loop-s, then-colour+in_ok-edges_of, else-colour}

-- states have small numbers
low : (c : In-loop-s) → c.loop-s.s ≤ 256
low c = omega (arith, c.loop-s-test.true, few_states _ _ _ _ c.requires.0)

pub overflow_mul-s : goal.overflow_mul-s
overflow_mul-s c = omega (arith, low c)

pub overflow_add-begin : goal.overflow_add-begin
overflow_add-begin c = omega (arith, low c, c.header_bits-begin.ensures.1)

pub colour-requires : goal.colour-requires
colour-requires c = low (goal.at.colour-requires c).In-loop-s

pub loop-s-preserved-then-some_is_63 : goal.loop-s-preserved-then-some_is_63
loop-s-preserved-then-some_is_63 c =
    let pre = c.requires in
    elim c.if-colour.branch [
      | then-colour+in_ok-edges_of w ↦ w.edges_of.ensures.none_leaves c.loop-s.invariant (ap fault_of w.in_ok-edges_of.was)
      | else-colour w ↦ none_other _ _ _ _ pre.0 _ pre.1 _ c.loop-s.invariant (λ is. w.if-colour.false (c.colour.ensures ∙ is))
    ]

pub overflow_add-s-else-some_is_63 : goal.overflow_add-s-else-some_is_63
overflow_add-s-else-some_is_63 c = omega (arith, low (goal.at.overflow_add-s-else-some_is_63 c).In-loop-s)

pub loop-s-preserved : goal.loop-s-preserved
loop-s-preserved c =
    let pre = c.requires in
    none_eight _ _ _ _ pre.0 _ pre.1 _ _ c.loop-s.invariant
    (c.get_long.ensures.0 ∙ ap (λ (begin : ℕ). field c.args.file.now (begin + 6 * c.loop-s.s) 48) c.header_bits-begin.ensures.0)
    (c.some_is_63.ensures c.if-some_is_63.false)

pub returns : goal.returns
returns c =
    let pre = c.requires in
    sym (none_left _ _ _ _ pre.0 _ pre.1 _ c.loop-s-test.false c.loop-s.invariant)
