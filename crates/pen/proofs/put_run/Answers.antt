use mathlib.Core.Path.{◌≡◌, ◌∙◌}
use mathlib.Core.List.{[], ◌∷◌, ◌++◌}
use Prim.Native.Nat.{◌+◌, ◌^◌}
use native.Mathlib.Numerals.{add-one}
use native.Mathlib.Omega.{arith}
use lib.ListN.{length, get_or, take, replicate-append-replicate}
use lib.Seq.{take-suc, take-length}
use Rattle.pen.proofs.Runs.{total-replicate, room_more}
use Rattle.pen.proofs.Pens.{drawn-behind, drawn-length}
use Rattle.pen.proofs.put_run.Goals as goal

pub loop-value-init : goal.loop-value-init
loop-value-init c = c.begin-pen.ensures

pub push-pen-requires : goal.push-pen-requires
push-pen-requires c =
    let loop = c.loop-value in
    let a = c.args in
    let fits = room_more a.at a.width loop.value-index 1 (length a.values.now) (2 ^ 64) (omega arith) c.requires.near in
    record {
      ready = loop.invariant.ready;
      narrow = omega (arith, c.requires.narrow);
      small = rw c.from.ensures (c.requires.small loop.value-index);
      near = omega (arith, loop.invariant.place, total-replicate loop.value-index a.width, fits);
    }

pub loop-value-preserved : goal.loop-value-preserved
loop-value-preserved c =
    let loop = c.loop-value in
    let a = c.args in
    let vs = a.values.now in
    let i = loop.value-index in
    let next : take (i + 1) vs ≡ take i vs ++ (get_or vs i 0 ∷ []) = rw (add-one i) (take-suc vs i 0 c.loop-value-test.true) in
    rw (← replicate-append-replicate i 1 a.width, next) (drawn-behind loop.invariant (rw c.from.ensures at c.push-pen.ensures))

pub shape_of-s : goal.shape_of-s
shape_of-s c = c.finish.auto.s ∙ drawn-length c.loop-value.invariant

pub returns : goal.returns
returns c =
    let loop = c.loop-value in
    let vs = c.args.values.now in
    let all : loop.value-index ≡ length vs = omega arith in
    c.finish.ensures ∙ rw (all, take-length vs) at loop.invariant.ink
