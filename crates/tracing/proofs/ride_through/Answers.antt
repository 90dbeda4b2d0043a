use mathlib.Core.Path.{◌≡◌, refl, ap, sym, ◌∙◌}
use Prim.Native.Nat.{ℕ, ◌<◌}
use native.Mathlib.Omega.{arith}
use lib.ListN.{length}
use Rattle.meaning.specs.Search.{at}
use Rattle.tracing.proofs.Laws.{underway_begins, underway_on, underway_more, underway_stops, underway_ends}
use Rattle.tracing.proofs.ride_through.Goals as goal

pub loop-observation-init : goal.loop-observation-init
loop-observation-init c = (underway_begins _ _ _ _ _ c.requires.begins, refl)

pub step-requires : goal.step-requires
step-requires c =
    let pre = c.requires in
    (omega (arith, c.from.ensures, pre.labels c.loop-observation.observation-index), omega (arith, pre.few), c.loop-observation.invariant.0.stand.row)

pub loop-observation-preserved : goal.loop-observation-preserved
loop-observation-preserved c =
    let inv = c.loop-observation.invariant in
    let more : c.loop-observation.ride.taken < length c.args.observations.now = omega (arith, inv.1, c.loop-observation-test.true) in
    let is = c.from.ensures ∙ ap (at c.args.observations.now) (sym inv.1) in
    let next = underway_more _ _ _ _ _ c.requires _ _ inv.0 more _ is _ c.step.ensures _ c.in-Ok.is in
    (underway_on _ _ _ _ _ c.requires _ _ inv.0 more _ is _ c.step.ensures _ c.in-Ok.is, omega (arith, next, inv.1))

pub returns-in-Err : goal.returns-in-Err
returns-in-Err c =
    let inv = c.loop-observation.invariant in
    let more : c.loop-observation.ride.taken < length c.args.observations.now = omega (arith, inv.1, c.loop-observation-test.true) in
    let is = c.from.ensures ∙ ap (at c.args.observations.now) (sym inv.1) in
    underway_stops _ _ _ _ _ c.requires _ _ inv.0 more _ is _ c.step.ensures _ c.in-Err.is

pub returns : goal.returns
returns c =
    let inv = c.loop-observation.invariant in
    underway_ends _ _ _ _ _ c.requires _ _ inv.0 (omega (arith, inv.1, c.loop-observation-test.false))
