-- `telling::told` meets its contract. Assumes nothing.
use mathlib.Core.Path.{◌≡◌, refl, sym, ap, ◌∙◌}
use native.Mathlib.Omega.{arith}
use lib.ListN.{length}
use Rattle.refusals.specs.Refusals.{accepted}
use Rattle.telling.specs.Codes.{outcome_of}
use Rattle.telling.proofs.Telling.{spoken_accepted, stored_whole}
use Rattle.telling.proofs.told.Goals as goal

pub returns-in-Ok : goal.returns-in-Ok
returns-in-Ok g c =
    let same : length c.values.result ≡ length c.args.values.now = omega arith in
    spoken_accepted _ 0 c.values.result c.values.result
    (ap (outcome_of g.A.Values.values) c.in-Ok.is ∙ ap accepted (sym c.values.ensures))
    refl (sym (stored_whole c.values.result c.args.values.now same))
