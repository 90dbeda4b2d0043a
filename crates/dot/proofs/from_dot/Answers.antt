-- `dot::from_dot` meets its contract. Assumes nothing.
use Rattle.std.proofs.Common.{refl}
use Rattle.refusals.specs.declared.Kind.TheVariants.{Drawing}
use Rattle.layout.specs.Layout.{large}
use Rattle.dot.proofs.Texts.{outside_of}
use Rattle.dot.proofs.Calls.{outside_refused}
use Rattle.dot.proofs.from_dot.Goals as goal

pub returns-in-Err : goal.returns-in-Err
returns-in-Err c =
    let a = c.args in
    let place = c.in-Err.field-0.place in
    outside_refused large a.text.now a.room.now place (record { kind = Drawing; place = place }) refl (outside_of _ _ _ c.in-Err.ensures)
