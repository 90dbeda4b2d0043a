-- `lettering::state_length` meets its contract. Assumes nothing.
use native.Mathlib.Omega.{arith}
use Rattle.lettering.proofs.Laws.{state_length_is}
use Rattle.lettering.proofs.state_length.Goals as goal

pub returns : goal.returns
returns c =
    let a = c.args in
    let state = c.digits.ensures in
    let colour = c.digits-2.ensures in
    (omega (arith, state_length_is a.s a.colour, state.0, colour.0), omega (arith, state.1, colour.1))
