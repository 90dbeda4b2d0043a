-- `reduction::reduce` meets its contract: whichever table a file's states take, it is long enough. Assumes nothing.
use native.Mathlib.Omega.{arith}
use Rattle.loading.proofs.Laws.{serves}
use Rattle.reduction.proofs.reduce.Goals as goal

-- in each of these: the states that the file states, by the format's widths
pub reduce_with-requires : goal.reduce_with-requires
reduce_with-requires g c =
    let states = rw c.profile.ensures at c.states-n.ensures.0 in
    serves _ _ _ 16 g.met.F.Format.few_labels c.empty.ensures (omega (arith, c.if-n-le16.true, states))

pub reduce_with-requires-then-n-le64 : goal.reduce_with-requires-then-n-le64
reduce_with-requires-then-n-le64 g c =
    let states = rw c.profile.ensures at c.states-n.ensures.0 in
    serves _ _ _ 64 g.met.F.Format.few_labels c.empty-then-n-le64.ensures (omega (arith, c.if-n-le64.true, states))

pub reduce_with-requires-2 : goal.reduce_with-requires-2
reduce_with-requires-2 g c =
    let states = rw c.profile.ensures at c.states-n.ensures.0 in
    serves _ _ _ 256 g.met.F.Format.few_labels c.empty-2.ensures (omega (arith, states, c.states-n.ensures.1))
