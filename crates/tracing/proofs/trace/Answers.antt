-- `tracing::trace` meets its contract: whichever table a file's states take, it has a row for each. Assumes nothing.
use native.Mathlib.Omega.{arith}
use Rattle.loading.proofs.Laws.{serves}
use Rattle.tracing.proofs.trace.Goals as goal

-- in each of these: the states that the file states, by the format's widths
pub trace_with-requires : goal.trace_with-requires
trace_with-requires g c =
    let states = rw c.profile.ensures at c.states-n.ensures.0 in
    serves _ _ _ 16 g.met.F.Format.few_labels c.empty.ensures (omega (arith, c.if-n-le16.true, states))

pub trace_with-requires-then-n-le64 : goal.trace_with-requires-then-n-le64
trace_with-requires-then-n-le64 g c =
    let states = rw c.profile.ensures at c.states-n.ensures.0 in
    serves _ _ _ 64 g.met.F.Format.few_labels c.empty-then-n-le64.ensures (omega (arith, c.if-n-le64.true, states))

pub trace_with-requires-2 : goal.trace_with-requires-2
trace_with-requires-2 g c =
    let states = rw c.profile.ensures at c.states-n.ensures.0 in
    serves _ _ _ 256 g.met.F.Format.few_labels c.empty-2.ensures (omega (arith, states, c.states-n.ensures.1))
