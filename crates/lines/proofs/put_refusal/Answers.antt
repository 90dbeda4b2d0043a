-- `lines::put_refusal` meets its contract. Assumes nothing.
use mathlib.Core.Path.{ap, ◌∙◌}
use Prim.Native.Nat.{ℕ}
use native.Mathlib.Omega.{arith}
use Rattle.refusals.specs.Refusals.{number_of}
use Rattle.text.proofs.Laws.{same, both}
use Rattle.lines.specs.Text.{refused_word, pair_line, refusal_line}
use Rattle.lines.proofs.put_refusal.Goals as goal

pub returns : goal.returns
unfolding refusal_line
returns c =
    let a = c.args in
    let is = ap (λ (n : ℕ). pair_line n a.why.place) (c.from-2.ensures ∙ c.from.ensures) in
    let pair = same c.put-behind.new.room c.put-behind.result is c.put_two.ensures.0 c.put_two.ensures.1 in
    let done =
    both a.room.now a.at refused_word (pair_line (number_of a.why.kind) a.why.place) (omega arith) c.put-behind.ensures.0 c.put-behind.ensures.1 pair.0 pair.1 in
    (done.0, done.1, omega (arith, c.put-behind.ensures.1, c.put_two.ensures.2))
