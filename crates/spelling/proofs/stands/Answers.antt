-- `spelling::stands` meets its contract. Assumes nothing.
use Rattle.std.proofs.Common.{◌-◌, length, take, drop}
use Rattle.std.proofs.lemmas.Bool.Decides.{Decides-eqb}
use Rattle.std.proofs.lemmas.Slice.Eq.{starts_is}
use Rattle.spelling.proofs.Matching.{lent_end, stands_is}
use Rattle.spelling.proofs.stands.Goals as goal

pub returns : goal.returns
returns c =
    let word = c.args.word.now in
    let text = take (length c.args.text.now - c.args.at) (drop c.args.at c.args.text.now) in
    rw (lent_end c.args.text.now c.args.at) at (stands_is word text c.starts_with.result (starts_is Decides-eqb text word c.starts_with.result c.starts_with.ensures.value))
