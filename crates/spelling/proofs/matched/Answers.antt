-- `spelling::matched` meets its contract. Assumes nothing.
use Rattle.std.proofs.Common.{◌-◌, length, take, drop, ap, ◌∙◌, rules, tests}
use Rattle.std.proofs.lemmas.Iterator.{YieldsList-from_slice, YieldsList-from_zip}
use Rattle.std.proofs.lemmas.Iterator.Consumers.{YieldsList-at, count_from_yields_List}
use Rattle.std.proofs.lemmas.Iterator.Search.{YieldsList-from_take_while}
use Rattle.spelling.specs.Spelling.{common}
use Rattle.spelling.proofs.Matching.{lent_end, same, matched_is}
use Rattle.spelling.proofs.matched.Goals as goal

pub returns : goal.returns
returns c =
    let word = c.args.word.now in
    let text = take (length c.args.text.now - c.args.at) (drop c.args.at c.args.text.now) in
    count_from_yields_List c.take_while.result c.count.result c.count.ensures.ran
    (YieldsList-from_take_while _ same (YieldsList-at c.take_while.ensures.source (YieldsList-from_zip (YieldsList-at c.zip.ensures.first (YieldsList-from_slice text cc)) (YieldsList-from_slice word c.zip.ensures.second.0))) c.take_while.ensures.closure c.take_while.ensures.done (λ x b q k. search (rules, tests)))
    ∙ matched_is word text
    ∙ ap (common word) (lent_end c.args.text.now c.args.at)
