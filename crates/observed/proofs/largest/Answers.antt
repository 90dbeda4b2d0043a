-- `observed::largest` meets its contract. Assumes nothing.
use Rattle.std.proofs.Common.{◌∙◌, rules}
use borrow.Author.Tests.{tests}
use Rattle.std.proofs.lemmas.Iterator.{YieldsList-from_slice}
use Rattle.std.proofs.lemmas.Iterator.Consumers.{fold_from_yields_List}
use Prim.Native.Nat.{max}
use Rattle.observed.proofs.Laws.{largest_fold}
use Rattle.observed.proofs.largest.Goals as goal

pub returns : goal.returns
returns c =
    let a = c.args in
    fold_from_yields_List _ (λ x y. max x y) 0 c.fold.result c.fold.ensures.ran (YieldsList-from_slice a.values.now cc) (λ x y b q k. search (rules, tests))
    ∙ largest_fold a.values.now
