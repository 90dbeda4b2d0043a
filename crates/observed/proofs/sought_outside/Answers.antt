-- `observed::sought_outside` meets its contract. Assumes nothing.
use Rattle.std.proofs.Common.{◌∙◌, ap, leb, rules}
use borrow.Author.Tests.{tests}
use Rattle.std.proofs.lemmas.Iterator.{YieldsList-from_slice}
use Rattle.std.proofs.lemmas.Iterator.Search.{position_from_yields_List}
use Rattle.observed.specs.Observed.{found}
use Rattle.observed.proofs.Laws.{outside_position}
use Rattle.observed.proofs.sought_outside.Goals as goal

pub returns : goal.returns
returns c =
    let a = c.args in
    ap found (position_from_yields_List (leb a.m) _ _ c.position.result c.position.ensures.ran (YieldsList-from_slice a.observations.now cc) (λ x b q k. search (rules, tests)))
    ∙ outside_position a.m a.observations.now
