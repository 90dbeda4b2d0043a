-- `packing::all_below` meets its contract: the test of each value. Assumes nothing.
use Rattle.std.proofs.Common.{◌≡◌, ℕ, Bool, ltb, ◌&&◌, List, [], ◌∷◌, refl, ap, ◌∙◌, rules, tests}
use Rattle.std.specs.List.{list_all}
use Rattle.std.proofs.lemmas.Iterator.{YieldsList-from_slice}
use Rattle.std.proofs.lemmas.Iterator.Search.{all_from_yields_List}
use Rattle.files.specs.Files.{all_below}
use Rattle.packing.proofs.all_below.Goals as goal

all_are : (limit : ℕ) (values : List ℕ) → list_all (λ value. ltb value limit) values ≡ all_below limit values
unfolding all_below
all_are limit [] = refl
all_are limit (value ∷ values) = ap (λ (b : Bool). ltb value limit && b) (all_are limit values)

pub returns : goal.returns
returns c =
    let a = c.args in
    all_from_yields_List (λ value. ltb value a.limit) _ _ c.all.result c.all.ensures.ran (YieldsList-from_slice a.values.now cc) (λ x b q k. search (rules, tests))
    ∙ all_are a.limit a.values.now
