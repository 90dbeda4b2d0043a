-- `numbering::colours_by` meets its contract. Assumes nothing.
use mathlib.Core.Path.{◌≡◌}
use mathlib.Core.List.{◌++◌}
use lib.ListN.{drop}
use Rattle.meaning.specs.Search.{tab, at}
use Rattle.numbering.proofs.colours_by.Given as goal

abbrev pub invariant-loop-k : goal.invariant-loop-k
invariant-loop-k l = l.hues ≡ tab l.k (λ i. at l.colours (at l.order i)) ++ drop l.k l.initial.hues
