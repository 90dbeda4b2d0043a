-- When two states conflict, their edges looked up in a table.
-- Assumes nothing.
use Rattle.std.specs.Prelude.{ℕ, Bool, List}
use Rattle.meaning.specs.Reduced.{conflict}
use Rattle.table.specs.Table.{Table, look}

-- Two states conflict, by names P. A table has no label past the 64.
abbrev pub clash : Table → List ℕ → ℕ → ℕ → Bool
clash T P = conflict (look T) 64 P
