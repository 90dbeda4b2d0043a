-- What the rounds reduce, and what they leave.
-- Assumes nothing.
use Rattle.std.specs.Prelude.{ℕ, ◌≤◌, ◌<◌, ◌≡◌, Bool, List, length, take}
use Rattle.std.proofs.Math.Option.{some}
use Rattle.meaning.specs.Search.{at}
use Rattle.meaning.specs.Classes.{Task, initial, classes, reduction}
use Rattle.meaning.specs.Reduced.{Grouping, task_over}
use Rattle.table.specs.Table.{Table, look, Rows}
use Rattle.reach.specs.Walking.{Rises}
use Rattle.rounds.specs.declared.Ending.{Ending}

-- What is reduced: n states of which some take part, with a way of grouping, edges in a table, which has no label past the 64,
-- and colours. `task_labels` says that m labels are enough where a filter has no more.
abbrev pub task_of : (ℕ → Bool) → Grouping → Table → List ℕ → ℕ → Task
task_of live group T hues n = task_over live group (look T) (at hues) 64 n

-- What the rounds are lent: the edges of n states, none of which leads elsewhere, and their colours.
pub record Reducible (T : Table) (hues : List ℕ) (n : ℕ) : Type 0 where
  pub few : n ≤ 256
  pub rows : Rows T n
  pub inside : (s y t : ℕ) → look T s y ≡ some t → t < n
  pub colours_long : length hues ≡ 256

-- A list of states that take part: they ascend, and there is one.
pub record Somebody (live : List ℕ) (n : ℕ) : Type 0 where
  pub rises : Rises n live
  pub one : 0 < length live

-- The rounds end as the definition has it.
pub record Settled (E : Ending) (T : Task) : Type 0 where
  pub colours : E.colours ≡ classes T.size (initial T)
  pub long : length E.last.names ≡ 256
  pub names : take T.size E.last.names ≡ (reduction T).names
  pub rounds : E.last.rounds ≡ (reduction T).rounds
