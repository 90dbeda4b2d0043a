-- The members of classes: names stand in a list that may be longer than the n states, and members follow each other by links. A
-- state whose name is n or more is in no class.
-- Assumes nothing.
use Rattle.std.specs.Prelude.{ℕ, ◌≤◌, ◌<◌, ◌≡◌, true, List, length}
use Rattle.meaning.specs.Search.{at}
use Rattle.meaning.specs.Reach.{among}
use Rattle.table.specs.Table.{Table, Rows}
use Rattle.reach.specs.Walking.{Rises}

-- The states of an ascending list are in a class, and no others.
pub record Seated (P live : List ℕ) (n : ℕ) : Type 0 where
  pub rises : Rises n live
  pub all : (j : ℕ) → j < length live → at P (at live j) < n
  pub only : (s : ℕ) → s < n → at P s < n → among live s ≡ true

-- What linking is lent: names, the states that are in a class, and a list of links.
pub record Linkable (P live next : List ℕ) (n : ℕ) : Type 0 where
  pub few : n ≤ 256
  pub names_long : length P ≡ 256
  pub next_long : length next ≡ 256
  pub seated : Seated P live n

-- Of each state in a class the next one behind it with the same name; n where there is none.
pub record Linked (P : List ℕ) (n : ℕ) (next : List ℕ) : Type 0 where
  pub long : length next ≡ 256
  pub behind : (s : ℕ) → s < n → at P s < n → s < at next s
  pub inside : (s : ℕ) → s < n → at P s < n → at next s ≤ n
  pub same : (s : ℕ) → s < n → at P s < n → at next s < n → at P (at next s) ≡ at P s
  pub between : (s t : ℕ) → s < n → at P s < n → s < t → t < at next s → at P t ≡ at P s → ⊥

-- c is the smallest state with name c.
pub record Heads (P : List ℕ) (n c : ℕ) : Type 0 where
  pub inside : c < n
  pub member : at P c ≡ c
  pub before : (s : ℕ) → s < c → at P s ≡ c → ⊥

-- What relinking is lent: links by older names, of which only the members of class c have others since, each the name of a member
-- of it.
pub record Relinkable (P next : List ℕ) (n c : ℕ) : Type 0 where
  pub few : n ≤ 256
  pub names_long : length P ≡ 256
  pub old : List ℕ
  pub linked : Linked old n next
  pub heads : Heads old n c
  pub own : (s : ℕ) → s < n → at old s < n → at old (at old s) ≡ at old s
  pub kept : (s : ℕ) → s < n → (at old s ≡ c → ⊥) → at P s ≡ at old s
  pub low : (s : ℕ) → s < n → at old s ≡ c → at P s < n
  pub within : (s : ℕ) → s < n → at old s ≡ c → at old (at P s) ≡ c

-- What a search over classes is lent: the edges of n states, their names, and who follows whom.
pub record Searched (T : Table) (P next : List ℕ) (n : ℕ) : Type 0 where
  pub few : n ≤ 256
  pub rows : Rows T n
  pub names_long : length P ≡ 256
  pub linked : Linked P n next
