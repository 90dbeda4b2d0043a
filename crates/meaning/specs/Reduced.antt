-- The reduction of a filter, and its reduced filter (document 01, "Reducing"; document 02, "States nobody can reach").
-- Assumes nothing.
use Rattle.std.specs.Prelude.{ℕ, zero, suc, Bool, true, false, not, ◌&&◌, List, [], ◌∷◌, ◌++◌, eqb}
use Rattle.std.proofs.Math.Option.{Option, none, some}
use Rattle.meaning.specs.Pick.{pick}
use Rattle.meaning.specs.Search.{any, least, tab, at}
use Rattle.meaning.specs.Filter.{Edge, Filter, states}
use Rattle.meaning.specs.Trace.{edge, colour}
use Rattle.meaning.specs.Reach.{reached}
use Rattle.meaning.specs.Classes.{Task, Classes, groups, reduction, named, classes, number, initial}

-- Two edges lead to different classes. Where one of them is missing there is no difference.
unfoldable pub apart : List ℕ → Option ℕ → Option ℕ → Bool
apart P none b = false
apart P (some a) none = false
apart P (some a) (some b) = not (eqb (at P a) (at P b))

-- Two states conflict when some label has an edge from each and the two targets are in different classes.
-- `next` is the edge of a state at a label, m the number of labels.
unfoldable pub conflict : (ℕ → ℕ → Option ℕ) → ℕ → List ℕ → ℕ → ℕ → Bool
conflict next m P s t = any (λ y. apart P (next s y) (next t y)) m

-- The states that take part: those that the start can reach.
unfoldable pub live : Filter → ℕ → Bool
live F s = reached (edge F) F.labels (states F) F.start s

-- How a class is grouped: from which states are members, which of them conflict, and how many states there are.
abbrev pub Grouping : Type 0
Grouping = (ℕ → Bool) → (ℕ → ℕ → Bool) → ℕ → List ℕ

-- n states of which some take part, with a way of grouping, edges and colours.
abbrev pub task_over : (ℕ → Bool) → Grouping → (ℕ → ℕ → Option ℕ) → (ℕ → ℕ) → ℕ → ℕ → Task
task_over live group next hue m n = record {
  size = n;
  live = live;
  colour = hue;
  conflict = conflict next m;
  group = λ mem clash. group mem clash n;
}

abbrev pub task : Filter → Task
task F = task_over (live F) groups (edge F) (colour F) F.labels (states F)

-- The classes at the end, and the rounds made.
unfoldable pub reduce : Filter → Classes
reduce F = reduction (task F)

-- The name of the class with number k.
unfoldable pub name_of : ℕ → List ℕ → ℕ → ℕ
name_of n P k = least (λ t. named P t && eqb (number P t) k) n

abbrev pub has : Option ℕ → Bool
has none = false
has (some a) = true

unfoldable pub mapped : List ℕ → Option ℕ → Option ℕ
mapped P none = none
mapped P (some t) = some (number P t)

-- The edge of the class named c at label y: that of its first member that has one, led to the target's class. Where none has one
-- the search gives n, which is no state and has no edge.
unfoldable pub class_edge : (ℕ → ℕ → Option ℕ) → ℕ → List ℕ → ℕ → ℕ → Option ℕ
class_edge next n P c y = mapped P (next (least (λ s. eqb (at P s) c && has (next s y)) n) y)

-- The same of the class with number k. `reduced-edge` and `reduced-has` say that an edge stands exactly where some member has it.
unfoldable pub edge' : (ℕ → ℕ → Option ℕ) → ℕ → List ℕ → ℕ → ℕ → Option ℕ
edge' next n P k y = class_edge next n P (name_of n P k) y

-- The edges of a function in file order: one edge, if there is one; those of state s with labels below y; those of n states.
unfoldable pub cell : ℕ → ℕ → Option ℕ → List Edge
cell s y none = []
cell s y (some t) = record { source = s; label = y; target = t } ∷ []

unfoldable pub row : (ℕ → Option ℕ) → ℕ → ℕ → List Edge
row next s zero = []
row next s (suc y) = row next s y ++ cell s y (next y)

unfoldable pub listed : (ℕ → ℕ → Option ℕ) → ℕ → ℕ → List Edge
listed next zero m = []
listed next (suc n) m = listed next n m ++ row (next n) n m

-- One state a class; m is kept; the start is the start's class; the colour is that of the members. Over any edges and colours of
-- n states.
abbrev pub merged_over : (ℕ → ℕ → Option ℕ) → (ℕ → ℕ) → ℕ → ℕ → ℕ → List ℕ → Filter
merged_over next hue n m start P = record {
  colours = tab (classes n P) (λ k. hue (name_of n P k));
  labels = m;
  start = number P start;
  edges = listed (edge' next n P) (classes n P) m;
}

unfoldable pub merged : Filter → List ℕ → Filter
merged F P = merged_over (edge F) (colour F) (states F) F.labels F.start P

unfoldable pub reduced : Filter → Filter
reduced F = merged F (reduce F).names

-- The class list: the new number of each state, and 65,535 for a dropped one, which takes no part.
unfoldable pub class_list : Filter → List ℕ
class_list F = tab (states F) (λ s. pick (live F s) (number (reduce F).names s) 65535)

-- Distinct colours: as many as the classes at the beginning. `distinct-occurring` says that they are the colours of the states
-- that take part.
unfoldable pub distinct : Filter → ℕ
distinct F = classes (states F) (initial (task F))
