-- Classes of states and their reduction by iterated splitting (document 01, "Reducing").
-- The class names of the states 0 to n - 1 are a list: entry s is the smallest state of s's class, and 65,535 for a state in
-- none. What is reduced is a task, so that which states take part, when two conflict and how a class is grouped each stand in
-- one place.
-- Assumes nothing.
use Rattle.std.specs.Prelude.{ℕ, zero, suc, Bool, true, false, not, ◌&&◌, List, [], ◌∷◌, ◌++◌, eqb, ltb}
use Rattle.meaning.specs.Search.{any, least, count, tab, at}

pub record Task : Type 0 where
  -- the states are those below this number
  pub size : ℕ
  -- whether a state takes part
  pub live : ℕ → Bool
  pub colour : ℕ → ℕ
  -- whether two states conflict, the lower one first, judged by given class names
  pub conflict : List ℕ → ℕ → ℕ → Bool
  -- the group number of each member of a class, from which states are members and which of them conflict
  pub group : (ℕ → Bool) → (ℕ → ℕ → Bool) → List ℕ

-- What travels from round to round: the class names, and the splits made so far.
pub record Classes : Type 0 where
  pub names : List ℕ
  pub rounds : ℕ

-- At the beginning all states of one colour that take part form one class, named by the smallest of them; a state that takes no part is in
-- none, and its name is 65,535.
unfoldable pub initial : Task → List ℕ
initial T =
    tab T.size
    (λ s. elim (T.live s) [ true ↦ least (λ t. T.live t && eqb (T.colour t) (T.colour s)) T.size | false ↦ 65535 ])

-- Class c has a conflicting pair.
unfoldable pub parted : ℕ → (ℕ → ℕ → Bool) → List ℕ → ℕ → Bool
parted n clash P c = any (λ t. eqb (at P t) c && any (λ s. eqb (at P s) c && clash s t) t) n

-- The class with the smallest name that has a conflicting pair; n where there is none.
unfoldable pub first : ℕ → (ℕ → ℕ → Bool) → List ℕ → ℕ
first n clash P = least (parted n clash P) n

-- The smallest group number that no earlier member that conflicts with k has; G holds the groups of the states before k. Each
-- of them is below k, so that k is free where no smaller number is.
unfoldable pub free : (ℕ → Bool) → (ℕ → ℕ → Bool) → List ℕ → ℕ → ℕ
free mem clash G k = least (λ g. not (any (λ t. mem t && (clash t k && eqb (at G t) g)) k)) k

-- The group numbers of the states below k, members taken in ascending order; 0 for a state that is no member.
unfoldable pub groups : (ℕ → Bool) → (ℕ → ℕ → Bool) → ℕ → List ℕ
groups mem clash zero = []
groups mem clash (suc k) =
    let G = groups mem clash k in
    G ++ (elim (mem k) [ true ↦ free mem clash G k | false ↦ 0 ] ∷ [])

-- Class c split by group numbers G: each group becomes a class, named by its smallest state.
unfoldable pub split : ℕ → List ℕ → ℕ → List ℕ → List ℕ
split n P c G =
    tab n (λ s. elim (eqb (at P s) c) [ true ↦ least (λ t. eqb (at P t) c && eqb (at G t) (at G s)) n | false ↦ at P s ])

-- One round at class c. Conflicts are judged by the names as they stood when the round began.
unfoldable pub round : Task → List ℕ → ℕ → List ℕ
round T P c = split T.size P c (T.group (λ s. eqb (at P s) c) (T.conflict P))

-- The class that the next round takes.
unfoldable pub chosen : Task → List ℕ → ℕ
chosen T P = first T.size (T.conflict P) P

-- The record at the beginning, and after a round at class c.
unfoldable pub begin : Task → Classes
begin T = record { names = initial T; rounds = 0 }

unfoldable pub cut : Task → Classes → ℕ → Classes
cut T Q c = record { names = round T Q.names c; rounds = suc Q.rounds }

-- Rounds until no class has a conflicting pair. The first number only bounds the recursion: `reduction_calm` says that the
-- size is enough.
unfoldable pub run : ℕ → Task → Classes → Classes
run zero T Q = Q
run (suc f) T Q = elim (ltb (chosen T Q.names) T.size) [ true ↦ run f T (cut T Q (chosen T Q.names)) | false ↦ Q ]

unfoldable pub reduction : Task → Classes
reduction T = run T.size T (begin T)

-- t names a class.
abbrev pub named : List ℕ → ℕ → Bool
named P t = eqb (at P t) t

-- How many classes there are.
unfoldable pub classes : ℕ → List ℕ → ℕ
classes n P = count (named P) n

-- The number of the class of s: classes are numbered 0 upward by ascending name. It is asked of states in a class alone.
unfoldable pub number : List ℕ → ℕ → ℕ
number P s = count (named P) (at P s)
