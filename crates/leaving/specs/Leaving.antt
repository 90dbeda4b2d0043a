-- What is asked for looking for 17, and what is found. No public call's promise speaks of these.
-- Assumes nothing.
use Rattle.std.specs.Prelude.{ℕ, ◌+◌, ◌*◌, ◌/◌, ◌%◌, ◌^◌, ◌≤◌, ◌<◌, ◌≡◌, false, List}
use Rattle.std.proofs.Math.Option.{Option, none, some}
use Rattle.meaning.specs.Filter.{Edge}
use Rattle.meaning.specs.Search.{at}
use Rattle.meaning.specs.Fault.{leaves}
use Rattle.layout.specs.declared.profile.Profile.{Profile}
use Rattle.layout.specs.Layout.{fault_colour, edge_bits, edges_begin}
use Rattle.layout.specs.Contents.{states_in, colours_in, placed_from, edge_at}
use Rattle.edges.specs.Faults.{Fault, first_fault, first_leaving}
use Rattle.edges.specs.Walk.{Verdict, fault_of}

-- None of eight fields of six bits is 63; field 0 is the lowest.
abbrev pub NoneIs63 : ℕ → Type 0
NoneIs63 eight = (k : ℕ) → k < 8 → eight / 2 ^ (6 * k) % 64 ≡ 63 → ⊥

-- The e edges of a file with n states have passed 7, 8 and 9.
pub record Passed (P : Profile) (file : List ℕ) (n e : ℕ) : Type 0 where
  pub states : n ≡ states_in P file
  pub few : e < 32768
  pub labels : ℕ
  pub clear : first_fault n labels none (placed_from P file (edges_begin P n) e) ≡ none

-- 17 of these edges.
abbrev pub leaving_in : Profile → List ℕ → ℕ → ℕ → Option Fault
leaving_in P file n e = first_leaving (fault_colour P) (colours_in P file) (placed_from P file (edges_begin P n) e)

-- Edge k, and its source.
abbrev pub nth_edge : Profile → List ℕ → ℕ → ℕ → Edge
nth_edge P file n k = edge_at P file (edges_begin P n + edge_bits P * k)

abbrev pub source : Profile → List ℕ → ℕ → ℕ → ℕ
source P file n k = (nth_edge P file n k).source

-- No edge out of a state before s leaves colour c.
abbrev pub NoneBefore : Profile → List ℕ → ℕ → ℕ → ℕ → ℕ → Type 0
NoneBefore P file n e c s = (k : ℕ) → k < e → source P file n k < s → leaves (some c) (at (colours_in P file)) (nth_edge P file n k) ≡ false

-- What is found of the edges of state s, if no edge out of a state before it leaves: none of them leaves either, or the first of all
-- edges that does.
pub record EdgesOf (P : Profile) (file : List ℕ) (n e c s : ℕ) (r : Verdict) : Type 0 where
  pub none_leaves : NoneBefore P file n e c s → fault_of r ≡ none → NoneBefore P file n e c (s + 1)
  pub one_leaves : NoneBefore P file n e c s → (f : Fault) → fault_of r ≡ some f → leaving_in P file n e ≡ some f

-- Of edges that ascend, those before `low` have a source before state s, and those from `high` on have not.
pub record Halved (P : Profile) (file : List ℕ) (n e s low high : ℕ) : Type 0 where
  pub ordered : low ≤ high
  pub within : high ≤ e
  pub before : (k : ℕ) → k < low → source P file n k < s
  pub behind : (k : ℕ) → high ≤ k → k < e → s ≤ source P file n k
