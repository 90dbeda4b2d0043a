-- `unpacking::get_edges` meets its contract. The invariant: the edges read so far stand at the room's beginning, the rest is as found.
-- Assumes nothing.
use mathlib.Core.Path.{◌≡◌}
use mathlib.Core.List.{List, ◌++◌}
use Prim.Native.Nat.{ℕ, ◌*◌}
use lib.ListN.{length, drop}
use Rattle.layout.specs.declared.profile.Profile.{Profile}
use Rattle.layout.specs.declared.edge.Edges.{Edges}
use Rattle.layout.specs.Along.{Along}
use Rattle.layout.specs.Layout.{flat}
use Rattle.layout.specs.Contents.{edges_from}
use Rattle.unpacking.proofs.get_edges.Given as goal

pub record Got (P : Profile) (file : List ℕ) (at e : ℕ) (found out : List ℕ) (walk : Edges) (o : ℕ) : Type 0 where
  pub along : Along P file at e walk
  pub behind : o ≡ 3 * walk.index
  pub long : length out ≡ length found
  pub made : out ≡ flat (edges_from P file at walk.index) ++ drop (3 * walk.index) found

abbrev pub invariant-loop-placed : goal.invariant-loop-placed
invariant-loop-placed l = Got l.fn.p l.file l.at l.e l.initial.out l.out l.placed-iterator l.o
