-- Laws of a walk over a file's edges: where it begins, one step, and where it ends. Assumes nothing.
use mathlib.Core.Path.{◌≡◌, refl, sym, ap, ◌∙◌}
use mathlib.Core.List.{List, ◌∷◌}
use mathlib.Core.Option.{none, some}
use Prim.Native.Nat.{ℕ, ◌+◌, ◌-◌, ◌^◌, ◌≤◌, ◌<◌}
use native.Mathlib.Nat.{mul-suc}
use native.Mathlib.Numerals.{add-one}
use native.Mathlib.Omega.{arith}
use Rattle.layout.specs.declared.profile.Profile.{Profile}
use Rattle.layout.specs.declared.edge.Placed.{Placed}
use Rattle.layout.specs.Layout.{edge_bits}
use Rattle.layout.specs.Contents.{values, placed_at, placed_from}
use Rattle.layout.specs.Code.{Small, bare}
use Rattle.layout.proofs.EdgeLists.{placed_cons}
use Rattle.edges.specs.Walk.{Verdict}
use Rattle.edges.specs.Walk.{Cursor}
use Rattle.edges.specs.Faults.{Fault, edge_fault, first_fault}
use Rattle.std.specs.Prelude.{Some}
use Rattle.layout.specs.declared.edge.Edges.{Edges}
use Rattle.layout.specs.Steps.{Advanced}
use Rattle.layout.proofs.Walks.{along_begun, along_more, along_read, along_next, along_done}
use Rattle.edges.specs.Walk.{fault_of, rank_of, Tested, behind, Walked, Walking}
use Rattle.edges.proofs.Tests.{ranked_none, ranked_edge, fault_here, fault_next}

module _ (P : Profile) (file : List ℕ) (at e n m : ℕ) where
  abbrev pub begun : Cursor
  begun = record { rank = 0; place = at; index = 0 }

  pub walk-begun : Walked P file at e n m begun
  walk-begun =
      let z : e - 0 ≡ e = omega arith in
      record {
        before = none;
        inside = omega arith;
        placed = omega arith;
        ranked = ranked_none;
        left = rw z;
      }

  module _ (c : Cursor) (w : Walked P file at e n m c) where
    module _ (edge : Placed) (read : edge ≡ placed_at P file c.place) (v : Verdict) (tested : Tested n m c.rank edge v) (more : c.index < e) where
      -- what the test found is the fault of the edge that was read
      found : edge_fault n m w.before edge ≡ fault_of v
      found = sym (tested w.before w.ranked)

      here : placed_from P file c.place (e - c.index) ≡ edge ∷ placed_from P file (c.place + edge_bits P) (e - (c.index + 1))
      here = placed_cons P file c.place e c.index more ∙ ap (λ (q : Placed). q ∷ placed_from P file (c.place + edge_bits P) (e - (c.index + 1))) (sym read)

      -- a fault of the edge is the first of all
      pub walk-faulty : (f : Fault) → fault_of v ≡ some f → first_fault n m none (placed_from P file at e) ≡ some f
      walk-faulty f h = w.left ∙ ap (first_fault n m w.before) here ∙ fault_here n m w.before edge _ f (found ∙ h)

      pub walk_clear : fault_of v ≡ none → edge_fault n m w.before edge ≡ none
      walk_clear clear = found ∙ clear

      pub walk_next : Small (bare edge) → fault_of v ≡ none → Walked P file at e n m (behind P edge c)
      walk_next small clear = record {
        before = some (values edge);
        inside = omega arith;
        placed = rw (w.placed, add-one c.index, mul-suc (edge_bits P) c.index) (omega arith);
        ranked = ranked_edge _ (values edge) refl small.label;
        left = w.left ∙ ap (first_fault n m w.before) here ∙ fault_next n m w.before edge _ (walk_clear clear);
      }

    -- all edges are passed, and none has a fault
    pub walk-done : e ≤ c.index → first_fault n m none (placed_from P file at e) ≡ none
    unfolding placed_from first_fault
    walk-done all = let z : e - c.index ≡ 0 = omega arith in w.left ∙ rw z

-- ---- the same of the code's walk

module _ (P : Profile) (file : List ℕ) (at e n m : ℕ) where
  -- a walk that begins
  pub walking-begun : (walk : Edges) → (walk.p ≡ P) × (walk.file.now ≡ file) × (walk.place ≡ at) × (walk.index ≡ 0) × (walk.end ≡ e) → Walking P file at e n m 0 walk
  walking-begun walk begin = record { along = along_begun P file at e walk begin; walked = rw (begin.2, begin.3) (walk-begun P file at e n m) }

  module _ (last : ℕ) (walk : Edges) (w : Walking P file at e n m last walk) where
    abbrev c : Cursor
    c = record { rank = last; place = walk.place; index = walk.index }

    module _ (edge : Placed) (walk' : Edges) (step : Advanced walk.p walk.file.now walk.place walk.index walk.end (Some edge) walk'.p walk'.file.now walk'.place walk'.index walk'.end)
        (v : Verdict) (tested : Tested n m last edge v) where
      read : edge ≡ placed_at P file walk.place
      read = along_read P file at e walk w.along edge walk' step

      more : walk.index < e
      more = along_more P file at e walk w.along edge walk' step

      pub walking-faulty : (f : Fault) → fault_of v ≡ some f → first_fault n m none (placed_from P file at e) ≡ some f
      walking-faulty = walk-faulty P file at e n m c w.walked edge read v tested more

      pub walking_clear : fault_of v ≡ none → edge_fault n m w.walked.before edge ≡ none
      walking_clear = walk_clear P file at e n m c w.walked edge read v tested more

      pub walking_next : fault_of v ≡ none → (last' : ℕ) → last' ≡ rank_of (some (values edge)) → Walking P file at e n m last' walk'
      walking_next clear last' is =
          let place : walk'.place ≡ walk.place + edge_bits P = step.5 ∙ ap (λ (Q : Profile). walk.place + edge_bits Q) w.along.profile in
          record {
            along = along_next P file at e walk w.along edge walk' step;
            walked = rw (is, place, step.6) (walk_next P file at e n m c w.walked edge read v tested more step.2 clear);
          }

    pub walking-done : walk.end ≤ walk.index → first_fault n m none (placed_from P file at e) ≡ none
    walking-done all = walk-done P file at e n m c w.walked (omega (arith, along_done P file at e walk w.along all))
