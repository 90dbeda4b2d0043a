-- Laws of 17: when no edge leaves the fault colour, and that this does not depend on where the edges stand. Assumes nothing.
use mathlib.Core.Path.{◌≡◌, refl}
use mathlib.Core.Bool.{Bool, true, false, not}
use mathlib.Core.List.{List, [], ◌∷◌, map}
use mathlib.Core.Option.{Option, none, some}
use Prim.Native.Nat.{ℕ}
use Rattle.meaning.specs.Search.{at}
use Rattle.meaning.specs.Cases.{impossible, cases_of, and_left, and_right}
use Rattle.meaning.specs.Filter.{each}
use Rattle.meaning.specs.Fault.{leaves, stays}
use Rattle.refusals.specs.Refusals.{Outcome}
use Rattle.layout.specs.declared.edge.Placed.{Placed}
use Rattle.layout.specs.Contents.{values}
use Rattle.edges.specs.Faults.{Fault, faulty, or_else, first_leaving, edges_then}

-- a fault that decides, and a later one that decides without it, are the first of the two
pub then_then : (a b : Option Fault) (next : Outcome) → edges_then a (edges_then b next) ≡ edges_then (or_else a b) next
then_then none b next = refl
then_then (some f) b next = refl

module _ (fault : Option ℕ) (colours : List ℕ) where
  abbrev goes : Placed → Bool
  goes e = leaves fault (at colours) (values e)

  abbrev first : List Placed → Option Fault
  first es = first_leaving fault colours es

  pub leaving_here : (e : Placed) (es : List Placed) → goes e ≡ true → first (e ∷ es) ≡ faulty 17 e.source
  unfolding first_leaving
  leaving_here e es h = rw h

  pub leaving_next : (e : Placed) (es : List Placed) → goes e ≡ false → first (e ∷ es) ≡ first es
  unfolding first_leaving
  leaving_next e es h = rw h

  pub leaving_stays : (es : List Placed) → first es ≡ none → each (stays fault (at colours)) (map values es) ≡ true
  unfolding first_leaving each
  leaving_stays [] h = refl
  leaving_stays (e ∷ es) h = cases_of (goes e) (λ q. let z : faulty 17 e.source ≡ none = rw q at h in impossible cc)
      (λ q. rw q (leaving_stays es (rw q at h)))

  pub stays_leaving : (es : List Placed) → each (stays fault (at colours)) (map values es) ≡ true → first es ≡ none
  unfolding first_leaving each
  stays_leaving [] h = refl
  stays_leaving (e ∷ es) h = cases_of (goes e)
      (λ q. let z : not (goes e) ≡ true = and_left (not (goes e)) _ h in let y : false ≡ true = rw q at z in impossible cc)
      (λ q. rw q (stays_leaving es (and_right (not (goes e)) _ h)))
