-- A statement read by way of its target.
-- Assumes nothing.
use Prim.Native.Nat.{ℕ, ◌+◌, ◌≤◌}
use mathlib.Core.Path.{◌≡◌, refl}
use mathlib.Core.Bool.{Bool, true, false}
use mathlib.Core.List.{List}
use native.Mathlib.Omega.{arith}
use lib.Dec.{eqb, ltb}
use lib.ListN.{length}
use Rattle.std.specs.Prelude.{Ok, Err}
use Rattle.meaning.specs.Pick.{pick}
use Rattle.meaning.specs.Cases.{cases_of, impossible}
use Rattle.spelling.specs.declared.Number.{Number}
use Rattle.spelling.specs.Spelling.{matched, number_at}
use Rattle.spelling.specs.Words.{matched-stands, stands-inside}
use Rattle.spelling.specs.Numbers.{number-inside}
use Rattle.drawing.specs.declared.Outside.{Outside}
use Rattle.drawing.specs.Profile.{arrow}
use Rattle.drawing.specs.Reader.{Labelled, with, labelled_at, state_from, edge_from, target_at, statement_of}

pub outside_of : (state : Bool) (source target : ℕ) (left : Outside) → statement_of state source target (Err left) ≡ Err left
outside_of true source target left = refl
outside_of false source target left = refl

-- What is read of a statement's target: of a state's, nothing.
module _ (text : List ℕ) (at : ℕ) where
  abbrev pub to : Bool → Labelled
  to state = pick state (with 0 at) (target_at text at)

  -- the statement of the definition, behind its target
  pub by_target : (source : ℕ) (state : Bool) (target : Number) → to state ≡ Ok target →
      pick state (state_from text at) (edge_from text at source) ≡ statement_of state source target.value (labelled_at text target.end)
  unfolding state_from edge_from
  by_target source true target e = let same : at ≡ target.end = cc in rw same
  by_target source false target e = rw e

  pub no_target : (source : ℕ) (state : Bool) (left : Outside) → to state ≡ Err left →
      pick state (state_from text at) (edge_from text at source) ≡ Err left
  unfolding edge_from
  no_target source true left e = impossible cc
  no_target source false left e = rw e

  -- a target ends inside the text
  pub target-inside : (state : Bool) (target : Number) → at ≤ length text → to state ≡ Ok target → target.end ≤ length text
  unfolding target_at
  target-inside true target h e = let same : at ≡ target.end = cc in omega arith
  target-inside false target h e =
      let number = number_at text (at + 4) in
      cases_of (ltb (matched text at arrow) 4) (λ q. impossible (cc (rw q at e)))
      (λ q. cases_of (eqb number.end (at + 4)) (λ r. impossible (cc (rw (q, r) at e)))
      (λ r. let is : number.end ≡ target.end = cc (rw (q, r) at e) in
      omega (arith, number-inside text (at + 4) (stands-inside (matched-stands text at arrow q) h))))
