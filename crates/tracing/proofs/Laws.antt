-- Laws of the ride, one observation further.
-- Assumes nothing.
use mathlib.Core.Path.{◌≡◌, refl, sym, ap, ap₂, subst, ◌∙◌}
use mathlib.Core.List.{List, [], ◌∷◌, ◌++◌, append_assoc}
use mathlib.Core.Option.{Option, none, some}
use Prim.Native.Nat.{ℕ, ◌+◌, ◌-◌, ◌≤◌, ◌<◌}
use native.Mathlib.Numerals.{add-one}
use native.Mathlib.Omega.{arith}
use lib.ListN.{length, get_or, set, take, drop, length-append, length-set, drop_of_length-le}
use lib.Seq.{drop-cons, take_at}
use Rattle.bits.proofs.Parts.{store_more}
use Rattle.meaning.specs.Search.{at}
use Rattle.meaning.specs.Trace.{ridden, halted}
use Rattle.meaning.specs.TraceLaws.{ridden_on, ridden_stop, halted_on, halted_stop}
use Rattle.meaning.specs.Cases.{impossible}
use Rattle.refusals.specs.Refusals.{laid}
use Rattle.table.specs.Table.{Table, look}
use Rattle.observed.proofs.Laws.{from, from-later, from_zero}
use Rattle.tracing.specs.declared.Ride.{Ride}
use Rattle.std.specs.Prelude.{Result, Ok, Err}
use Rattle.tracing.specs.declared.Traced.{Traced}
use Rattle.tracing.specs.declared.Traced.TheVariants as traced
use Rattle.tracing.specs.Answers.{ride_outcome, told_ride}
use Rattle.tracing.specs.Riding.{step_of, Stand, Ridable, Ridden}

-- ---- a step

step_onto : (o : Option ℕ) (taken : ℕ) (next : Ride) → Ok next ≡ step_of o taken → (o ≡ some next.state) × (next.taken ≡ taken + 1)
step_onto none taken next h = impossible cc
step_onto (some t) taken next h =
    let is : next ≡ record { state = t; taken = taken + 1 } = cc in
    (ap some (sym (ap (λ (r : Ride). r.state) is)), ap (λ (r : Ride). r.taken) is)

step_stop : (o : Option ℕ) (taken : ℕ) (r : Traced) → Err r ≡ step_of o taken → (o ≡ none) × (r ≡ traced.Stopped taken)
step_stop none taken r h = (refl, cc h)
step_stop (some t) taken r h = impossible cc

-- ---- the ride

module _ (next : ℕ → ℕ → Option ℕ) (hue : ℕ → ℕ) where
  module _ (start : ℕ) (ys room : List ℕ) where
    abbrev all : List ℕ
    all = ridden next hue start ys

    -- A ride in progress: i observations are taken, the ride is in state s, and the room has the colours of the states before.
    pub record Riding (now : List ℕ) (i s : ℕ) : Type 0 where
      pub shows : all ≡ take i all ++ ridden next hue s (drop i ys)
      pub counts : length (take i all) ≡ i
      pub holds : now ≡ take i all ++ drop i room
      pub halts : halted next start ys ≡ from i (halted next s (drop i ys))

    riding_begins : Riding room 0 start
    riding_begins = record { shows = refl; counts = refl; holds = refl; halts = from_zero (halted next start ys) }

    module _ (now : List ℕ) (i s : ℕ) (r : Riding now i s) where
      -- the colour of the state that the ride is in, behind those before it
      longer : length (take i all ++ (hue s ∷ [])) ≡ i + 1
      longer = length-append (take i all) (hue s ∷ []) ∙ ap (λ (k : ℕ). k + 1) r.counts

      put : i < length room → set now i (hue s) ≡ (take i all ++ (hue s ∷ [])) ++ drop (i + 1) room
      put l = ap (λ (w : List ℕ). set w i (hue s)) r.holds ∙ store_more (take i all) room i (hue s) r.counts l

      riding_on : (t : ℕ) → i < length ys → i < length room → next s (get_or ys i 0) ≡ some t → Riding (set now i (hue s)) (i + 1) t
      riding_on t l m h =
          let rest = ridden next hue t (drop (i + 1) ys) in
          let cons : drop i ys ≡ get_or ys i 0 ∷ drop (i + 1) ys = drop-cons ys i 0 l ∙ rw (add-one i) in
          let parts : all ≡ (take i all ++ (hue s ∷ [])) ++ rest =
          r.shows ∙ ap (λ (w : List ℕ). take i all ++ w) (ap (ridden next hue s) cons ∙ ridden_on next hue s (get_or ys i 0) t (drop (i + 1) ys) h)
          ∙ sym (append_assoc (take i all) (hue s ∷ []) rest) in
          let front : take (i + 1) all ≡ take i all ++ (hue s ∷ []) = ap (take (i + 1)) parts ∙ take_at (take i all ++ (hue s ∷ [])) rest (i + 1) longer in
          record {
            shows = parts ∙ ap (λ (w : List ℕ). w ++ rest) (sym front);
            counts = ap length front ∙ longer;
            holds = put m ∙ ap (λ (w : List ℕ). w ++ drop (i + 1) room) (sym front);
            halts =
                r.halts ∙ ap (λ (o : List ℕ). from i (halted next s o)) cons ∙ ap (from i) (halted_on next s (get_or ys i 0) t (drop (i + 1) ys) h)
                ∙ from-later i (halted next t (drop (i + 1) ys));
          }

      ended : i < length room → all ≡ take i all ++ (hue s ∷ []) → set now i (hue s) ≡ laid all room
      ended l h = put l ∙ ap₂ (λ (w : List ℕ) (k : ℕ). w ++ drop k room) (sym h) (sym (ap length h ∙ longer))

      -- an observation without an edge
      riding_stops : i < length ys → i < length room → next s (get_or ys i 0) ≡ none → (set now i (hue s) ≡ laid all room) × (halted next start ys ≡ some i)
      riding_stops l m h =
          let cons : drop i ys ≡ get_or ys i 0 ∷ drop (i + 1) ys = drop-cons ys i 0 l ∙ rw (add-one i) in (
            ended m (r.shows ∙ ap (λ (w : List ℕ). take i all ++ w) (ap (ridden next hue s) cons ∙ ridden_stop next hue s (get_or ys i 0) (drop (i + 1) ys) h)),
            r.halts ∙ ap (λ (o : List ℕ). from i (halted next s o)) cons ∙ ap (from i) (halted_stop next s (get_or ys i 0) (drop (i + 1) ys) h) ∙ ap some (omega arith),
          )

      -- no observation is left
      riding_ends : length ys ≤ i → i < length room → (set now i (hue s) ≡ laid all room) × (halted next start ys ≡ none)
      unfolding ridden halted
      riding_ends l m =
          let nil : drop i ys ≡ [] = drop_of_length-le ys {i = i} l in (
            ended m (r.shows ∙ ap (λ (o : List ℕ). take i all ++ ridden next hue s o) nil),
            r.halts ∙ ap (λ (o : List ℕ). from i (halted next s o)) nil,
          )

-- ---- the ride over a table

module _ (T : Table) (hues : List ℕ) (start : ℕ) (ys room₀ : List ℕ) where
  -- A ride in progress, in a state that it can be in.
  pub record Underway (room : List ℕ) (ride : Ride) : Type 0 where
    pub within : ride.taken ≤ length ys
    pub stand : Stand T hues ride.state
    pub same : length room ≡ length room₀
    pub riding : Riding (look T) (at hues) start ys room₀ room ride.taken ride.state

  pub underway_begins : Stand T hues start → Underway room₀ (record { state = start; taken = 0 })
  underway_begins h = record {
    within = omega arith;
    stand = h;
    same = refl;
    riding = riding_begins (look T) (at hues) start ys room₀;
  }

  module _ (asked : Ridable T hues start ys room₀) (room : List ℕ) (ride : Ride) (u : Underway room ride) where
    -- the room with the colour of the state that the ride is in
    abbrev put_here : List ℕ
    put_here = set room ride.taken (at hues ride.state)

    pub underway_ends : length ys ≤ ride.taken → Ridden T hues start ys room₀ traced.All put_here
    underway_ends l =
        let end = riding_ends (look T) (at hues) start ys room₀ room ride.taken ride.state u.riding l (omega (arith, asked.roomy, u.within)) in
        record { answer = ap ride_outcome (sym end.1); colours = end.0 }

    -- One step of the ride, at the next observation.
    module _ (more : ride.taken < length ys) (label : ℕ) (is : label ≡ at ys ride.taken) (taken : Result Ride Traced)
        (leads : taken ≡ step_of (look T ride.state label) ride.taken) where
      onward : (next : Ride) → taken ≡ Ok next → (look T ride.state label ≡ some next.state) × (next.taken ≡ ride.taken + 1)
      onward next e = step_onto (look T ride.state label) ride.taken next (sym e ∙ leads)

      pub underway_on : (next : Ride) → taken ≡ Ok next → Underway put_here next
      underway_on next e =
          let to = onward next e in
          record {
            within = omega (arith, to.1);
            stand = asked.leads ride.state label next.state to.0;
            same = length-set room ride.taken (at hues ride.state) ∙ u.same;
            riding =
                subst (λ (k : ℕ). Riding (look T) (at hues) start ys room₀ put_here k next.state) (sym to.1)
                (riding_on (look T) (at hues) start ys room₀ room ride.taken ride.state u.riding next.state more (omega (arith, asked.roomy))
                (ap (look T ride.state) (sym is) ∙ to.0));
          }

      pub underway_more : (next : Ride) → taken ≡ Ok next → next.taken ≡ ride.taken + 1
      underway_more next e = (onward next e).1

      -- the stop that the step hands back is the one that is due
      pub underway_stops : (r : Traced) → taken ≡ Err r → Ridden T hues start ys room₀ r put_here
      underway_stops r e =
          let no = step_stop (look T ride.state label) ride.taken r (sym e ∙ leads) in
          let end = riding_stops (look T) (at hues) start ys room₀ room ride.taken ride.state u.riding more (omega (arith, asked.roomy)) (ap (look T ride.state) (sym is) ∙ no.0) in
          record { answer = ap told_ride no.1 ∙ ap ride_outcome (sym end.1); colours = end.0 }
