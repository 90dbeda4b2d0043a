-- Marks of the states of the fault colour: none, one state more, and what they tell of an edge.
-- Assumes nothing.
use Prim.Native.Nat.{ℕ, ◌/◌, ◌%◌, ◌≤◌, ◌<◌}
use mathlib.Core.Path.{◌≡◌, refl, sym, ◌∙◌}
use mathlib.Core.Bool.{false, ◌&&◌, ◌||◌, and-true, and-false, or-false}
use mathlib.Core.List.{List, [], ◌∷◌, ◌++◌}
use mathlib.Core.Option.{Option, none, some}
use native.Mathlib.Omega.{arith}
use lib.Dec.{eqb, ltb}
use lib.ListN.{length, set, replicate, length-append, length-set, length-replicate, get_or-append}
use lib.Seq.{get_or-append_seam}
use borrow.Author.Tests.{lt-ltb, le-ltb, ltb-true, ltb-false, eq-eqb, ne_eqb, eqb-true, eqb-false}
use Rattle.meaning.specs.Search.{at}
use Rattle.meaning.specs.Cases.{cases_of}
use Rattle.meaning.specs.Fault.{leaves}
use Rattle.sets.specs.Sets.{holds}
use Rattle.sets.proofs.FourLaws.{contains_none, contains_with}
use Rattle.layout.specs.declared.edge.Edge.{Edge}
use Rattle.layout.specs.Code.{edge_of, Small}
use Rattle.edges.specs.Faults.{listed_at, first_leaving}
use Rattle.surveying.specs.Surveys.{has_fault_colour, Marked, MarkedOn, leaving_by}

-- ---- one state more

nothing : (fault : Option ℕ) (k : ℕ) → has_fault_colour fault [] k ≡ false
unfolding has_fault_colour
nothing none k = refl
nothing (some f) k = rw (le-ltb k 0 (omega arith))

pub marked_none : (fault : Option ℕ) → Marked fault [] (replicate 4 0)
marked_none fault = record {
  long = length-replicate {A = ℕ} 4 0;
  says = λ k l. contains_none 4 k ∙ sym (nothing fault k);
}

has_more : (f : ℕ) (cs : List ℕ) (c k : ℕ) → has_fault_colour (some f) (cs ++ (c ∷ [])) k ≡ (eqb (length cs) k && eqb c f) || has_fault_colour (some f) cs k
unfolding has_fault_colour
has_more f cs c k =
    let long = length-append cs (c ∷ []) in
    cases_of (ltb k (length cs))
    (λ q. let l = ltb-true k (length cs) q in
    rw (q, lt-ltb k (length (cs ++ (c ∷ []))) (omega arith), get_or-append cs (c ∷ []) 0 k l, ne_eqb (length cs) k (λ z. omega arith)))
    (λ q. let h = ltb-false k (length cs) q in
    cases_of (eqb (length cs) k)
    (λ t. let is = eqb-true (length cs) k t in
    rw (q, t, lt-ltb k (length (cs ++ (c ∷ []))) (omega arith), ← is, get_or-append_seam cs c [] 0) (sym (or-false (eqb c f))))
    (λ t. let other = eqb-false (length cs) k t in
    rw (q, t, le-ltb k (length (cs ++ (c ∷ []))) (omega arith))))

module _ (k c : ℕ) (words : List ℕ) where
  -- without a fault colour no state has it
  pub mark_none : MarkedOn none k c words words
  unfolding has_fault_colour
  mark_none cs n m = record { long = m.long; says = m.says }

  pub mark_other : (f : ℕ) → (c ≡ f → ⊥) → MarkedOn (some f) k c words words
  mark_other f d cs n m = record {
    long = m.long;
    says = λ j l. m.says j l ∙ sym (has_more f cs c j ∙ rw (ne_eqb c f d, and-false (eqb (length cs) j)));
  }

  pub mark_high : (f : ℕ) → 256 ≤ k → MarkedOn (some f) k c words words
  mark_high f h cs n m = record {
    long = m.long;
    says = λ j l. m.says j l ∙ sym (has_more f cs c j ∙ rw (ne_eqb (length cs) j (λ q. omega arith)));
  }

  pub mark_more : (f x : ℕ) → c ≡ f → k < 256 → ((i : ℕ) → holds x i ≡ (eqb (k % 64) i || holds (at words (k / 64)) i)) →
      MarkedOn (some f) k c words (set words (k / 64) x)
  mark_more f x e l more cs n m = record {
    long = length-set words (k / 64) x ∙ m.long;
    says = λ j b. contains_with words k x (omega (arith, m.long)) more j
        ∙ sym (has_more f cs c j ∙ rw (eq-eqb c f e, n, and-true (eqb k j), m.says j b));
  }

-- ---- one edge

-- an edge between states that a file can have leaves the fault colour where the marks tell it
pub leaving_by_lem : (fault : Option ℕ) (colours words : List ℕ) (i : ℕ) (e : Edge) → Marked fault colours words →
    Small e → e.source < length colours → e.target < length colours →
    first_leaving fault colours (listed_at i (edge_of e) ∷ []) ≡ leaving_by words i e
unfolding first_leaving leaves has_fault_colour
leaving_by_lem none colours words i e m small s t = rw (m.says e.source small.source)
leaving_by_lem (some f) colours words i e m small s t =
    rw (
      m.says e.source small.source,
      m.says e.target small.target,
      lt-ltb e.source (length colours) s,
      lt-ltb e.target (length colours) t,
    )
