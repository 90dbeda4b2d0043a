-- The widths that the code can use.
-- Assumes nothing.
use Rattle.std.specs.Prelude.{ℕ, ◌+◌, ◌≤◌, ◌<◌, ◌≡◌, Bool, true, ◌&&◌, leb, ltb, Option, Some, None, refl}
use Rattle.std.proofs.Common.{leb-true, ltb-true}
use Rattle.meaning.specs.Cases.{and_left, and_right}

-- States, labels and colours are bytes, and a start and a count of edges fit their fields, for a start is below n, and e is at most n times
-- m. With at most 15 bits for e a bit's position has at most six digits. A fault colour is six ones: the code looks for these.
pub record Usable (states labels start edges colour : ℕ) (fault : Option ℕ) : Type 0 where
  pub states≤ : states ≤ 8
  pub labels≤ : labels ≤ 8
  pub colour≤ : colour ≤ 8
  pub start≤ : start ≤ 16
  pub edges≤ : edges ≤ 15
  pub start_fits : states ≤ start
  pub edges_fit : states + labels < edges
  pub six_ones : (c : ℕ) → fault ≡ Some c → (colour ≡ 6) × (c ≡ 63)

-- The same as one test, but for the fault colour.
abbrev fits : ℕ → ℕ → ℕ → ℕ → ℕ → Bool
fits states labels start edges colour =
    leb states 8
    && (leb labels 8
    && (leb colour 8 && (leb start 16 && (leb edges 15 && (leb states start && ltb (states + labels) edges)))))

tested : (states labels start edges colour : ℕ) (fault : Option ℕ) → fits states labels start edges colour ≡ true →
    ((c : ℕ) → fault ≡ Some c → (colour ≡ 6) × (c ≡ 63)) → Usable states labels start edges colour fault
tested states labels start edges colour fault h ones =
    let l = and_right (leb states 8) _ h in
    let c = and_right (leb labels 8) _ l in
    let s = and_right (leb colour 8) _ c in
    let e = and_right (leb start 16) _ s in
    let f = and_right (leb edges 15) _ e in
    record {
      states≤ = leb-true _ _ (and_left _ _ h);
      labels≤ = leb-true _ _ (and_left _ _ l);
      colour≤ = leb-true _ _ (and_left _ _ c);
      start≤ = leb-true _ _ (and_left _ _ s);
      edges≤ = leb-true _ _ (and_left _ _ e);
      start_fits = leb-true _ _ (and_left _ _ f);
      edges_fit = ltb-true _ _ (and_right (leb states start) _ f);
      six_ones = ones;
    }

-- Those of the large and of the pocket file.
pub large_usable : Usable 8 6 8 15 6 (Some 63)
large_usable = tested _ _ _ _ _ _ refl (λ c e. (refl, cc))

pub pocket_usable : Usable 4 3 4 8 4 None
pocket_usable = tested _ _ _ _ _ _ refl (λ c e. absurd cc)
