-- 15 of from_dot: it is answered for the texts that are not of the profile, with the length of the longest beginning that some text
-- of the profile also has (document 02, wish 1).
-- Assumes nothing.
use Rattle.std.specs.Prelude.{ℕ, ◌<◌, ◌≡◌, Bool, true, false, List, [], ◌∷◌, ltb}
use Rattle.std.proofs.Math.Path.{refl}
use Rattle.std.proofs.Common.{ap, ◌∙◌, arith, ltb-true}
use Rattle.std.proofs.Math.Option.{Option, none, some}
use Rattle.meaning.specs.Pick.{pick}
use Rattle.meaning.specs.Cases.{impossible, and_left, and_right}
use Rattle.meaning.specs.Filter.{Filter, states}
use Rattle.refusals.specs.Refusals.{Outcome, accepted, refused, Test, first_of, room_test}
use Rattle.refusals.proofs.Laws.{numbers_below}
use Rattle.layout.specs.declared.profile.Profile.{Profile}
use Rattle.layout.specs.Layout.{fault_colour, length_of}
use Rattle.edges.specs.Faults.{listed_from, Fault, first_fault, first_leaving, edges_then}
use Rattle.files.specs.Files.{write_tests, write_of}
use Rattle.files.specs.Places.{listed_small, listed_leaving}
use Rattle.drawing.specs.Profile.{InProfile, Longest, filter_of}
use Rattle.drawing.specs.Reader.{Read, drawing, outside, read_of}
use Rattle.drawing.specs.Exact.{read_profile, read_outside, longest_one}
use Rattle.dot.specs.Promise.{file_outcome, from_dot_of}

-- ---- writing a filter never answers 15

-- another answer than 15
abbrev Other : Outcome → Type 0
Other o = (place : ℕ) → o ≡ refused 15 place → ⊥

other_accepted : (vs : List ℕ) → Other (accepted vs)
other_accepted vs place e = impossible cc

other_refused : (k p : ℕ) → (k ≡ 15 → ⊥) → Other (refused k p)
other_refused k p h place e = h cc

other_test : (b : Bool) (k : ℕ) (next : Outcome) → k < 15 → Other next → Other (pick b (refused k 0) next)
other_test true k next h o = other_refused k 0 (λ z. omega arith)
other_test false k next h o = o

other_edges : (fault : Option Fault) (next : Outcome) → ((f : Fault) → fault ≡ some f → f.number ≡ 15 → ⊥) → Other next → Other (edges_then fault next)
other_edges none next h o = o
other_edges (some f) next h o = other_refused f.number f.place (h f refl)

other_first : (ts : List Test) (next : Outcome) → numbers_below 15 ts ≡ true → Other next → Other (first_of ts next)
other_first [] next e o = o
other_first (t ∷ ts) next e o =
    other_test t.given t.number (first_of ts next) (ltb-true t.number 15 (and_left (ltb t.number 15) (numbers_below 15 ts) e))
    (other_first ts next (and_right (ltb t.number 15) (numbers_below 15 ts) e) o)

-- 14, 2, 3, the edges' 7, 8 and 9, 17, and 10
write_other : (P : Profile) (F : Filter) (room : ℕ) → Other (write_of P F true room)
unfolding write_of write_tests
write_other P F room =
    other_first (write_tests P F true) _ refl
    (other_edges (first_fault (states F) F.labels none (listed_from 0 F.edges)) _ (λ f e z. omega (arith, (listed_small (states F) F.labels 0 none F.edges f e).0))
    (other_edges (first_leaving (fault_colour P) F.colours (listed_from 0 F.edges)) _ (λ f e z. omega (arith, (listed_leaving (fault_colour P) F.colours 0 F.edges f e).0))
    (other_first (room_test (length_of P F) room) (accepted (length_of P F ∷ [])) refl (other_accepted (length_of P F ∷ [])))))

-- ---- 15 and its place

module _ (P : Profile) (text : List ℕ) (room place : ℕ) where
  refused_at : (r : Read) → read_of text ≡ r → file_outcome P r room ≡ refused 15 place → Longest InProfile text place × (InProfile text → ⊥)
  refused_at (drawing colours edges) e h = absurd (write_other P (filter_of colours edges) room place h)
  refused_at (outside p) e h = let z : p ≡ place = cc in read_outside text place (e ∙ ap outside z)

  at_refused : (r : Read) → read_of text ≡ r → (InProfile text → ⊥) → Longest InProfile text place → file_outcome P r room ≡ refused 15 place
  at_refused (drawing colours edges) e never l = absurd (never (read_profile text colours edges e))
  at_refused (outside p) e never l = ap (refused 15) (longest_one text (read_outside text p e).0 l)

  -- where from_dot answers 15, the text is not of the profile, and the place is the length of the text's longest beginning that some
  -- text of the profile also has; and so it answers wherever the text is not of the profile
  pub place_in_text :
      (from_dot_of P text room ≡ refused 15 place → Longest InProfile text place × (InProfile text → ⊥))
      × ((InProfile text → ⊥) → Longest InProfile text place → from_dot_of P text room ≡ refused 15 place)
  unfolding from_dot_of
  place_in_text = (refused_at (read_of text) refl, at_refused (read_of text) refl)
