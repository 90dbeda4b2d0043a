-- A text of the profile, its survey and the fault of its edges.
-- Assumes nothing.
use Prim.Native.Nat.{ℕ, suc, ◌^◌, ◌≤◌}
use mathlib.Core.Path.{◌≡◌, refl, sym, ap, ◌∙◌}
use mathlib.Core.Bool.{◌&&◌}
use mathlib.Core.List.{List, [], ◌∷◌}
use mathlib.Core.Option.{Option, none, some}
use native.Mathlib.Omega.{arith}
use lib.Dec.{ltb, leb}
use lib.ListN.{length}
use borrow.Author.Tests.{ltb-true, ltb-false, le-leb, lt-leb, leb-true, leb-false}
use Rattle.meaning.specs.Cases.{cases_of, impossible}
use Rattle.meaning.specs.Filter.{Edge}
use Rattle.layout.specs.declared.profile.Profile.{Profile}
use Rattle.edges.specs.Faults.{listed_from, edge_fault, or_else, first_fault, first_leaving}
use Rattle.files.specs.Files.{within, all_below, holdable}
use Rattle.drawing.specs.Profile.{larger, labels_of}
use Rattle.drawing.specs.Reader.{Read, drawing, outside, colours_of, edges_of, read_of}
use Rattle.drawing.specs.More.{larger_is}
use Rattle.surveying.specs.declared.Survey.{Survey}
use Rattle.surveying.specs.Surveys.{bound, survey_of, smaller, fault_among, fault_in, surveyed, Known}
use Rattle.surveying.specs.Surveys as found

-- ---- surveys

pub edges_are : (text : List ℕ) (s : Survey) → Known text s → s.edges ≡ length (edges_of (read_of text))
edges_are text s k = ap (λ (x : Survey). x.edges) k.survey ∙ sym (ap (λ (r : Read). length (edges_of r)) k.read)

pub states_are : (text : List ℕ) (s : Survey) → Known text s → s.states ≡ length (colours_of (read_of text))
states_are text s k = ap (λ (x : Survey). x.states) k.survey ∙ sym (ap (λ (r : Read). length (colours_of r)) k.read)

pub labels_are : (text : List ℕ) (s : Survey) → Known text s → s.labels ≡ labels_of (edges_of (read_of text))
labels_are text s k = ap (λ (x : Survey). x.labels) k.survey ∙ sym (ap (λ (r : Read). labels_of (edges_of r)) k.read)

outside_as : (fault : Option ℕ) (text : List ℕ) (place : ℕ) (r : Read) → read_of text ≡ r → found.leaves place ≡ surveyed fault r → read_of text ≡ outside place
outside_as fault text place (drawing cs es) e h = impossible cc
outside_as fault text place (outside p) e h = e ∙ ap outside cc

pub outside_of : (fault : Option ℕ) (text : List ℕ) (place : ℕ) → found.leaves place ≡ surveyed fault (read_of text) → read_of text ≡ outside place
outside_of fault text place h = outside_as fault text place (read_of text) refl h

-- ---- the largest number of some

-- each of some numbers is below a limit where the largest of them is
pub bound-below : (limit : ℕ) (xs : List ℕ) → leb (bound xs) limit ≡ all_below limit xs
unfolding bound all_below
bound-below limit [] = le-leb 0 limit (omega arith)
bound-below limit (x ∷ xs) =
    let is = larger_is (suc x) (bound xs) in
    cases_of (ltb x limit)
    (λ q. let l = ltb-true x limit q in
    cases_of (leb (bound xs) limit)
    (λ t. rw (q, ← bound-below limit xs, t) (le-leb (larger (suc x) (bound xs)) limit (omega (arith, is, l, leb-true (bound xs) limit t))))
    (λ t. rw (q, ← bound-below limit xs, t) (lt-leb (larger (suc x) (bound xs)) limit (omega (arith, is, l, leb-false (bound xs) limit t)))))
    (λ q. rw q (lt-leb (larger (suc x) (bound xs)) limit (omega (arith, is, ltb-false x limit q))))

-- the tests of 14, as the survey tells them
pub holdable_is : (P : Profile) (text : List ℕ) (s : Survey) → Known text s → holdable P (colours_of (read_of text)) s.labels
    ≡ (within 1 (2 ^ P.states) s.states && (within 1 (2 ^ P.labels) s.labels && leb s.colours (2 ^ P.colour)))
unfolding holdable
holdable_is P text s k =
    let states : s.states ≡ length k.colours = ap (λ (x : Survey). x.states) k.survey in
    let colours : s.colours ≡ bound k.colours = ap (λ (x : Survey). x.colours) k.survey in
    rw (k.read, states, colours, bound-below (2 ^ P.colour) k.colours)

pub labels_some : (es : List Edge) → 1 ≤ labels_of es
unfolding labels_of
labels_some [] = omega arith
labels_some (e ∷ es) = omega (arith, larger_is (suc e.label) (labels_of es))

-- ---- edges

smaller_is : (n k : ℕ) → n ≤ k → smaller n k ≡ n
smaller_is n k h = cases_of (ltb n k) (λ q. rw q) (λ q. rw q (omega (arith, ltb-false n k q)))

-- where each label is below m, no fault depends on m
fault_labels : (n m k i : ℕ) (before : Option Edge) (es : List Edge) → labels_of es ≤ m → labels_of es ≤ k →
    first_fault n m before (listed_from i es) ≡ first_fault n k before (listed_from i es)
unfolding first_fault listed_from edge_fault labels_of
fault_labels n m k i before [] hm hk = refl
fault_labels n m k i before (e ∷ es) hm hk =
    let is = larger_is (suc e.label) (labels_of es) in
    rw (
      lt-leb m e.label (omega (arith, is)),
      lt-leb k e.label (omega (arith, is)),
      fault_labels n m k (suc i) (some e) es (omega (arith, is)) (omega (arith, is)),
    )

-- of a filter that a file can hold, the fault is that of pack
pub fault_is_lem : (fault : Option ℕ) (text : List ℕ) (s : Survey) → Known text s → s.states ≤ 256 → s.labels ≤ 256 →
    let colours = colours_of (read_of text) in
    let edges = edges_of (read_of text) in
    fault_in fault colours edges ≡ or_else (first_fault s.states s.labels none (listed_from 0 edges)) (first_leaving fault colours (listed_from 0 edges))
fault_is_lem fault text s k n m =
    let es = edges_of (read_of text) in
    let labels = labels_are text s k in
    let own : fault_among s.states es ≡ first_fault s.states s.labels none (listed_from 0 es) =
    ap (λ (j : ℕ). first_fault j 256 none (listed_from 0 es)) (smaller_is s.states 256 n)
    ∙ fault_labels s.states 256 s.labels 0 none es (omega (arith, labels)) (omega (arith, labels)) in
    rw (← states_are text s k, own)
