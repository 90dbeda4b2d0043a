-- Reading is exact (document 02, wish 1): a text that is read is drawn from what was read, every text of the profile is read so,
-- and the place at which another text leaves the profile is the length of its longest beginning that some text of the profile
-- also has.
-- Assumes nothing.
use Rattle.std.specs.Prelude.{Ok, Err, ℕ, zero, suc, ◌+◌, ◌≤◌, ◌<◌, ◌≡◌, refl, true, List, [], ◌∷◌, ◌++◌, eqb, ltb, length, take, drop}
use Rattle.std.proofs.Common.{sym, ap, ◌∙◌, append_assoc, zero-add, arith, length-drop, take-append-drop, take-take, eqb-true, eq-eqb, ltb-true, ltb-false}
use Rattle.std.proofs.Math.Seq.{drop-length}
use Rattle.meaning.specs.Pick.{pick}
use Rattle.meaning.specs.Cases.{cases_of}
use Rattle.meaning.specs.Filter as meaning
use Rattle.meaning.specs.Filter.{each}
use Rattle.files.specs.Files.{all_below}
use Rattle.layout.specs.declared.edge.Edge.{Edge}
use Rattle.layout.specs.Code.{edge_of}
use Rattle.spelling.specs.Spelling.{matched}
use Rattle.spelling.specs.Words.{common_of, Stands, behind_of, stands_of, stands-inside, matched-stands}
use Rattle.drawing.specs.declared.Statement.TheVariants as statement
use Rattle.drawing.specs.Profile.{opening, closing, state_line, edge_line, state_lines, edge_lines, drawn, short_edge, InProfile, Begins, Longest}
use Rattle.drawing.specs.Reader.{Stated, Read, drawing, outside, with_state, with_edge, no_state, behind, statement_at, statements_from, read_of}
use Rattle.drawing.specs.Lines.{StatementIs, statement_is, state_longer, edge_longer, read_state, read_edge, read_closing}
use Rattle.drawing.specs.Stuck.{Word, Stuck, StuckAt, stuck_as, stuck_longest, at_word, at_miss}
use Rattle.drawing.specs.Places.{DrawnFrom, only_closing, is_closing, with_state_lem, first_state, with_edge_lem, first_edge, Lines, some_lines, at_statement}

-- ---- from a place on

-- What reading statements from a place on says of a text.
abbrev FromIs : List ℕ → ℕ → ℕ → Read → Type 0
FromIs text at next (drawing colours edges) = DrawnFrom next colours edges (drop at text)
FromIs text at next (outside place) = StuckAt (Lines next) text at place

from_state : {text : List ℕ} {at end : ℕ} (next colour : ℕ) (r : Read) → next ≤ 1000 → statement_at text at next ≡ Ok (statement.State colour end) →
    colour < 1000 → Stands text at (state_line next colour) end → FromIs text end (suc next) r → FromIs text at next (with_state colour r)
from_state next colour (drawing cs es) h e c s x = rw s.is (with_state_lem colour c x)
from_state {text} {at} next colour (outside place) h e c s x = at_statement next text at place h (rw e x)

from-edge : {text : List ℕ} {at end : ℕ} (next : ℕ) (f : Edge) (r : Read) → next ≤ 1000 → statement_at text at next ≡ Ok (statement.Edge f end) →
    short_edge (edge_of f) ≡ true → Stands text at (edge_line (edge_of f)) end → FromIs text end no_state r → FromIs text at next (with_edge (edge_of f) r)
from-edge next f (drawing cs es) h e c s x = rw s.is (with_edge_lem next (edge_of f) h c x)
from-edge {text} {at} next f (outside place) h e c s x = at_statement next text at place h (rw e x)

from-closing : {text : List ℕ} {at end : ℕ} (next : ℕ) → next ≤ 1000 → statement_at text at next ≡ Ok (statement.Closing end) → Stands text at closing end →
    FromIs text at next (pick (eqb end (length text)) (drawing [] []) (outside end))
from-closing {text} {at} {end} next h e s = cases_of (eqb end (length text))
    (λ q. rw (q, s.is, eqb-true end (length text) q, drop-length text) (only_closing next h))
    (λ q. rw q (at_statement next text at end h (rw e (refl, q))))

from_step : (text : List ℕ) (at next : ℕ) (following : ℕ → ℕ → Read) (r : Stated) → next ≤ 1000 → at ≤ length text → statement_at text at next ≡ r →
    StatementIs text at next r → ((end next' : ℕ) → at < end → end ≤ length text → next' ≤ 1000 → FromIs text end next' (following end next')) →
    FromIs text at next (behind text next following r)
from_step text at next following (Ok (statement.State colour end)) h l e x more =
    from_state next colour (following end (suc next)) h e x.1 x.2 (more end (suc next) (state_longer next colour x.2) (stands-inside x.2 l) x.0)
from_step text at next following (Ok (statement.Edge f end)) h l e x more =
    from-edge next f (following end no_state) h e x.0 x.1 (more end no_state (edge_longer (edge_of f) x.1) (stands-inside x.1 l) (omega arith))
from_step text at next following (Ok (statement.Closing end)) h l e x more = from-closing next h e x
from_step text at next following (Err left) h l e x more = at_statement next text at left.place h (rw e refl)

from_is : (count : ℕ) (text : List ℕ) (at next : ℕ) → next ≤ 1000 → at ≤ length text → length text < at + count →
    FromIs text at next (statements_from count text at next)
unfolding statements_from
from_is zero text at next h l m = absurd (omega arith)
from_is (suc count) text at next h l m =
    from_step text at next (statements_from count text) (statement_at text at next) h l refl (statement_is text at next l)
    (λ end next' a b c. from_is count text end next' c b (omega arith))

from-drawn : (count : ℕ) (text : List ℕ) (at next : ℕ) (colours : List ℕ) (edges : List meaning.Edge) → at ≤ length text → length text < at + count →
    DrawnFrom next colours edges (drop at text) → statements_from count text at next ≡ drawing colours edges
unfolding statements_from
from-drawn zero text at next cs es h m x = absurd (omega arith)
from-drawn (suc count) text at next [] [] h m x =
    let s = stands_of text at closing [] (is_closing x) in
    let whole : at + 2 ≡ length text = omega (arith, ap length (is_closing x), length-drop at text) in
    rw (read_closing next s, eq-eqb (at + 2) (length text) whole)
from-drawn (suc count) text at next [] (e ∷ es) h m x =
    let (rest, short, more, is) = first_edge x in
    let s = stands_of text at (edge_line e) rest is in
    rw (
      read_edge next e s short,
      from-drawn count text (at + length (edge_line e)) no_state [] es (stands-inside s h) (omega (arith, edge_longer e s))
          (rw (behind_of text at (edge_line e) rest is) more),
    )
from-drawn (suc count) text at next (c ∷ cs) es h m x =
    let (rest, small, short, more, is) = first_state x in
    let s = stands_of text at (state_line next c) rest is in
    rw (
      read_state s small short,
      from-drawn count text (at + length (state_line next c)) (suc next) cs es (stands-inside s h) (omega (arith, state_longer next c s))
          (rw (behind_of text at (state_line next c) rest is) more),
    )

-- ---- the whole text

-- What reading says of a text.
abbrev ReadIs : List ℕ → Read → Type 0
ReadIs text (drawing colours edges) =
    (length colours ≤ 1000) × (all_below 1000 colours ≡ true) × (each short_edge edges ≡ true) × (text ≡ drawn colours edges)
ReadIs text (outside place) = Stuck InProfile text place

from_profile : {colours : List ℕ} {edges : List meaning.Edge} → length colours ≤ 1000 → all_below 1000 colours ≡ true → each short_edge edges ≡ true →
    DrawnFrom 0 colours edges (state_lines 0 colours ++ (edge_lines edges ++ closing))
from_profile h k l = record { few = omega arith; short_colours = k; short_edges = l; is_drawn = refl }

open_profile : (u : List ℕ) → InProfile u → Word opening (Lines 0) u
unfolding drawn
open_profile u x = record {
  rest = state_lines 0 x.colours ++ (edge_lines x.edges ++ closing);
  more = record { colours = x.colours; edges = x.edges; are = from_profile x.few x.short_colours x.short_edges };
  whole = x.is_drawn;
}

close_profile : (u : List ℕ) → Word opening (Lines 0) u → InProfile u
unfolding drawn
close_profile u w =
    let x = w.more.are in
    record {
      colours = w.more.colours;
      edges = w.more.edges;
      few = omega (arith, x.few);
      short_colours = x.short_colours;
      short_edges = x.short_edges;
      is_drawn = w.whole ∙ rw x.is_drawn;
    }

profile_stuck : {text : List ℕ} {place : ℕ} → StuckAt (Word opening (Lines 0)) text 0 place → Stuck InProfile text place
profile_stuck {place = place} x =
    let e : place ≡ x.steps = omega (arith, x.is) in
    rw e (stuck_as close_profile (λ u w g. open_profile u w) x.stuck)

from-opening : {text : List ℕ} (r : Read) → Stands text 0 opening 10 → FromIs text 10 0 r → ReadIs text r
unfolding drawn
from-opening (drawing colours edges) s x = (omega (arith, x.few), x.short_colours, x.short_edges, s.is ∙ rw x.is_drawn)
from-opening (outside place) s x = profile_stuck (at_word s x)

read_is : (text : List ℕ) → ReadIs text (read_of text)
unfolding read_of
read_is text = cases_of (ltb (matched text 0 opening) 10)
    (λ q. rw q (profile_stuck (rw zero-add at (at_miss text 0 opening (some_lines 0 (omega arith)) q))))
    (λ q. let s = matched-stands text 0 opening q in
    rw q (from-opening (statements_from (length text) text 10 0) s (from_is (length text) text 10 0 (omega arith) (stands-inside s (omega arith)) (omega arith))))

-- What is read is what the text is drawn from.
pub read_sound : (text : List ℕ) (colours : List ℕ) (edges : List meaning.Edge) → read_of text ≡ drawing colours edges →
    (length colours ≤ 1000) × (all_below 1000 colours ≡ true) × (each short_edge edges ≡ true) × (text ≡ drawn colours edges)
read_sound text colours edges e = rw e at (read_is text)

pub read_profile : (text : List ℕ) (colours : List ℕ) (edges : List meaning.Edge) → read_of text ≡ drawing colours edges → InProfile text
read_profile text colours edges e =
    let x = read_sound text colours edges e in
    record { colours = colours; edges = edges; few = x.0; short_colours = x.1; short_edges = x.2; is_drawn = x.3 }

-- Where a text is not of the profile, the place is the length of its longest beginning that some text of the profile also has.
pub read_outside : (text : List ℕ) (place : ℕ) → read_of text ≡ outside place → Longest InProfile text place × (InProfile text → ⊥)
read_outside text place e =
    let s : Stuck InProfile text place = rw e at (read_is text) in
    (stuck_longest s, λ x. s.never text x refl)

-- Every text of the profile is read.
pub read_drawn : (colours : List ℕ) (edges : List meaning.Edge) → length colours ≤ 1000 → all_below 1000 colours ≡ true → each short_edge edges ≡ true →
    read_of (drawn colours edges) ≡ drawing colours edges
unfolding read_of drawn
read_drawn colours edges h k l =
    let rest = state_lines 0 colours ++ (edge_lines edges ++ closing) in
    let text = opening ++ rest in
    rw (common_of opening rest, from-drawn (length text) text 10 0 colours edges (omega arith) (omega arith) (from_profile h k l))

pub read_in : {text : List ℕ} (x : InProfile text) → read_of text ≡ drawing x.colours x.edges
read_in x = ap read_of x.is_drawn ∙ read_drawn x.colours x.edges x.few x.short_colours x.short_edges

-- A text is drawn from one list of colours and one list of edges.
pub drawn_one : {text : List ℕ} (x y : InProfile text) → (x.colours ≡ y.colours) × (x.edges ≡ y.edges)
drawn_one x y = (cc (read_in x, read_in y), cc (read_in x, read_in y))

-- A shorter beginning is one too.
pub begins_less : {Texts : List ℕ → Type 0} (text : List ℕ) (j k : ℕ) → j ≤ k → Begins Texts (take k text) → Begins Texts (take j text)
begins_less {Texts} text j k h b =
    let more = drop j (take k text) in
    let e : take k text ≡ take j text ++ more = sym (take-append-drop j (take k text)) ∙ ap (λ (l : List ℕ). l ++ more) (take-take j k text h) in
    record { rest = more ++ b.rest; whole = rw (append_assoc (take j text) more b.rest) at (rw e at b.whole) }

-- The place is one.
pub longest_one : {Texts : List ℕ → Type 0} (text : List ℕ) {j k : ℕ} → Longest Texts text j → Longest Texts text k → j ≡ k
longest_one {Texts} text {j} {k} a b = cases_of (ltb j k)
    (λ q. absurd (least j k (ltb-true j k q) a b))
    (λ q. cases_of (ltb k j) (λ r. absurd (least k j (ltb-true k j r) b a)) (λ r. omega (arith, ltb-false j k q, ltb-false k j r)))
  where
    least : (j k : ℕ) → j < k → Longest Texts text j → Longest Texts text k → ⊥
    least j k h a b = a.no_more (omega (arith, b.inside)) (begins_less text (suc j) k h b.begins)
