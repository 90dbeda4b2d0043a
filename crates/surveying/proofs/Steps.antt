-- The survey of a text's first statements with the marks of their states and the test of their edges, and one statement more.
-- Assumes nothing.
use Prim.Native.Nat.{ℕ, suc, ◌+◌, ◌-◌, ◌≤◌, ◌<◌, ◌^◌}
use mathlib.Core.Path.{◌≡◌, refl, sym, ap, ap₂, ◌∙◌}
use mathlib.Core.List.{List, [], ◌∷◌, ◌++◌, append-nil}
use mathlib.Core.Option.{Option, none, some}
use native.Mathlib.Numerals.{add-one}
use native.Mathlib.Omega.{arith}
use lib.ListN.{length, replicate, length-append}
use borrow.Author.Tests.{le-ltb}
use lib.Dec.{eqb}
use Rattle.std.specs.Prelude.{Ok}
use Rattle.meaning.specs.Pick.{pick}
use Rattle.meaning.specs.Cases.{cases_of}
use Rattle.meaning.specs.Filter as meaning
use Rattle.layout.specs.declared.edge.Edge.{Edge}
use Rattle.layout.specs.Code.{edge_of}
use Rattle.edges.specs.Faults.{Fault, or_else}
use Rattle.edges.specs.Walk.{fault_of}
use Rattle.spelling.specs.Spelling.{matched}
use Rattle.spelling.specs.Words.{stands-inside, matched-inside}
use Rattle.drawing.specs.Profile.{opening, larger, state_line, state_lines, labels_of}
use Rattle.drawing.specs.declared.Statement.TheVariants as statement
use Rattle.drawing.specs.Reader.{leaves_at, behind, statement_at, statements_from, read_of, no_state}
use Rattle.drawing.specs.Lines.{short_parts, statement_state, statement_edge, state_longer, edge_longer}
use Rattle.surveying.specs.declared.Survey.{Survey}
use Rattle.surveying.specs.declared.Testing.{Testing}
use Rattle.surveying.specs.Surveys.{bound, survey_of, next_of, fault_in, inside, leaves, surveyed, Countable, Marked, MarkedOn, leaving_is, Judged, JudgedOn}
use Rattle.surveying.proofs.Marks.{marked_none}
use Rattle.surveying.proofs.Faults.{untested, judged_untested, judged_none}
use Rattle.surveying.proofs.Laws.{begin_more, survey_state, survey_edge, no_edges, joined, joined_none, joined_state, joined-edge}

-- The text is read up to a place, `s` is the survey of what was read, its states are marked and its edges tested; `left` and one more
-- statements can follow.
pub record SoFar (fault : Option ℕ) (text : List ℕ) (at : ℕ) (s : Survey) (words : List ℕ) (t : Testing) : Type 0 where
  pub colours : List ℕ
  pub edges : List meaning.Edge
  pub left : ℕ
  pub inside : at ≤ length text
  pub enough : length text ≤ at + left
  pub few : length colours + length edges ≤ at
  pub here : edges ≡ [] → at ≡ 10 + length (state_lines 0 colours)
  pub survey : s ≡ survey_of colours edges
  pub marked : Marked fault colours words
  pub judged : Judged fault colours edges t
  pub read : read_of text ≡ joined colours edges (statements_from (suc left) text at s.next)

abbrev pub with_state : Survey → ℕ → ℕ → Survey
with_state s c end = record {
  states = s.states + 1;
  colours = larger s.colours (c + 1);
  begin = end;
  edges = s.edges;
  labels = s.labels;
  next = s.next + 1;
}

abbrev pub with_edge : Survey → ℕ → Survey
with_edge s l = record {
  states = s.states;
  colours = s.colours;
  begin = s.begin;
  edges = s.edges + 1;
  labels = larger s.labels (l + 1);
  next = 1000;
}

module _ (fault : Option ℕ) (text : List ℕ) (at : ℕ) (s : Survey) (words : List ℕ) (t : Testing) (f : SoFar fault text at s words t) where
  -- what was read, and then what follows the next statement
  pub read_on : read_of text ≡ joined f.colours f.edges (behind text s.next (statements_from f.left text) (statement_at text at s.next))
  unfolding statements_from
  read_on = f.read

  pub countable : length text < 2 ^ 63 → (k : ℕ) → k < 1000 → Countable s k
  countable short k h = rw f.survey (record {
    states = omega (arith, f.few, f.inside);
    edges = omega (arith, f.few, f.inside);
    next = next_small f.edges;
    short = h;
  })
    where
      next_small : (es : List meaning.Edge) → next_of f.colours es < 2 ^ 63
      next_small [] = omega (arith, f.few, f.inside, short)
      next_small (e ∷ es) = omega arith

  -- one statement fewer can follow
  fewer : {end : ℕ} → at < end → end ≤ length text → (f.left ≡ suc (f.left - 1)) × (length text ≤ end + (f.left - 1))
  fewer h l = (omega (arith, f.enough), omega (arith, f.enough))

  -- so many states and edges there are
  states_are : length f.colours ≡ s.states
  states_are = sym (ap (λ (x : Survey). x.states) f.survey)

  edges_are : length f.edges ≡ s.edges
  edges_are = sym (ap (λ (x : Survey). x.edges) f.survey)

  pub step_state : (c end : ℕ) (words' : List ℕ) → statement_at text at s.next ≡ Ok (statement.State c end) → MarkedOn fault s.states c words words' →
      SoFar fault text end (with_state s c end) words' t
  step_state c end words' e on =
      let st = statement_state text at s.next c end f.inside e in
      let longer = state_longer s.next c st.2 in
      let inside = stands-inside st.2 f.inside in
      let less = fewer longer inside in
      let next : s.next ≡ next_of f.colours f.edges = ap (λ (x : Survey). x.next) f.survey in
      let none : f.edges ≡ [] = no_edges f.colours f.edges (rw next at st.0) in
      let count : s.next ≡ length f.colours = next ∙ ap (next_of f.colours) none in
      let ends : end ≡ 10 + length (state_lines 0 f.colours) + length (state_line (length f.colours) c) =
      st.2.ends ∙ rw (f.here none, count) in
      record {
        colours = f.colours ++ (c ∷ []);
        edges = [];
        left = f.left - 1;
        inside = inside;
        enough = less.1;
        few = omega (arith, f.few, length-append f.colours (c ∷ []));
        here = λ z. ends ∙ sym (begin_more f.colours c);
        survey = rw (f.survey, none) (survey_state f.colours c end ends);
        marked = on f.colours states_are f.marked;
        judged = judged_none fault f.colours (f.colours ++ (c ∷ [])) t (rw none at f.judged);
        read = read_on ∙ rw (e, none, add-one s.next, ← less.0) (joined_state f.colours [] c (statements_from f.left text end (suc s.next)));
      }

  pub step_edge : (g : Edge) (end : ℕ) (t' : Testing) → statement_at text at s.next ≡ Ok (statement.Edge g end) → JudgedOn s.states words s.edges g t t' →
      SoFar fault text end (with_edge s g.label) words t'
  step_edge g end t' e on =
      let st = statement_edge text at s.next g end f.inside e in
      let longer = edge_longer (edge_of g) st.1 in
      let inside = stands-inside st.1 f.inside in
      let less = fewer longer inside in
      record {
        colours = f.colours;
        edges = f.edges ++ (edge_of g ∷ []);
        left = f.left - 1;
        inside = inside;
        enough = less.1;
        few = omega (arith, f.few, length-append f.edges (edge_of g ∷ []));
        here = λ z. absurd (omega (arith, ap length z, length-append f.edges (edge_of g ∷ [])));
        survey = rw f.survey (survey_edge f.colours f.edges (edge_of g));
        marked = f.marked;
        judged = on fault f.colours f.edges states_are f.marked edges_are f.judged;
        read = read_on ∙ rw (e, ← less.0) (joined-edge f.colours f.edges (edge_of g) (statements_from f.left text end no_state));
      }

  -- the next statement has bytes, and ends inside the text; its number is short
  pub state_on : (c end : ℕ) → statement_at text at s.next ≡ Ok (statement.State c end) → (at < end) × (end ≤ length text) × (c < 1000)
  state_on c end e =
      let st = statement_state text at s.next c end f.inside e in
      (state_longer s.next c st.2, stands-inside st.2 f.inside, st.1)

  pub edge_on : (g : Edge) (end : ℕ) → statement_at text at s.next ≡ Ok (statement.Edge g end) → (at < end) × (end ≤ length text) × (g.label < 1000)
  edge_on g end e =
      let st = statement_edge text at s.next g end f.inside e in
      (edge_longer (edge_of g) st.1, stands-inside st.1 f.inside, (short_parts (edge_of g) st.0).1)

  -- what is told of the edges
  told_is : or_else (fault_of t.verdict) (leaving_is t.leaving) ≡ fault_in fault f.colours f.edges
  told_is = go (fault_of t.verdict) refl
    where
      go : (own : Option Fault) → fault_of t.verdict ≡ own → or_else own (leaving_is t.leaving) ≡ fault_in fault f.colours f.edges
      go none z = f.judged.leaving z ∙ rw (sym f.judged.own ∙ z)
      go (some x) z = rw (sym f.judged.own ∙ z)

  -- what is found at the end
  pub closed_is : (end : ℕ) → statement_at text at s.next ≡ Ok (statement.Closing end) →
      pick (eqb end (length text)) (inside s (or_else (fault_of t.verdict) (leaving_is t.leaving))) (leaves end) ≡ surveyed fault (read_of text)
  unfolding joined
  closed_is end e = cases_of (eqb end (length text))
      (λ q. rw (read_on, e, q) (rw (append-nil f.colours, append-nil f.edges) (ap₂ inside f.survey told_is)))
      (λ q. rw (read_on, e, q))

  pub outside_is : (place : ℕ) → statement_at text at s.next ≡ leaves_at place → surveyed fault (read_of text) ≡ leaves place
  unfolding joined
  outside_is place e = rw (read_on, e)

abbrev pub begun : Survey
begun = record { states = 0; colours = 0; begin = 10; edges = 0; labels = 1; next = 0 }

pub first_of-all : (fault : Option ℕ) (text : List ℕ) → 10 ≤ matched text 0 opening → SoFar fault text 10 begun (replicate 4 0) untested
unfolding read_of bound labels_of state_lines
first_of-all fault text h =
    let inside = matched-inside text 0 opening (omega arith) in
    let count : suc (length text - 1) ≡ length text = omega (arith, inside) in
    record {
      colours = [];
      edges = [];
      left = length text - 1;
      inside = omega (arith, inside);
      enough = omega arith;
      few = omega arith;
      here = λ z. refl;
      survey = refl;
      marked = marked_none fault;
      judged = judged_untested fault;
      read = rw (le-ltb (matched text 0 opening) 10 h, count, joined_none (statements_from (length text) text 10 0));
    }
