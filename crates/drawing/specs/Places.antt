-- Where a text leaves the profile: a statement at a time. From a place on, the profile's texts are a set that depends on the next
-- state's number alone, and the place that reading a statement answers is how far the text goes along with that set.
-- Assumes nothing.
use Rattle.std.specs.Prelude.{Ok, Err, ℕ, suc, ◌+◌, ◌≤◌, ◌<◌, ◌≡◌, refl, ◌⊎◌, true, false, ◌&&◌, List, [], ◌∷◌, ◌++◌, eqb, ltb, length, take, drop, get_or}
use Rattle.std.proofs.Common.{sym, ap, ◌∙◌, inl, inr, ⊎_elim, append_assoc, arith, length-drop, get_or-drop, eqb-true, eq-eqb, ltb-true, lt-ltb}
use Rattle.std.proofs.lemmas.Bool.{eqb-false}
use Rattle.meaning.specs.Pick.{pick}
use Rattle.meaning.specs.Cases.{impossible, cases_of, no_both, and_intro, and_left, and_right}
use Rattle.meaning.specs.Filter.{Edge, each}
use Rattle.files.specs.Files.{all_below}
use Rattle.text.specs.Decimal.{decimal}
use Rattle.spelling.specs.Spelling.{matched, number_at}
use Rattle.spelling.specs.Words.{Stands, matched-stands, same_byte}
use Rattle.spelling.specs.Numbers.{number_none, number_sound}
use Rattle.drawing.specs.declared.Statement.TheVariants as statement
use Rattle.drawing.specs.Profile.{arrow, label_word, line_end, closing, labelled, state_line, edge_line, state_lines, edge_lines, short_edge, Begins}
use Rattle.drawing.specs.Reader.{Labelled, Stated, labelled_at, state_of, edge_between, state_from, edge_from, target_at, closing_at, statement_at, no_state}
use Rattle.drawing.specs.Lines.{short_parts, short_edge_lem}
use Rattle.drawing.specs.Stuck.{Word, Numbered, Clean, a_word, a_number, some_word, some_number, StuckAt, at_as, at_word, at_miss, at_number, no_number, at_no_number, parted}

-- ---- what a text is drawn from, from a place on

-- States' statements from the number `next` on, edges' statements and the closing brace.
pub record DrawnFrom (next : ℕ) (colours : List ℕ) (edges : List Edge) (text : List ℕ) : Type 0 where
  pub few : next + length colours ≤ 1000
  pub short_colours : all_below 1000 colours ≡ true
  pub short_edges : each short_edge edges ≡ true
  pub is_drawn : text ≡ state_lines next colours ++ (edge_lines edges ++ closing)

pub only_closing : (next : ℕ) → next ≤ 1000 → DrawnFrom next [] [] closing
unfolding state_lines edge_lines all_below each
only_closing next h = record { few = omega arith; short_colours = refl; short_edges = refl; is_drawn = refl }

pub is_closing : {next : ℕ} {text : List ℕ} → DrawnFrom next [] [] text → text ≡ closing
unfolding state_lines edge_lines
is_closing x = x.is_drawn

pub with_state_lem : {next : ℕ} {colours : List ℕ} {edges : List Edge} {rest : List ℕ} (colour : ℕ) → colour < 1000 → DrawnFrom (suc next) colours edges rest →
    DrawnFrom next (colour ∷ colours) edges (state_line next colour ++ rest)
unfolding state_lines all_below
with_state_lem {next} {colours} {edges} colour h x = record {
  few = omega (arith, x.few);
  short_colours = and_intro (lt-ltb colour 1000 h) x.short_colours;
  short_edges = x.short_edges;
  is_drawn = rw x.is_drawn (sym (append_assoc (state_line next colour) (state_lines (suc next) colours) (edge_lines edges ++ closing)));
}

pub first_state : {next colour : ℕ} {colours : List ℕ} {edges : List Edge} {text : List ℕ} → DrawnFrom next (colour ∷ colours) edges text →
    (rest : List ℕ) × (next < 1000) × (colour < 1000) × DrawnFrom (suc next) colours edges rest × (text ≡ state_line next colour ++ rest)
unfolding state_lines all_below
first_state {next} {colour = c} {colours = cs} {edges = es} x = (
  state_lines (suc next) cs ++ (edge_lines es ++ closing),
  omega (arith, x.few),
  ltb-true c 1000 (and_left (ltb c 1000) (all_below 1000 cs) x.short_colours),
  record {
    few = omega (arith, x.few);
    short_colours = and_right (ltb c 1000) (all_below 1000 cs) x.short_colours;
    short_edges = x.short_edges;
    is_drawn = refl;
  },
  x.is_drawn ∙ append_assoc (state_line next c) (state_lines (suc next) cs) (edge_lines es ++ closing),
)

-- no state follows an edge
pub with_edge_lem : {colours : List ℕ} {edges : List Edge} {rest : List ℕ} (next : ℕ) (e : Edge) → next ≤ 1000 → short_edge e ≡ true →
    DrawnFrom no_state colours edges rest → DrawnFrom next colours (e ∷ edges) (edge_line e ++ rest)
unfolding state_lines edge_lines each
with_edge_lem {colours} {edges} next e h k x =
    let none = no_colours colours x.few in
    record {
      few = rw none (omega arith);
      short_colours = x.short_colours;
      short_edges = and_intro k x.short_edges;
      is_drawn = rw (x.is_drawn, none) (sym (append_assoc (edge_line e) (edge_lines edges) closing));
    }
  where
    no_colours : (colours : List ℕ) → no_state + length colours ≤ 1000 → colours ≡ []
    no_colours [] h = refl
    no_colours (c ∷ cs) h = absurd (omega arith)

pub first_edge : {next : ℕ} {e : Edge} {edges : List Edge} {text : List ℕ} → DrawnFrom next [] (e ∷ edges) text →
    (rest : List ℕ) × (short_edge e ≡ true) × DrawnFrom no_state [] edges rest × (text ≡ edge_line e ++ rest)
unfolding state_lines edge_lines each
first_edge {e = e} {edges = es} x = (
  edge_lines es ++ closing,
  and_left (short_edge e) (each short_edge es) x.short_edges,
  record {
    few = omega arith;
    short_colours = x.short_colours;
    short_edges = and_right (short_edge e) (each short_edge es) x.short_edges;
    is_drawn = refl;
  },
  x.is_drawn ∙ append_assoc (edge_line e) (edge_lines es) closing,
)

-- ---- the sets

-- What can stand from a place on.
pub record Lines (next : ℕ) (text : List ℕ) : Type 0 where
  pub colours : List ℕ
  pub edges : List Edge
  pub are : DrawnFrom next colours edges text

-- ` [label=`, a number, `];` and the newline, and then a text of a set.
abbrev Labels : (List ℕ → Type 0) → List ℕ → Type 0
Labels Texts = Word label_word (Numbered (λ value. Word line_end Texts))

-- Behind the source of an edge.
abbrev Arrows : List ℕ → Type 0
Arrows = Word arrow (Numbered (λ target. Labels (Lines no_state)))

-- Behind the number that a statement begins with.
abbrev Behind : ℕ → ℕ → List ℕ → Type 0
Behind next n text = ((n ≡ next) × Labels (Lines (suc next)) text) ⊎ Arrows text

labels_clean : {Texts : List ℕ → Type 0} → Clean (λ n. Labels Texts)
labels_clean n u w = rw w.whole

end_clean : {Texts : List ℕ → Type 0} → Clean (λ n. Word line_end Texts)
end_clean n u w = rw w.whole

behind_clean : (next : ℕ) → Clean (Behind next)
behind_clean next n u (inl w) = rw w.1.whole
behind_clean next n u (inr w) = rw w.whole

no_lines : (next : ℕ) → next ≤ 1000 → Lines next closing
no_lines next h = record { colours = []; edges = []; are = only_closing next h }

pub some_lines : (next : ℕ) → next ≤ 1000 → Begins (Lines next) []
some_lines next h = record { rest = closing; whole = no_lines next h }

some_labels : {Texts : List ℕ → Type 0} → Begins Texts [] → Begins (Labels Texts) []
some_labels b = some_word label_word (some_number 0 (omega arith) (some_word line_end b))

some_arrows : Begins Arrows []
some_arrows = some_word arrow (some_number 0 (omega arith) (some_labels (some_lines no_state (omega arith))))

-- a statement, word by word and number by number
labelled_open : (value : ℕ) (rest : List ℕ) → labelled value ++ rest ≡ label_word ++ (decimal value ++ (line_end ++ rest))
labelled_open value rest = ap (λ (l : List ℕ). label_word ++ l) (append_assoc (decimal value) line_end rest)

state_open : (s colour : ℕ) (rest : List ℕ) → state_line s colour ++ rest ≡ decimal s ++ (label_word ++ (decimal colour ++ (line_end ++ rest)))
unfolding state_line
state_open s colour rest = append_assoc (decimal s) (labelled colour) rest ∙ rw (labelled_open colour rest)

edge_open : (e : Edge) (rest : List ℕ) → edge_line e ++ rest ≡ decimal e.source ++ (arrow ++ (decimal e.target ++ (label_word ++ (decimal e.label ++ (line_end ++ rest)))))
unfolding edge_line
edge_open e rest =
    append_assoc (decimal e.source) (arrow ++ (decimal e.target ++ labelled e.label)) rest
    ∙ ap (λ (l : List ℕ). decimal e.source ++ (arrow ++ l)) (append_assoc (decimal e.target) (labelled e.label) rest ∙ rw (labelled_open e.label rest))

-- the closing brace, or a number and what can stand behind it
opened : {next : ℕ} {u : List ℕ} (colours : List ℕ) (edges : List Edge) → DrawnFrom next colours edges u → (u ≡ closing) ⊎ Numbered (Behind next) u
opened [] [] x = inl (is_closing x)
opened [] (e ∷ es) x =
    let (rest, short, more, is) = first_edge x in
    let s = short_parts e short in
    let lines : Lines no_state rest = record { colours = []; edges = es; are = more } in
    inr (rw (is ∙ edge_open e rest)
    (a_number e.source _ s.0 (inr (a_word arrow _ (a_number e.target _ s.2 (a_word label_word _ (a_number e.label _ s.1 (a_word line_end _ lines))))))))
opened {next} (c ∷ cs) es x =
    let (rest, small, short, more, is) = first_state x in
    let lines : Lines (suc next) rest = record { colours = cs; edges = es; are = more } in
    inr (rw (is ∙ state_open next c rest) (a_number next _ small (inl (refl, a_word label_word _ (a_number c _ short (a_word line_end _ lines))))))

lines_open : (next : ℕ) (u : List ℕ) → Lines next u → (u ≡ closing) ⊎ Numbered (Behind next) u
lines_open next u w = opened w.colours w.edges w.are

-- and back
closed : (next n : ℕ) (rest : List ℕ) → next ≤ 1000 → n < 1000 → Behind next n rest → Lines next (decimal n ++ rest)
closed next n rest h k (inl w) =
    let x = w.1.more in
    let y = x.more.more in
    rw (w.0, w.1.whole, x.whole, x.more.whole, ← state_open next x.value x.more.rest)
    (record { colours = x.value ∷ y.colours; edges = y.edges; are = with_state_lem x.value x.small y.are })
closed next n rest h k (inr w) =
    let x = w.more in
    let y = x.more.more in
    let z = y.more.more in
    let e : Edge = record { source = n; label = y.value; target = x.value } in
    rw (w.whole, x.whole, x.more.whole, y.whole, y.more.whole, ← edge_open e y.more.rest)
    (record { colours = z.colours; edges = e ∷ z.edges; are = with_edge_lem next e h (short_edge_lem k y.small x.small) z.are })

lines_close : (next : ℕ) (u : List ℕ) → next ≤ 1000 → Numbered (Behind next) u → Lines next u
lines_close next u h w = rw w.whole (closed next w.value w.rest h w.small w.more)

-- ---- statements

-- What follows behind a label leaves a set at a place; or the label does.
abbrev AfterLabel : (List ℕ → Type 0) → List ℕ → ℕ → Labelled → Type 0
AfterLabel Texts text place (Ok label) = StuckAt Texts text label.end place
AfterLabel Texts text place (Err left) = place ≡ left.place

at_labels : (Texts : List ℕ → Type 0) (text : List ℕ) (at place : ℕ) → Begins Texts [] → AfterLabel Texts text place (labelled_at text at) →
    StuckAt (Labels Texts) text at place
unfolding labelled_at
at_labels Texts text at place b h =
    let value = number_at text (at + 8) in
    let after = some_word line_end b in
    let number = some_number 0 (omega arith) after in
    cases_of (ltb (matched text at label_word) 8) (λ q. let e : place ≡ at + matched text at label_word = rw q at h in rw e (at_miss text at label_word number q))
    (λ q. at_word (matched-stands text at label_word q)
    (cases_of (eqb value.end (at + 8)) (λ r. let e : place ≡ at + 8 = rw (q, r) at h in rw e (at_no_number text (at + 8) end_clean number r))
    (λ r. at_number text (at + 8) end_clean r
    (cases_of (ltb (matched text value.end line_end) 3)
    (λ s. let e : place ≡ value.end + matched text value.end line_end = rw (q, r, s) at h in rw e (at_miss text value.end line_end b s))
    (λ s. at_word (matched-stands text value.end line_end s) (rw (q, r, s) at h))))))

-- What follows behind a statement leaves the profile at a place; or the statement does.
abbrev pub After : ℕ → List ℕ → ℕ → Stated → Type 0
After next text place (Ok (statement.State colour end)) = StuckAt (Lines (suc next)) text end place
After next text place (Ok (statement.Edge e end)) = StuckAt (Lines no_state) text end place
After next text place (Ok (statement.Closing end)) = (place ≡ end) × (eqb end (length text) ≡ false)
After next text place (Err left) = place ≡ left.place

after_state : (next : ℕ) (text : List ℕ) (place : ℕ) (r : Labelled) → After next text place (state_of r) → AfterLabel (Lines (suc next)) text place r
after_state next text place (Ok label) h = h
after_state next text place (Err left) h = h

after_edge : (next : ℕ) (text : List ℕ) (place source target : ℕ) (r : Labelled) → After next text place (edge_between source target r) →
    AfterLabel (Lines no_state) text place r
after_edge next text place source target (Ok label) h = h
after_edge next text place source target (Err left) h = h

at_arrows : (next : ℕ) (text : List ℕ) (at place source : ℕ) → After next text place (edge_from text at source) → StuckAt Arrows text at place
unfolding edge_from target_at
at_arrows next text at place source h =
    let target = number_at text (at + 4) in
    let label = some_labels (some_lines no_state (omega arith)) in
    let number = some_number 0 (omega arith) label in
    cases_of (ltb (matched text at arrow) 4) (λ q. let e : place ≡ at + matched text at arrow = rw q at h in rw e (at_miss text at arrow number q))
    (λ q. at_word (matched-stands text at arrow q)
    (cases_of (eqb target.end (at + 4)) (λ r. let e : place ≡ at + 4 = rw (q, r) at h in rw e (at_no_number text (at + 4) labels_clean number r))
    (λ r. at_number text (at + 4) labels_clean r
    (at_labels (Lines no_state) text target.end place (some_lines no_state (omega arith))
    (after_edge next text place source target.value (labelled_at text target.end) (rw (q, r) at h))))))

-- nothing
abbrev Nothing : List ℕ → Type 0
Nothing u = u ≡ []

at_closing : (next : ℕ) (text : List ℕ) (at place : ℕ) → After next text place (closing_at text at) → StuckAt (Word closing Nothing) text at place
unfolding closing_at
at_closing next text at place h = cases_of (ltb (matched text at closing) 2)
    (λ q. let e : place ≡ at + matched text at closing = rw q at h in rw e (at_miss text at closing (record { rest = []; whole = refl }) q))
    (λ q. let h' : (place ≡ at + 2) × (eqb (at + 2) (length text) ≡ false) = rw q at h in
    let s = matched-stands text at closing q in
    at_word s (record {
      steps = 0;
      is = omega (arith, h'.0);
      stuck = record {
        inside = omega arith;
        begins = record { rest = []; whole = refl };
        never = λ u w e. eqb-false (at + 2) (length text) h'.1 (ended text at (at + 2) s (rw w at e));
      };
    }))
  where
    nothing : (t : List ℕ) → [] ≡ take 1 t → t ≡ []
    nothing [] e = refl
    nothing (b ∷ t) e = impossible (cc)

    ended : (text : List ℕ) (at end : ℕ) → Stands text at closing end → [] ≡ take 1 (drop end text) → end ≡ length text
    ended text at end s e = omega (arith, s.ends, ap length s.is, ap length (nothing (drop end text) e), length-drop at text)

at_behind : (next : ℕ) (text : List ℕ) (at place n : ℕ) → n < 1000 →
    After next text place (pick (eqb n next && eqb (get_or text (at + 1) 0) 91) (state_from text at) (edge_from text at n)) → StuckAt (Behind next n) text at place
unfolding state_from
at_behind next text at place n l h =
    let second = get_or-drop at text 1 0 in
    cases_of (eqb n next && eqb (get_or text (at + 1) 0) 91)
    (λ q. let e = eqb-true n next (and_left (eqb n next) (eqb (get_or text (at + 1) 0) 91) q) in
    let some = some_labels (some_lines (suc next) (omega arith)) in
    let x = at_labels (Lines (suc next)) text at place (some_lines (suc next) (omega arith)) (after_state next text place (labelled_at text at) (rw q at h)) in
    let byte = eqb-true (get_or text (at + 1) 0) 91 (and_right (eqb n next) (eqb (get_or text (at + 1) 0) 91) q) in
    at_as {B = Behind next n} (λ u w. inl (e, w)) x
    (λ u w g. ⊎_elim (λ a. a.1) (λ a. absurd (parted x.stuck some.whole some.whole.whole 45 _ (rw (second, byte)) (rw a.whole at g))) w))
    (λ q. let x = at_arrows next text at place n (rw q at h) in
    at_as {B = Behind next n} (λ u w. inr w) x
    (λ u w g. ⊎_elim
    (λ a. absurd (parted x.stuck some_arrows.whole some_arrows.whole.whole 91 _ (rw second (rw (eq-eqb n next a.0) at q)) (rw a.1.whole at g)))
    (λ a. a) w))

pub at_statement : (next : ℕ) (text : List ℕ) (at place : ℕ) → next ≤ 1000 → After next text place (statement_at text at next) → StuckAt (Lines next) text at place
unfolding statement_at
at_statement next text at place l h =
    let first = number_at text at in
    cases_of (eqb first.end at)
    (λ q. let x = at_closing next text at place (rw q at h) in
    at_as (λ u w. rw (w.whole, w.more) (no_lines next l)) x
    (λ u w g. ⊎_elim (λ a. record { rest = []; more = refl; whole = a }) (λ a. absurd (no_number text at x.steps (behind_clean next) q a g)) (lines_open next u w)))
    (λ q. let x = at_number text at (behind_clean next) q (at_behind next text first.end place first.value (number_sound text at q).0 (rw q at h)) in
    at_as (λ u w. lines_close next u l w) x
    (λ u w g. ⊎_elim (λ a. absurd (no_brace text at x.steps q (rw a at g))) (λ a. a) (lines_open next u w)))
  where
    no_brace : (text : List ℕ) (at j : ℕ) → eqb (number_at text at).end at ≡ false → take (suc j) closing ≡ take (suc j) (drop at text) → ⊥
    no_brace text at j q g =
        let byte : 125 ≡ get_or (drop at text) 0 0 = same_byte (drop at text) closing j 0 g (omega arith) in
        no_both (eq-eqb at at refl) (rw (number_none text at (rw (← byte))) at q)
