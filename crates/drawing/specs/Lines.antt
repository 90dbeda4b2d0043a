-- Laws of statements: what is read stands there, and what stands there is read.
-- Assumes nothing.
use Rattle.std.specs.Prelude.{Ok, Err, ℕ, ◌+◌, ◌≤◌, ◌<◌, ◌≡◌, refl, Bool, true, false, ◌&&◌, List, ◌++◌, eqb, ltb, length, drop, get_or}
use Rattle.std.proofs.Common.{sym, ap, ◌∙◌, arith, length-append, get_or-drop, eqb-true, eq-eqb, ne_eqb, ltb-true, lt-ltb}
use Rattle.meaning.specs.Cases.{cases_of, and_intro, and_left, and_right}
use Rattle.meaning.specs.Filter as meaning
use Rattle.layout.specs.declared.edge.Edge.{Edge}
use Rattle.layout.specs.Code.{edge_of}
use Rattle.text.specs.Decimal.{decimal}
use Rattle.spelling.specs.Spelling.{matched, number_to, number_at}
use Rattle.spelling.specs.Words.{Stands, stands_of, stands-inside, stands_then, stands-split, matched-inside, matched-stands, matched_of}
use Rattle.spelling.specs.Numbers.{decimal_some, number_end, number_sound, number_read, number_none}
use Rattle.drawing.specs.declared.Statement.TheVariants as statement
use Rattle.drawing.specs.declared.Line.{Line}
use Rattle.drawing.specs.Profile.{arrow, label_word, line_end, closing, labelled, state_line, edge_line, short_edge}
use Rattle.drawing.specs.Reader.{Labelled, with, Stated, leaves_at, labelled_at, state_of, edge_between, state_from, edge_from, target_at, closing_at, statement_at, line_at}

abbrev pub line_to : meaning.Edge → ℕ → Line
line_to e end = record { edge = record { source = e.source; label = e.label; target = e.target }; end = end }

-- an edge's three numbers
pub short_parts : (e : meaning.Edge) → short_edge e ≡ true → (e.source < 1000) × (e.label < 1000) × (e.target < 1000)
short_parts e h =
    let h' = and_right (ltb e.source 1000) (ltb e.label 1000 && ltb e.target 1000) h in (
      ltb-true e.source 1000 (and_left (ltb e.source 1000) _ h),
      ltb-true e.label 1000 (and_left (ltb e.label 1000) (ltb e.target 1000) h'),
      ltb-true e.target 1000 (and_right (ltb e.label 1000) (ltb e.target 1000) h'),
    )

pub short_edge_lem : {source label target : ℕ} → source < 1000 → label < 1000 → target < 1000 →
    short_edge (record { source = source; label = label; target = target }) ≡ true
short_edge_lem {source} {label} {target} h k l = and_intro (lt-ltb source 1000 h) (and_intro (lt-ltb label 1000 k) (lt-ltb target 1000 l))

-- ---- what is read stands there

-- What reading a label's end says of a text.
abbrev pub LabelledIs : List ℕ → ℕ → Labelled → Type 0
LabelledIs text at (Ok label) = (label.value < 1000) × Stands text at (labelled label.value) label.end
LabelledIs text at (Err left) = (at ≤ left.place) × (left.place ≤ length text)

pub labelled_is : (text : List ℕ) (at : ℕ) → at ≤ length text → LabelledIs text at (labelled_at text at)
unfolding labelled_at
labelled_is text at h =
    let value = number_at text (at + 8) in
    cases_of (ltb (matched text at label_word) 8) (λ q. rw q (omega arith, matched-inside text at label_word h))
    (λ q. let word = matched-stands text at label_word q in
    let h₁ = stands-inside word h in
    cases_of (eqb value.end (at + 8)) (λ r. rw (q, r) (omega arith, h₁))
    (λ r. let n = number_sound text (at + 8) r in
    let h₂ = stands-inside n.1 h₁ in
    cases_of (ltb (matched text value.end line_end) 3)
    (λ s. rw (q, r, s) (omega (arith, (number_end text (at + 8)).0), matched-inside text value.end line_end h₂))
    (λ s. rw (q, r, s) (n.0, stands_then word (stands_then n.1 (matched-stands text value.end line_end s))))))

-- What reading a statement says of a text.
abbrev pub StatementIs : List ℕ → ℕ → ℕ → Stated → Type 0
StatementIs text at next (Ok (statement.State colour end)) = (next < 1000) × (colour < 1000) × Stands text at (state_line next colour) end
StatementIs text at next (Ok (statement.Edge e end)) = (short_edge (edge_of e) ≡ true) × Stands text at (edge_line (edge_of e)) end
StatementIs text at next (Ok (statement.Closing end)) = Stands text at closing end
StatementIs text at next (Err left) = (at ≤ left.place) × (left.place ≤ length text)

state_is : {text : List ℕ} {at mid : ℕ} (next : ℕ) (r : Labelled) → next < 1000 → Stands text at (decimal next) mid → LabelledIs text mid r →
    StatementIs text at next (state_of r)
unfolding state_line
state_is next (Ok label) h s x = (h, x.0, stands_then s x.1)
state_is next (Err left) h s x = (omega (arith, s.ends, x.0), x.1)

edge_is : {text : List ℕ} {at a b c : ℕ} (next source target : ℕ) (r : Labelled) → source < 1000 → target < 1000 →
    Stands text at (decimal source) a → Stands text a arrow b → Stands text b (decimal target) c → LabelledIs text c r →
    StatementIs text at next (edge_between source target r)
unfolding edge_line
edge_is next source target (Ok label) h k s t u x =
    (short_edge_lem h x.0 k, stands_then s (stands_then t (stands_then u x.1)))
edge_is next source target (Err left) h k s t u x = (omega (arith, s.ends, t.ends, u.ends, x.0), x.1)

pub statement_is : (text : List ℕ) (at next : ℕ) → at ≤ length text → StatementIs text at next (statement_at text at next)
unfolding statement_at closing_at state_from edge_from target_at
statement_is text at next h =
    let first = number_at text at in
    let target = number_at text (first.end + 4) in
    cases_of (eqb first.end at)
    (λ q. cases_of (ltb (matched text at closing) 2)
    (λ r. rw (q, r) (omega arith, matched-inside text at closing h))
    (λ r. rw (q, r) (matched-stands text at closing r)))
    (λ q. let n = number_sound text at q in
    let h₁ = stands-inside n.1 h in
    cases_of (eqb first.value next && eqb (get_or text (first.end + 1) 0) 91)
    (λ r. let e = eqb-true first.value next (and_left (eqb first.value next) _ r) in
    rw (q, r) (state_is next (labelled_at text first.end) (rw e at n.0) (rw e at n.1) (labelled_is text first.end h₁)))
    (λ r. cases_of (ltb (matched text first.end arrow) 4)
    (λ s. rw (q, r, s) (omega (arith, (number_end text at).0), matched-inside text first.end arrow h₁))
    (λ s. let word = matched-stands text first.end arrow s in
    let h₂ = stands-inside word h₁ in
    cases_of (eqb target.end (first.end + 4))
    (λ t. rw (q, r, s, t) (omega (arith, (number_end text at).0), h₂))
    (λ t. let m = number_sound text (first.end + 4) t in
    rw (q, r, s, t) (edge_is next first.value target.value (labelled_at text target.end) n.0 m.0 n.1 word m.1
    (labelled_is text target.end (stands-inside m.1 h₂)))))))

-- one kind of statement at a time
pub statement_state : (text : List ℕ) (at next colour end : ℕ) → at ≤ length text → statement_at text at next ≡ Ok (statement.State colour end) →
    (next < 1000) × (colour < 1000) × Stands text at (state_line next colour) end
statement_state text at next colour end h e = rw e at (statement_is text at next h)

pub statement_edge : (text : List ℕ) (at next : ℕ) (e : Edge) (end : ℕ) → at ≤ length text → statement_at text at next ≡ Ok (statement.Edge e end) →
    (short_edge (edge_of e) ≡ true) × Stands text at (edge_line (edge_of e)) end
statement_edge text at next e end h q = rw q at (statement_is text at next h)

pub statement_closing : (text : List ℕ) (at next end : ℕ) → at ≤ length text → statement_at text at next ≡ Ok (statement.Closing end) → Stands text at closing end
statement_closing text at next end h e = rw e at (statement_is text at next h)

pub statement_outside : (text : List ℕ) (at next place : ℕ) → at ≤ length text → statement_at text at next ≡ leaves_at place →
    (at ≤ place) × (place ≤ length text)
statement_outside text at next place h e = rw e at (statement_is text at next h)

-- a statement has bytes
pub state_longer : {text : List ℕ} {at end : ℕ} (s colour : ℕ) → Stands text at (state_line s colour) end → at < end
unfolding state_line
state_longer s colour x = omega (arith, x.ends, length-append (decimal s) (labelled colour))

pub edge_longer : {text : List ℕ} {at end : ℕ} (e : meaning.Edge) → Stands text at (edge_line e) end → at < end
unfolding edge_line
edge_longer e x = omega (arith, x.ends, length-append (decimal e.source) (arrow ++ (decimal e.target ++ labelled e.label)))

-- ---- what stands there is read

-- a number has bytes
longer : (at n : ℕ) → n < 1000 → eqb (at + length (decimal n)) at ≡ false
longer at n h = ne_eqb (at + length (decimal n)) at (λ z. omega (arith, z, decimal_some n h))

-- the number of a label that stands there
label_number : {text : List ℕ} {at value end : ℕ} → Stands text at (labelled value) end → value < 1000 →
    (mid : ℕ) × (eqb mid (at + 8) ≡ false) × (number_at text (at + 8) ≡ number_to value mid) × Stands text mid line_end end
label_number {text} {at} {value} {end} s h =
    let word = stands-split label_word (decimal value ++ line_end) s in
    let number = stands-split (decimal value) line_end word.1 in
    (at + 8 + length (decimal value), longer (at + 8) value h, number_read number.0 h (rw number.1.is), number.1)

pub labelled_read : {text : List ℕ} {at value end : ℕ} → Stands text at (labelled value) end → value < 1000 → labelled_at text at ≡ with value end
unfolding labelled_at
labelled_read {text} {at} {value} {end} s h =
    let n = label_number s h in
    let word = (stands-split label_word (decimal value ++ line_end) s).0 in
    rw (matched_of word, n.2, n.1, matched_of n.3) (ap (with value) (sym n.3.ends))

pub read_state : {text : List ℕ} {at next colour end : ℕ} → Stands text at (state_line next colour) end → next < 1000 → colour < 1000 →
    statement_at text at next ≡ Ok (statement.State colour end)
unfolding statement_at state_from state_line
read_state {text} {at} {next} {colour} {end} s h k =
    let x = stands-split (decimal next) (labelled colour) s in
    let n = number_read x.0 h (rw x.1.is) in
    let bracket : get_or text (at + length (decimal next) + 1) 0 ≡ 91 = sym (get_or-drop (at + length (decimal next)) text 1 0) ∙ rw x.1.is in
    rw (n, longer at next h, eq-eqb next next refl, bracket, labelled_read x.1 k)

-- The numbers and words of an edge that stands there.
record EdgeRead (text : List ℕ) (at : ℕ) (e : meaning.Edge) (end : ℕ) : Type 0 where
  behind : ℕ
  source_read : number_at text at ≡ number_to e.source behind
  source_some : eqb behind at ≡ false
  arrow_there : Stands text behind arrow (behind + 4)
  last : ℕ
  target_read : number_at text (behind + 4) ≡ number_to e.target last
  target_some : eqb last (behind + 4) ≡ false
  label_there : Stands text last (labelled e.label) end
  label_short : e.label < 1000

edge_read : {text : List ℕ} {at end : ℕ} (e : meaning.Edge) → Stands text at (edge_line e) end → short_edge e ≡ true → EdgeRead text at e end
unfolding edge_line
edge_read {text} {at} {end} e s h =
    let short = short_parts e h in
    let x = stands-split (decimal e.source) (arrow ++ (decimal e.target ++ labelled e.label)) s in
    let y = stands-split arrow (decimal e.target ++ labelled e.label) x.1 in
    let z = stands-split (decimal e.target) (labelled e.label) y.1 in
    record {
      behind = at + length (decimal e.source);
      source_read = number_read x.0 short.0 (rw x.1.is);
      source_some = longer at e.source short.0;
      arrow_there = y.0;
      last = at + length (decimal e.source) + 4 + length (decimal e.target);
      target_read = number_read z.0 short.2 (rw z.1.is);
      target_some = longer (at + length (decimal e.source) + 4) e.target short.2;
      label_there = z.1;
      label_short = short.1;
    }

pub read_edge : {text : List ℕ} {at end : ℕ} (next : ℕ) (e : meaning.Edge) → Stands text at (edge_line e) end → short_edge e ≡ true →
    statement_at text at next ≡ Ok (statement.Edge (record { source = e.source; label = e.label; target = e.target }) end)
unfolding statement_at edge_from target_at
read_edge {text} {at} {end} next e s h =
    let x = edge_read e s h in
    let dash : get_or text (x.behind + 1) 0 ≡ 45 = sym (get_or-drop x.behind text 1 0) ∙ rw x.arrow_there.is in
    rw (
      x.source_read,
      x.source_some,
      dash,
      and_no (eqb e.source next),
      matched_of x.arrow_there,
      x.target_read,
      x.target_some,
      labelled_read x.label_there x.label_short,
    )
  where
    and_no : (b : Bool) → (b && false) ≡ false
    and_no true = refl
    and_no false = refl

pub read_closing : {text : List ℕ} {at end : ℕ} (next : ℕ) → Stands text at closing end → statement_at text at next ≡ Ok (statement.Closing end)
unfolding statement_at closing_at
read_closing {text} {at} {end} next s = rw (number_none text at (rw s.is), eq-eqb at at refl, matched_of s, s.ends)

-- a second look at an edge
pub line_read : {text : List ℕ} {at end : ℕ} (e : meaning.Edge) → Stands text at (edge_line e) end → short_edge e ≡ true → line_at text at ≡ line_to e end
unfolding line_at
line_read {text} {at} {end} e s h =
    let x = edge_read e s h in
    let n = label_number x.label_there x.label_short in
    rw (x.source_read, x.target_read, n.2) (ap (line_to e) (sym n.3.ends))

pub line_drawn : (text : List ℕ) (at : ℕ) (e : meaning.Edge) (rest : List ℕ) → drop at text ≡ edge_line e ++ rest → short_edge e ≡ true →
    line_at text at ≡ line_to e (at + length (edge_line e))
line_drawn text at e rest q h = line_read e (stands_of text at (edge_line e) rest q) h
