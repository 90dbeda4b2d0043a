-- Reading a text of the profile byte by byte: what it is drawn from, or where it leaves the profile (document 02, wish 1). A place
-- is counted from the text's beginning. That this place is the length of the longest beginning that some text of the profile
-- also has is a theorem.
-- Assumes nothing.
use Rattle.std.specs.Prelude.{Result, Ok, Err, ℕ, zero, suc, ◌+◌, Bool, true, false, ◌&&◌, List, [], ◌∷◌, eqb, ltb, length, get_or}
use Rattle.meaning.specs.Pick.{pick}
use Rattle.meaning.specs.Filter as meaning
use Rattle.layout.specs.Code.{edge_of}
use Rattle.spelling.specs.Spelling.{matched, number_at}
use Rattle.spelling.specs.declared.Number.{Number}
use Rattle.drawing.specs.declared.Outside.{Outside}
use Rattle.drawing.specs.declared.Statement.{Statement}
use Rattle.drawing.specs.declared.Statement.TheVariants as statement
use Rattle.drawing.specs.declared.Line.{Line}
use Rattle.drawing.specs.Profile.{opening, arrow, label_word, line_end, closing}

-- ---- statements

-- A number behind the word before it, with the place behind what it stands in; or where the text leaves the profile.
abbrev pub Labelled : Type 0
Labelled = Result Number Outside

abbrev pub with : ℕ → ℕ → Labelled
with value end = Ok (record { value = value; end = end })

-- What is read; or where the text leaves the profile.
abbrev pub Stated : Type 0
Stated = Result Statement Outside

abbrev pub leaves_at : {A : Type 0} → ℕ → Result A Outside
leaves_at place = Err (record { place = place })

-- ` [label=`, a number, `];` and the newline.
unfoldable pub labelled_at : List ℕ → ℕ → Labelled
labelled_at text at =
    let value = number_at text (at + 8) in
    pick (ltb (matched text at label_word) 8) (leaves_at (at + matched text at label_word))
    (pick (eqb value.end (at + 8)) (leaves_at (at + 8))
    (pick (ltb (matched text value.end line_end) 3) (leaves_at (value.end + matched text value.end line_end))
    (with value.value (value.end + 3))))

abbrev pub state_of : Labelled → Stated
state_of (Ok colour) = Ok (statement.State colour.value colour.end)
state_of (Err outside) = Err outside

abbrev pub edge_between : ℕ → ℕ → Labelled → Stated
edge_between source target (Ok label) =
    Ok (statement.Edge (record { source = source; label = label.value; target = target }) label.end)
edge_between source target (Err outside) = Err outside

-- A state's statement, behind its number.
unfoldable pub state_from : List ℕ → ℕ → Stated
state_from text at = state_of (labelled_at text at)

-- ` -> ` and an edge's target, behind its source.
unfoldable pub target_at : List ℕ → ℕ → Labelled
target_at text at =
    let target = number_at text (at + 4) in
    pick (ltb (matched text at arrow) 4) (leaves_at (at + matched text at arrow))
    (pick (eqb target.end (at + 4)) (leaves_at (at + 4)) (Ok target))

-- An edge's statement, behind its source: the target, and then the label.
abbrev pub edge_behind : List ℕ → ℕ → Labelled → Stated
edge_behind text source (Ok target) = edge_between source target.value (labelled_at text target.end)
edge_behind text source (Err outside) = Err outside

unfoldable pub edge_from : List ℕ → ℕ → ℕ → Stated
edge_from text at source = edge_behind text source (target_at text at)

unfoldable pub closing_at : List ℕ → ℕ → Stated
closing_at text at =
    pick (ltb (matched text at closing) 2) (leaves_at (at + matched text at closing)) (Ok (statement.Closing (at + 2)))

-- A number that ends at a place begins the next state's statement: ` [` stands behind it, not ` -`.
abbrev pub begins_state : List ℕ → ℕ → ℕ → ℕ → Bool
begins_state text at number next = eqb number next && eqb (get_or text (at + 1) 0) 91

-- The statement that begins at a place, where the next state's number is `next`. Another number may begin an edge.
unfoldable pub statement_at : List ℕ → ℕ → ℕ → Stated
statement_at text at next =
    let first = number_at text at in
    pick (eqb first.end at) (closing_at text at)
    (pick (begins_state text first.end first.value next) (state_from text first.end)
    (edge_from text first.end first.value))

-- ---- the whole text

-- What a text is drawn from; or the place at which it leaves the profile.
pub data Read : Type 0 where
  drawing : List ℕ → List meaning.Edge → Read
  outside : ℕ → Read

-- The colours and the edges of what was read; none outside the profile.
abbrev pub colours_of : Read → List ℕ
colours_of (drawing colours edges) = colours
colours_of (outside place) = []

abbrev pub edges_of : Read → List meaning.Edge
edges_of (drawing colours edges) = edges
edges_of (outside place) = []

abbrev pub with_state : ℕ → Read → Read
with_state colour (drawing colours edges) = drawing (colour ∷ colours) edges
with_state colour (outside place) = outside place

abbrev pub with_edge : meaning.Edge → Read → Read
with_edge e (drawing colours edges) = drawing colours (e ∷ edges)
with_edge e (outside place) = outside place

-- No statement has this number: with it as the next state's, only edges can follow.
abbrev pub no_state : ℕ
no_state = 1000

-- What follows a statement; `following` reads the statements from a place on.
abbrev pub behind : List ℕ → ℕ → (ℕ → ℕ → Read) → Stated → Read
behind text next following (Ok (statement.State colour end)) = with_state colour (following end (suc next))
behind text next following (Ok (statement.Edge e end)) = with_edge (edge_of e) (following end no_state)
behind text next following (Ok (statement.Closing end)) = pick (eqb end (length text)) (drawing [] []) (outside end)
behind text next following (Err left) = outside left.place

-- At most `count` statements from a place on.
unfoldable pub statements_from : ℕ → List ℕ → ℕ → ℕ → Read
statements_from zero text at next = outside at
statements_from (suc count) text at next = behind text next (statements_from count text) (statement_at text at next)

-- A text has fewer statements than bytes.
unfoldable pub read_of : List ℕ → Read
read_of text =
    pick (ltb (matched text 0 opening) 10) (outside (matched text 0 opening)) (statements_from (length text) text 10 0)

-- ---- a second look, and what the code has

-- The edge whose statement stands at a place of a text of the profile.
unfoldable pub line_at : List ℕ → ℕ → Line
line_at text at =
    let source = number_at text at in
    let target = number_at text (source.end + 4) in
    let label = number_at text (target.end + 8) in
    record {
      edge = record { source = source.value; label = label.value; target = target.value };
      end = label.end + 3;
    }

-- A statement from its numbers and its label, as the code has it: a state's target is 0.
abbrev pub statement_of : Bool → ℕ → ℕ → Labelled → Stated
statement_of true source target label = state_of label
statement_of false source target label = edge_between source target label
