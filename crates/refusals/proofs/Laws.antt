-- Laws of refusals: a number tells its kind, tests in a row are taken apart, and a promise is kept in one way.
-- Assumes nothing.
use Prim.Native.Nat.{ℕ, ◌<◌}
use mathlib.Core.Path.{◌≡◌, refl, sym, ap, ◌∙◌}
use mathlib.Core.Bool.{Bool, true, false, ◌&&◌}
use mathlib.Core.List.{List, [], ◌∷◌}
use native.Mathlib.Omega.{arith}
use lib.Dec.{eqb, ltb}
use lib.ListN.{length, take, drop}
use lib.Seq.{take_at}
use borrow.Author.Tests.{ltb-true}
use Rattle.meaning.specs.Pick.{pick}
use Rattle.meaning.specs.Cases.{impossible, cases_of, and_left, and_right}
use Rattle.refusals.specs.declared.Kind.{Kind}
use Rattle.refusals.specs.declared.Kind.TheVariants.{TooShort, Start, EdgeCount, Missing, Excess, Filling, Outside, Order, Repeated, AnswerRoom, ClassRoom, Room, Observation, Lists, Drawing, Pocket, Leaving}
use Rattle.refusals.specs.declared.Refusal.{Refusal}
use Rattle.refusals.specs.Refusals.{number_of, Outcome, accepted, refused, refusal_outcome, Test, first_of, onward, laid, Lent, rooms_after, Promise}

-- ---- the number tells the kind

kinds : List Kind
kinds = TooShort ∷ Start ∷ EdgeCount ∷ Missing ∷ Excess ∷ Filling ∷ Outside ∷ Order ∷ Repeated ∷ AnswerRoom ∷ ClassRoom ∷ Room ∷ Observation ∷ Lists ∷ Drawing ∷ Pocket ∷ Leaving ∷ []

-- the kind in a list that has this number
kind_of : List Kind → ℕ → Kind
kind_of [] n = TooShort
kind_of (k ∷ ks) n = pick (eqb (number_of k) n) k (kind_of ks n)

kind_back : (k : Kind) → kind_of kinds (number_of k) ≡ k
unfolding kinds kind_of
kind_back TooShort = refl
kind_back Start = refl
kind_back EdgeCount = refl
kind_back Missing = refl
kind_back Excess = refl
kind_back Filling = refl
kind_back Outside = refl
kind_back Order = refl
kind_back Repeated = refl
kind_back AnswerRoom = refl
kind_back ClassRoom = refl
kind_back Room = refl
kind_back Observation = refl
kind_back Lists = refl
kind_back Drawing = refl
kind_back Pocket = refl
kind_back Leaving = refl

pub number_one : (a b : Kind) → number_of a ≡ number_of b → a ≡ b
number_one a b e = sym (kind_back a) ∙ ap (kind_of kinds) e ∙ kind_back b

refusal_parts : (a b : Refusal) → a.kind ≡ b.kind → a.place ≡ b.place → a ≡ b
refusal_parts a b k p = ap (λ (x : Kind). record { kind = x; place = a.place }) k ∙ ap (λ (y : ℕ). record { kind = b.kind; place = y }) p

pub refusal_one : (a b : Refusal) → refusal_outcome a ≡ refusal_outcome b → a ≡ b
refusal_one a b e =
    let n : number_of a.kind ≡ number_of b.kind = cc in
    let p : a.place ≡ b.place = cc in
    refusal_parts a b (number_one a.kind b.kind n) p

-- ---- tests in a row

-- None of the tests is given.
abbrev pub Passed : List Test → Type 0
Passed [] = Unit {0}
Passed (t ∷ ts) = (t.given ≡ false) × Passed ts

refuse_accepted : (b : Bool) (k p : ℕ) (next : Outcome) (vs : List ℕ) → pick b (refused k p) next ≡ accepted vs → (b ≡ false) × (next ≡ accepted vs)
refuse_accepted true k p next vs h = impossible cc
refuse_accepted false k p next vs h = (refl, h)

pub first_accepted : (ts : List Test) (next : Outcome) (vs : List ℕ) → first_of ts next ≡ accepted vs → Passed ts × (next ≡ accepted vs)
first_accepted [] next vs h = (tt, h)
first_accepted (t ∷ ts) next vs h =
    let a = refuse_accepted t.given t.number 0 (first_of ts next) vs h in
    let b = first_accepted ts next vs a.1 in
    ((a.0, b.0), b.1)

pub first_passed : (ts : List Test) (next : Outcome) → Passed ts → first_of ts next ≡ next
first_passed [] next p = refl
first_passed (t ∷ ts) next p = rw p.0 (first_passed ts next p.1)

-- every test has a number below a limit
abbrev pub numbers_below : ℕ → List Test → Bool
numbers_below limit [] = true
numbers_below limit (t ∷ ts) = ltb t.number limit && numbers_below limit ts

refuse_behind : (b : Bool) (j k p : ℕ) (next : Outcome) → j < k → pick b (refused j 0) next ≡ refused k p → (b ≡ false) × (next ≡ refused k p)
refuse_behind true j k p next l h = let z : j ≡ k = cc in absurd (omega arith)
refuse_behind false j k p next l h = (refl, h)

-- a refusal whose number is above theirs comes from behind them
pub first-behind : (ts : List Test) (next : Outcome) (k p : ℕ) → numbers_below k ts ≡ true → first_of ts next ≡ refused k p → Passed ts × (next ≡ refused k p)
first-behind [] next k p e h = (tt, h)
first-behind (t ∷ ts) next k p e h =
    let a = refuse_behind t.given t.number k p (first_of ts next) (ltb-true t.number k (and_left (ltb t.number k) (numbers_below k ts) e)) h in
    let b = first-behind ts next k p (and_right (ltb t.number k) (numbers_below k ts) e) a.1 in
    ((a.0, b.0), b.1)

-- the first of the tests that is given is also the first of them before anything else that follows
pub first-onward : (ts : List Test) (vs : List ℕ) (next : Outcome) → first_of ts next ≡ onward (first_of ts (accepted vs)) next
first-onward [] vs next = refl
first-onward (t ∷ ts) vs next = cases_of t.given (λ q. rw q) (λ q. rw q (first-onward ts vs next))

-- what goes on behind a file and accepts was given an accepted file
pub onward_accepted : (o next : Outcome) (vs : List ℕ) → onward o next ≡ accepted vs → (us : List ℕ) × (o ≡ accepted us) × (next ≡ accepted vs)
onward_accepted (accepted us) next vs h = (us, refl, h)
onward_accepted (refused k p) next vs h = impossible cc

-- ---- rooms

-- the beginning of a room that was written
pub laid_front : (bytes room : List ℕ) (n : ℕ) → length bytes ≡ n → take n (laid bytes room) ≡ bytes
laid_front bytes room n h = take_at bytes (drop (length bytes) room) n h

-- ---- promises

-- the rooms as they were lent, and with their beginnings written
abbrev pub as_found : List Lent → List (List ℕ)
as_found [] = []
as_found (l ∷ ls) = l.found ∷ as_found ls

abbrev pub all_laid : List Lent → List (List ℕ)
all_laid [] = []
all_laid (l ∷ ls) = laid l.bytes l.found ∷ all_laid ls

rooms_found : (k p : ℕ) (ls : List Lent) → as_found ls ≡ rooms_after (refused k p) ls
rooms_found k p [] = refl
rooms_found k p (l ∷ ls) = ap (λ (rooms : List (List ℕ)). l.found ∷ rooms) (rooms_found k p ls)

rooms-laid : (vs : List ℕ) (ls : List Lent) → all_laid ls ≡ rooms_after (accepted vs) ls
rooms-laid vs [] = refl
rooms-laid vs (l ∷ ls) = ap (λ (rooms : List (List ℕ)). laid l.bytes l.found ∷ rooms) (rooms-laid vs ls)

-- a call that refuses as it is to leaves every room as found
pub promise_refused : (due : Outcome) (r : Refusal) (ls : List Lent) → due ≡ refusal_outcome r → Promise (refusal_outcome r) due ls (as_found ls)
promise_refused due r ls h = record { answer = sym h; rooms_after_lem = rooms_found (number_of r.kind) r.place ls ∙ ap (λ (o : Outcome). rooms_after o ls) (sym h) }

-- one that accepts as it is to writes the beginning of each
pub promise_accepted : (due : Outcome) (vs : List ℕ) (ls : List Lent) → due ≡ accepted vs → Promise (accepted vs) due ls (all_laid ls)
promise_accepted due vs ls h = record { answer = sym h; rooms_after_lem = rooms-laid vs ls ∙ ap (λ (o : Outcome). rooms_after o ls) (sym h) }

-- where a kept promise accepts, the beginning of each room is written
pub promise_laid : {a due : Outcome} {vs : List ℕ} {ls : List Lent} {left : List (List ℕ)} → Promise a due ls left → due ≡ accepted vs → left ≡ all_laid ls
promise_laid {vs = vs} {ls = ls} p h = p.rooms_after_lem ∙ ap (λ (o : Outcome). rooms_after o ls) h ∙ sym (rooms-laid vs ls)

-- two answers, with what they leave in the rooms, that both keep a promise are the same
pub promise_one : {a b due : Outcome} {ls : List Lent} {left left' : List (List ℕ)} → Promise a due ls left → Promise b due ls left' → (a ≡ b) × (left ≡ left')
promise_one p q = (p.answer ∙ sym q.answer, p.rooms_after_lem ∙ sym q.rooms_after_lem)
