-- What pack, from_dot and to_large write is accepted, 17 included, and so has no edge out of colour 63: of any answers and rooms that meet
-- the calls' promises. Of what reduce writes `demands` says it (`written_checks`).
-- Assumes nothing.
use Rattle.std.specs.Prelude.{ℕ, ◌≡◌, refl, List, [], ◌∷◌, length, take}
use Rattle.std.proofs.Common.{sym, ap, ◌∙◌}
use Rattle.meaning.specs.Cases.{impossible}
use Rattle.refusals.specs.Refusals.{accepted, refusal_outcome}
use Rattle.refusals.proofs.Laws.{laid_front, promise_laid}
use Rattle.layout.specs.declared.profile.Profile.{Profile}
use Rattle.layout.specs.declared.Reading.{Reading}
use Rattle.layout.specs.Layout.{large, pocket, written, from_lists}
use Rattle.layout.specs.Code.{Usable}
use Rattle.layout.proofs.Bounds.{large_usable, pocket_usable}
use Rattle.files.specs.Files.{check_of}
use Rattle.files.specs.Written.{length-written}
use Rattle.checking.specs.Promise.{Checked}
use Rattle.std.specs.Prelude.{Ok, Err}
use Rattle.checking.specs.Promise.{CheckPromise}
use Rattle.packing.specs.Promise.{pack_of, PackPromise}
use Rattle.packing.proofs.Calls.{pack_passed}
use Rattle.drawing.specs.Reader.{read_of}
use Rattle.dot.specs.Promise.{file_of, FromDotPromise}
use Rattle.redrawn.specs.Redrawn.{redrawn_text}
use Rattle.converting.specs.Promise.{ConvertPromise}
use Rattle.converting.proofs.Calls.{to_large}
use Rattle.demands.specs.RoundTrip.{check_packed}
use Rattle.interchange.specs.Interchange.{converts, converted_accepted, is_other}
use Rattle.shutdown.specs.Shutdown.{NoneLeaves63, none_accepted}

-- The file is accepted.
abbrev pub Accepted : Profile → List ℕ → Type 0
Accepted P file = (numbers : List ℕ) × (check_of P file ≡ accepted numbers)

-- so check answers with its numbers
pub accepted_checks : (P : Profile) (file : List ℕ) → Accepted P file → (k : Checked) → CheckPromise P file k → (r : Reading) × (k ≡ Ok r)
accepted_checks P file is (Ok r) h = (r, refl)
accepted_checks P file is (Err why) h = let z : refusal_outcome why ≡ accepted is.0 = h ∙ is.1 in impossible cc

-- and a large file has no edge out of colour 63
pub accepted_63 : (file : List ℕ) → Accepted large file → NoneLeaves63 file
accepted_63 file is = none_accepted file is.0 is.1

pub pack_accepted : (P : Profile) → Usable P → (colours edges : List ℕ) (m start : ℕ) (room room' : List ℕ) (n : ℕ) →
    PackPromise P colours edges m start room (Ok n) room' → Accepted P (take n room')
pack_accepted P ok colours edges m start room room' n p =
    let F = from_lists colours edges m start in
    let h : pack_of P colours edges m start (length room) ≡ accepted (n ∷ []) = sym p.answer in
    let passed = pack_passed P ok colours edges m start (length room) (n ∷ []) h in
    let long : length (written P F) ≡ n = length-written P ok F passed.writable ∙ cc passed.are in
    let file : take n room' ≡ written P F = ap (take n) (cc (promise_laid p h)) ∙ laid_front (written P F) room n long in
    (_, ap (check_of P) file ∙ check_packed P ok colours edges m start (length room) (n ∷ []) h)

pub from_dot_accepted : (P : Profile) → Usable P → (text room room' : List ℕ) (n : ℕ) → FromDotPromise P text room (Ok n) room' → Accepted P (take n room')
from_dot_accepted P ok text room room' n p =
    let file = file_of P (read_of text) in
    let q = redrawn_text P ok text (length room) (n ∷ []) (sym p.answer) in
    let long : length file ≡ n = cc q.0 in
    let bytes : take n room' ≡ file = ap (take n) (cc (promise_laid p (sym p.answer))) ∙ laid_front file room n long in
    (_, ap (check_of P) bytes ∙ q.2)

pub to_large_accepted : (file room room' : List ℕ) (n : ℕ) → ConvertPromise pocket large file room (Ok n) room' → Accepted large (take n room')
to_large_accepted file room room' n p =
    let got = converts pocket large file (length room) n (sym p.answer) in
    let bytes = is_other pocket large pocket_usable large_usable to_large.above file n room room' p in (
      _,
      ap (check_of large) bytes
          ∙ converted_accepted pocket large pocket_usable large_usable to_large.above file got.checks.0 got.checks.1 got.fits
          ∙ got.checks.1,
    )
