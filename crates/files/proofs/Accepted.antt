-- An accepted file: what a reading of it says, that its filter is in order, and that it is no longer than the longest. Assumes nothing.
use Rattle.std.specs.Prelude.{ℕ, ◌≡◌, ◌≤◌, true, List, [], ◌∷◌, length}
use Rattle.meaning.specs.Filter.{in_order}
use Rattle.refusals.specs.Refusals.{accepted}
use Rattle.layout.specs.declared.profile.Profile.{Profile}
use Rattle.layout.specs.declared.Reading.{Reading}
use Rattle.layout.specs.Code.{Usable}
use Rattle.layout.specs.Contents.{filter_in}
use Rattle.files.specs.Files.{numbers_in, reading_outcome, check_of}
use Rattle.files.specs.Tests.{check_sound, ReadIs, writable_in_order}
use Rattle.files.specs.Written.{read_writable, length_read, longest, largest-length}

pub reading_is : (P : Profile) (s : List ℕ) (r : Reading) → check_of P s ≡ reading_outcome r → ReadIs P s r
reading_is P s r h =
    let q = check_sound P s _ h in
    let n : numbers_in P s ≡ r.states ∷ r.labels ∷ r.start ∷ r.edges ∷ [] = q.1 in
    record {
      sound = q.0;
      answer = h;
      states_are = cc;
      labels_are = cc;
      start_is = cc;
      count_is = cc;
    }

-- an accepted file holds a filter that is in order
pub checked_in_order : (P : Profile) → Usable P → (s vs : List ℕ) → check_of P s ≡ accepted vs → in_order (filter_in P s) ≡ true
checked_in_order P ok s vs h = writable_in_order P (filter_in P s) (read_writable P ok s (check_sound P s vs h).0)

pub largest_file : (P : Profile) → Usable P → (s vs : List ℕ) → check_of P s ≡ accepted vs → length s ≤ longest P
largest_file P ok s vs h =
    let q = (check_sound P s vs h).0 in
    rw (← length_read P s q) (largest-length P (filter_in P s) (read_writable P ok s q))
