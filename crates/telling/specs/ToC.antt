-- What each call for C promises: by the outcome that is due from the call that it wraps, and of the same rooms.
-- Assumes nothing.
use Rattle.std.specs.Prelude.{ℕ, List, [], ◌∷◌, length}
use Rattle.layout.specs.declared.profile.Profile.{Profile}
use Rattle.files.specs.Files.{check_of}
use Rattle.unpacking.specs.Promise.{unpack_of, unpack_lent}
use Rattle.unpacking.specs.Promise as unpacking
use Rattle.packing.specs.Promise.{pack_of, pack_lent}
use Rattle.dot.specs.Promise.{from_dot_of, from_dot_lent, to_dot_of, to_dot_lent}
use Rattle.tracing.specs.Tracing.{trace_of}
use Rattle.tracing.specs.Promise.{trace_lent}
use Rattle.reduction.specs.Reducing.{reduce_of}
use Rattle.reduction.specs.Promise.{reduce_lent}
use Rattle.folding.specs.Folding as folding
use Rattle.converting.specs.Promise.{convert_of, convert_lent}
use Rattle.telling.specs.Codes.{Told}

-- Values: n, m, start and e.
abbrev pub CheckToC : Profile → List ℕ → List ℕ → ℕ → List ℕ → Type 0
CheckToC P file values r values' = Told (check_of P file) [] values r [] values'

-- Values: n, m, start and e.
abbrev pub UnpackToC : Profile → List ℕ → unpacking.Rooms → List ℕ → ℕ → unpacking.Rooms → List ℕ → Type 0
UnpackToC P file found values r left values' =
    Told (unpack_of P file found) (unpack_lent P file found) values r (unpacking.both left) values'

-- Value: the length.
abbrev pub PackToC : Profile → List ℕ → List ℕ → ℕ → ℕ → List ℕ → List ℕ → ℕ → List ℕ → List ℕ → Type 0
PackToC P colours edges m start room values r room' values' =
    Told (pack_of P colours edges m start (length room)) (pack_lent P colours edges m start room) values r (room' ∷ []) values'

-- Values: 0 and 0 where all is traced, 1 and i where the ride stops at observation i.
abbrev pub TraceToC : Profile → List ℕ → List ℕ → List ℕ → List ℕ → ℕ → List ℕ → List ℕ → Type 0
TraceToC P file observations colours values r colours' values' =
    Told (trace_of P file observations (length colours)) (trace_lent P file observations colours) values r (colours' ∷ [])
    values'

-- Values: states, distinct colours, rounds and the length in bytes.
abbrev pub ReduceToC : Profile → List ℕ → folding.Rooms → List ℕ → ℕ → folding.Rooms → List ℕ → Type 0
ReduceToC P file found values r left values' =
    Told (reduce_of P file found) (reduce_lent P file found) values r (folding.both left) values'

-- Value: the file's length.
abbrev pub FromDotToC : Profile → List ℕ → List ℕ → List ℕ → ℕ → List ℕ → List ℕ → Type 0
FromDotToC P text room values r room' values' =
    Told (from_dot_of P text (length room)) (from_dot_lent P text room) values r (room' ∷ []) values'

-- Value: the text's length.
abbrev pub ToDotToC : Profile → List ℕ → List ℕ → List ℕ → ℕ → List ℕ → List ℕ → Type 0
ToDotToC P file room values r room' values' =
    Told (to_dot_of P file (length room)) (to_dot_lent P file room) values r (room' ∷ []) values'

-- Value: the length of the file that is written.
abbrev pub ConvertToC : Profile → Profile → List ℕ → List ℕ → List ℕ → ℕ → List ℕ → List ℕ → Type 0
ConvertToC From To file room values r room' values' =
    Told (convert_of From To file (length room)) (convert_lent From To file room) values r (room' ∷ []) values'
