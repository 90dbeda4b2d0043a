-- The number that a case has for each call. Assumes nothing.
use Rattle.std.specs.Prelude.{ℕ, ◌≡◌, Result, MatchResult}
use Rattle.cases.specs.declared.Call.{Call}
use Rattle.cases.specs.declared.Call.TheVariants.{Check, Unpack, Pack, Trace, Reduce, FromDot, ToDot, ToLarge, ToPocket}
use Rattle.cases.specs.declared.Call.TheVariants.{PocketCheck, PocketUnpack, PocketPack, PocketTrace, PocketReduce}
use Rattle.cases.specs.declared.NoCall.{NoCall}

abbrev pub call_number : Call → ℕ
call_number Check = 1
call_number Unpack = 2
call_number Pack = 3
call_number Trace = 4
call_number Reduce = 5
call_number FromDot = 6
call_number ToDot = 7
call_number PocketCheck = 8
call_number PocketUnpack = 9
call_number PocketPack = 10
call_number PocketTrace = 11
call_number PocketReduce = 12
call_number ToLarge = 13
call_number ToPocket = 14

-- No call has the number.
abbrev pub Unused : ℕ → Type 0
Unused number = (call : Call) → call_number call ≡ number → ⊥

-- The call that has the number; or the number, where none has it.
abbrev pub Numbered : ℕ → Result Call NoCall → Type 0
Numbered number r = MatchResult r (λ call. call_number call ≡ number) (λ other. (other.0 ≡ number) × Unused number)
