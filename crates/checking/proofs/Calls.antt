-- What a call that begins with a check knows of the file: its refusal, or its numbers; and that edges without a fault have passed.
-- Assumes nothing.
use mathlib.Core.Path.{◌≡◌, sym, ap, ◌∙◌}
use mathlib.Core.List.{List}
use mathlib.Core.Option.{none}
use Prim.Native.Nat.{ℕ, ◌≤◌}
use native.Mathlib.Omega.{arith}
use Rattle.refusals.specs.declared.Refusal.{Refusal}
use Rattle.refusals.specs.Refusals.{refusal_outcome}
use Rattle.layout.specs.declared.profile.Profile.{Profile}
use Rattle.layout.specs.declared.Reading.{Reading}
use Rattle.layout.specs.Layout.{edges_begin}
use Rattle.layout.specs.Contents.{placed_from}
use Rattle.layout.proofs.Bounds.{states_high, count_high}
use Rattle.edges.specs.Faults.{first_fault}
use Rattle.leaving.specs.Leaving.{Passed}
use Rattle.files.specs.Files.{head_of, check_of}
use Rattle.files.specs.Tests.{HeadIs, ReadIs, head_is}
use Rattle.files.proofs.Accepted.{reading_is}
use Rattle.checking.specs.Promise.{Checked, checked_outcome, CheckPromise}
use Rattle.std.specs.Prelude.{Ok, Err}

module _ (P : Profile) (s : List ℕ) (a : Checked) (p : CheckPromise P s a) where
  pub refused_is : (why : Refusal) → a ≡ Err why → check_of P s ≡ refusal_outcome why
  refused_is why e = sym p ∙ ap checked_outcome e

  pub read_is : (r : Reading) → a ≡ Ok r → ReadIs P s r
  read_is r e = reading_is P s r (sym p ∙ ap checked_outcome e)

-- what the header of a file that is read says of its sizes
module _ (P : Profile) (file : List ℕ) (a : Checked) (known : checked_outcome a ≡ head_of P file) (r : Reading) (is : a ≡ Ok r) where
  pub is_headed : HeadIs P file r
  is_headed = head_is P file _ (sym known ∙ ap checked_outcome is)

  pub few_states : r.states ≤ 256
  few_states = omega (arith, is_headed.states_are, states_high P P.usable file)

  pub few_edges : r.edges ≤ 65536
  few_edges = omega (arith, is_headed.count_is, count_high P P.usable file)

pub all_passed : (P : Profile) (s : List ℕ) (r : Reading) → HeadIs P s r →
    first_fault r.states r.labels none (placed_from P s (edges_begin P r.states) r.edges) ≡ none → Passed P s r.states r.edges
all_passed P s r is clear = record {
  states = is.states_are;
  few = rw is.count_is (count_high P P.usable s);
  labels = r.labels;
  clear = clear;
}
