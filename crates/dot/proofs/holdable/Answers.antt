-- `dot::holdable` meets its contract. Assumes nothing.
use mathlib.Core.Path.{◌≡◌, ap}
use mathlib.Core.List.{List}
use native.Mathlib.Omega.{arith}
use Prim.Native.Nat.{ℕ, ◌*◌, ◌%◌, ◌^◌, ◌≤◌}
use borrow.Author.Tests.{le-leb, lt-leb}
use Rattle.bits.proofs.Reading.{one_shl}
use Rattle.layout.specs.declared.profile.Profile.{Profile}
use Rattle.layout.specs.Code.{Usable}
use Rattle.surveying.specs.declared.Survey.{Survey}
use Rattle.surveying.specs.Surveys.{Known}
use Rattle.dot.proofs.Texts.{holdable_is, labels_some}
use Rattle.dot.proofs.holdable.Goals as goal

-- a shifted 1 is the power of two
module _ (p : Profile) (ok : Usable p) where
  states_pow : 1 * 2 ^ p.states % 2 ^ 64 ≡ 2 ^ p.states
  states_pow = one_shl p.states (omega (arith, ok.states≤))

  labels_pow : 1 * 2 ^ p.labels % 2 ^ 64 ≡ 2 ^ p.labels
  labels_pow = one_shl p.labels (omega (arith, ok.labels≤))

  colour_pow : 1 * 2 ^ p.colour % 2 ^ 64 ≡ 2 ^ p.colour
  colour_pow = one_shl p.colour (omega (arith, ok.colour≤))

-- there is a label at least
some : (text : List ℕ) (s : Survey) → Known text s → 1 ≤ s.labels
some text s k = omega (arith, ap (λ (x : Survey). x.labels) k.survey, labels_some k.edges)

pub returns-then-s-lt1 : goal.returns-then-s-lt1
returns-then-s-lt1 c =
    rw (holdable_is c.args.p c.args.text.now c.args.s c.requires, lt-leb _ _ c.if-s-lt1.true)

pub returns-then-p-s : goal.returns-then-p-s
returns-then-p-s c =
    rw (
      holdable_is c.args.p c.args.text.now c.args.s c.requires,
      le-leb _ _ c.if-s-lt1.false,
      lt-leb _ _ (rw (states_pow c.args.p c.args.p.usable) at c.if-p-s.true),
    )

pub returns-then-p-s-2 : goal.returns-then-p-s-2
returns-then-p-s-2 c =
    rw (
      holdable_is c.args.p c.args.text.now c.args.s c.requires,
      le-leb _ _ c.if-s-lt1.false,
      le-leb _ _ (rw (states_pow c.args.p c.args.p.usable) at c.if-p-s.false),
      le-leb 1 _ (some c.args.text.now c.args.s c.requires),
      lt-leb _ _ (rw (labels_pow c.args.p c.args.p.usable) at c.if-p-s-2.true),
    )

pub returns : goal.returns
returns c =
    rw (
      holdable_is c.args.p c.args.text.now c.args.s c.requires,
      le-leb _ _ c.if-s-lt1.false,
      le-leb _ _ (rw (states_pow c.args.p c.args.p.usable) at c.if-p-s.false),
      le-leb 1 _ (some c.args.text.now c.args.s c.requires),
      le-leb _ _ (rw (labels_pow c.args.p c.args.p.usable) at c.if-p-s-2.false),
      colour_pow c.args.p c.args.p.usable,
    )
