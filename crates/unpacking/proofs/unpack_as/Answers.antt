-- `unpacking::unpack_as` meets its contract: the check's answer decides, then the rooms, and then both are filled. Assumes nothing.
use mathlib.Core.Logic.{inl, inr}
use mathlib.Core.Path.{◌≡◌, ◌∙◌}
use mathlib.Core.List.{List}
use Prim.Native.Nat.{ℕ, ◌≤◌}
use native.Mathlib.Nat.{mul_comm}
use native.Mathlib.Omega.{arith}
use Rattle.refusals.specs.Refusals.{laid}
use Rattle.layout.specs.declared.Reading.{Reading}
use Rattle.layout.specs.Layout.{flat}
use Rattle.layout.specs.Contents.{colours_in, edges_in}
use Rattle.layout.proofs.Bounds.{states_high, count_high, colours_high}
use Rattle.layout.specs.declared.profile.Profile.{Profile}
use Rattle.checking.specs.Promise.{Checked, CheckPromise}
use Rattle.std.specs.Prelude.{Ok}
use Rattle.checking.proofs.Calls.{refused_is, read_is}
use Rattle.unpacking.specs.Promise.{rooms}
use Rattle.unpacking.proofs.Calls.{unpack_refused, short, unpack_filled, colours_laid, edges_laid}
use Rattle.unpacking.proofs.unpack_as.Goals as goal

-- ---- what is known of an accepted file

record Few (r : Reading) : Type 0 where
  states≤ : r.states ≤ 256
  count≤ : r.edges ≤ 65536

few : (P : Profile) (file : List ℕ) (a : Checked) → CheckPromise P file a → (r : Reading) → a ≡ Ok r → Few r
few P file a promise r accepted =
    let is = read_is P file a promise r accepted in
    record {
      states≤ = omega (arith, is.states_are, states_high P P.usable file);
      count≤ = omega (arith, is.count_is, count_high P P.usable file);
    }

-- ---- the needs

pub returns-in_default : goal.returns-in_default
returns-in_default c =
    let a = c.args in
    rw c.in_default.is (unpack_refused a.p a.file.now (rooms a.colours.now a.edges.now) _ (refused_is _ _ _ c.requires _ c.in_default.is))

pub returns-then-colours-n : goal.returns-then-colours-n
returns-then-colours-n c =
    let a = c.args in
    rw c.into.ensures (short a.p a.file.now c.in-Ok.r (read_is _ _ _ c.requires _ c.in-Ok.is) (rooms a.colours.now a.edges.now) (inl c.if-colours-n.true))

pub overflow_mul-e : goal.overflow_mul-e
overflow_mul-e c = omega (arith, (few _ _ _ c.requires _ c.in-Ok.is).count≤)

pub returns-then-edges-e : goal.returns-then-edges-e
returns-then-edges-e c =
    let a = c.args in
    rw c.into-then-edges-e.ensures (short a.p a.file.now c.in-Ok.r (read_is _ _ _ c.requires _ c.in-Ok.is) (rooms a.colours.now a.edges.now) (inr c.if-edges-e.true))

pub get_run-requires : goal.get_run-requires
get_run-requires c =
    let p = c.args.p in
    let r = c.in-Ok.r in
    record {
      narrow = p.usable.colour≤;
      room = c.if-colours-n.false;
      near = omega (
        arith,
        c.header_bits.ensures.1,
        mul_comm r.states p.colour,
        colours_high p p.usable r.states (few _ _ _ c.requires _ c.in-Ok.is).states≤,
      );
    }

pub edges_begin-requires : goal.edges_begin-requires
edges_begin-requires c = (few _ _ _ c.requires _ c.in-Ok.is).states≤

pub get_edges-requires : goal.get_edges-requires
get_edges-requires c =
    record {
      begin = c.edges_begin.ensures.1;
      few = (few _ _ _ c.requires _ c.in-Ok.is).count≤;
      holds = c.if-edges-e.false;
    }

pub returns : goal.returns
returns c =
    let a = c.args in
    let r = c.in-Ok.r in
    let is = read_is _ _ _ c.requires _ c.in-Ok.is in
    let colours = a.colours.now in
    let edges = a.edges.now in
    let cs : c.get_run.new.out ≡ laid (colours_in a.p a.file.now) colours =
    c.get_run.ensures ∙ colours_laid a.p a.file.now colours c.header_bits.result r.states c.header_bits.ensures.0 is.states_are in
    let es : c.get_edges.new.out ≡ laid (flat (edges_in a.p a.file.now)) edges =
    c.get_edges.ensures
    ∙ edges_laid a.p a.file.now edges c.edges_begin.result r.states r.edges c.edges_begin.ensures.0 is.states_are is.count_is in
    rw (cs, es)
    (unpack_filled a.p a.file.now r is (rooms colours edges) c.if-colours-n.false c.if-edges-e.false)
