-- `dot::draw` meets its contract. Assumes nothing.
use mathlib.Core.Path.{◌≡◌, ap, sym, ◌∙◌}
use native.Mathlib.Omega.{arith}
use lib.ListN.{length}
use mathlib.Core.Bool.{true}
use Rattle.layout.specs.Contents.{edges_in, filter_in}
use Rattle.checking.specs.Promise.{checked_outcome}
use Rattle.drawing.specs.Profile.{labels_of}
use Rattle.plotting.specs.Plot.{text_of}
use Rattle.dot.specs.Promise.{drawable}
use Rattle.files.specs.Tests.{ReadIs}
use Rattle.files.proofs.Accepted.{reading_is}
use Rattle.plotting.specs.declared.Extent.{Extent}
use Rattle.dot.proofs.Calls.{draw_refused, other_start, other_labels, can_draw, short_room, drawn-laid}
use Rattle.dot.proofs.draw.Goals as goal
use Rattle.dot.proofs.draw.Goals.{In-Ok, After-extent_of-extent, Else-r-extent}

-- ---- a file that was accepted

read : (c : In-Ok) → ReadIs c.args.p c.args.file.now c.in-Ok.r
read c = reading_is _ _ _ (sym c.check_as-checked.ensures ∙ ap checked_outcome c.in-Ok.is)

labels : (c : After-extent_of-extent) → c.extent_of-extent.result.labels ≡ labels_of (edges_in c.args.p c.args.file.now)
labels c = ap (λ (x : Extent). x.labels) c.extent_of-extent.ensures

long : (c : After-extent_of-extent) → c.extent_of-extent.result.length ≡ length (text_of c.args.p c.args.file.now)
long c = ap (λ (x : Extent). x.length) c.extent_of-extent.ensures

drawable_now : (c : Else-r-extent) → ReadIs c.args.p c.args.file.now c.in-Ok.r →
    c.extent_of-extent.result.labels ≡ labels_of (edges_in c.args.p c.args.file.now) → drawable (filter_in c.args.p c.args.file.now) ≡ true
drawable_now c a l = can_draw _ _ _ a c.args.room.now c.if-r-ne0.false (c.if-r-extent.false ∙ l)

-- ---- the needs

pub returns-in_default : goal.returns-in_default
returns-in_default c =
    draw_refused c.args.p c.args.file.now c.args.room.now c.check_as-checked.result c.unwrap_err.result c.check_as-checked.ensures c.unwrap_err.ensures

pub colours_of-colours-requires : goal.colours_of-colours-requires
colours_of-colours-requires c = (read (goal.at.colours_of-colours-requires c).In-Ok).states_are

pub extent_of-extent-requires : goal.extent_of-extent-requires
extent_of-extent-requires c =
    let a = read (goal.at.extent_of-extent-requires c).In-Ok in
    record { coloured = c.colours_of-colours.ensures; states = a.states_are; edges = a.count_is }

pub returns-then-r-ne0 : goal.returns-then-r-ne0
returns-then-r-ne0 c =
    other_start _ _ _ (read (goal.at.returns-then-r-ne0 c).In-Ok) c.args.room.now c.not_made.result c.not_made.ensures c.if-r-ne0.true

pub returns-then-r-extent : goal.returns-then-r-extent
returns-then-r-extent c =
    let at = goal.at.returns-then-r-extent c in
    other_labels _ _ _ (read at.In-Ok) c.args.room.now c.not_made-then-r-extent.result c.not_made-then-r-extent.ensures c.if-r-ne0.false
    (λ q. c.if-r-extent.true (q ∙ sym (labels at.After-extent_of-extent)))

pub returns-then-room-extent : goal.returns-then-room-extent
returns-then-room-extent c =
    let at = goal.at.returns-then-room-extent c in
    short_room _ _ _ (read at.In-Ok) c.args.room.now c.not_made-then-room-extent.result c.not_made-then-room-extent.ensures
    (drawable_now at.Else-r-extent (read at.In-Ok) (labels at.After-extent_of-extent))
    (omega (arith, long at.After-extent_of-extent, c.if-room-extent.true))

pub put-requires : goal.put-requires
put-requires c =
    let at = goal.at.put-requires c in
    let a = read at.In-Ok in (
      record { coloured = c.colours_of-colours.ensures; states = a.states_are; edges = a.count_is },
      omega (arith, long at.After-extent_of-extent, c.if-room-extent.false),
    )

pub returns : goal.returns
returns c =
    let at = goal.at.returns c in
    drawn-laid _ _ _ (read at.In-Ok) c.args.room.now c.extent_of-extent.result.length _ (long at.After-extent_of-extent) c.put.ensures
    (drawable_now at.Else-r-extent (read at.In-Ok) (labels at.After-extent_of-extent))
    (omega (arith, long at.After-extent_of-extent, c.if-room-extent.false))
