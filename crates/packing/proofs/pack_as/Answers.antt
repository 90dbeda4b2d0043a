-- `packing::pack_as` meets its contract: the lists' answer decides, and an accepted filter is written. Assumes nothing.
use mathlib.Core.Path.{◌≡◌, ap, sym, ◌∙◌}
use mathlib.Core.List.{◌∷◌, []}
use lib.ListN.{length}
use Rattle.refusals.specs.Refusals.{accepted}
use Rattle.packing.specs.Promise.{pack_of}
use Rattle.packing.proofs.Calls.{pack_passed}
use Rattle.packing.proofs.pack_as.Goals as goal

pub write-requires : goal.write-requires
write-requires c =
    let a = c.args in
    let h : pack_of a.p a.colours.now a.edges.now a.m a.start (length a.room.now) ≡ accepted (c.in_ok-written.written ∷ []) = sym c.in_ok-written.ensures in
    let passed = pack_passed a.p a.p.usable a.colours.now a.edges.now a.m a.start (length a.room.now) (c.in_ok-written.written ∷ []) h in
    h ∙ ap accepted (sym passed.are)
