-- `dot::file` meets its contract: the tests' answer decides, and an accepted filter is written. Assumes nothing.
use Rattle.std.proofs.Common.{length, ap, sym, ◌∙◌}
use Rattle.dot.specs.Promise.{made_outcome}
use Rattle.dot.proofs.Calls.{passed}
use Rattle.dot.proofs.file.Goals as goal

pub write-requires : goal.write-requires
write-requires c =
    let a = c.args in
    let h = sym c.test.ensures ∙ ap made_outcome c.in_ok-length.was in
    let ok = passed a.p a.text.now a.s c.requires.known (length a.room.now) _ h in
    record { known = c.requires.known; writable = ok.writable; roomy = ok.roomy }
