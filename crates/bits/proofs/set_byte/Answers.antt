use mathlib.Core.Path.{sym}
use lib.Seq.{set_out}
use Rattle.bits.proofs.set_byte.Goals as goal

pub returns-else-i-s : goal.returns-else-i-s
returns-else-i-s c = sym (set_out c.args.s.now c.args.i c.args.b c.if-i-s.false)
