use Rattle.std.proofs.Common.{arith, le-ltb}
use Rattle.cap.proofs.Perms.{none_past}
use Rattle.cap.proofs.permits.Goals as goal

pub returns-else-number-lt32 : goal.returns-else-number-lt32
returns-else-number-lt32 c = rw (le-ltb c.args.number 32 c.if-number-lt32.false) (none_past _ _ (omega arith) c.if-number-lt32.false)
