use Rattle.sums.specs.Sums.{pending_bytes}
use Rattle.sums.proofs.Sums.{sum_more}
use Rattle.sums.proofs.add_pending.Goals as goal

pub returns-in-None : goal.returns-in-None
unfolding pending_bytes
returns-in-None c = rw c.in-None.is c.add_byte.ensures

pub returns-in-Some : goal.returns-in-Some
unfolding pending_bytes
returns-in-Some c = rw (c.in-Some.is, sum_more, ← c.add_byte-in-Some.ensures) c.add_cap.ensures
