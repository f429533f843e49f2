use Rattle.data.proofs.Reaches.{reaches}
use Rattle.data.proofs.reached.Goals as goal

pub returns-then-granted : goal.returns-then-granted
returns-then-granted c = reaches _ _ _ _ _ _ _ c.if-opens.true c.if-c.true c.if-not-c.true (rw c.permits-granted.ensures at c.if-granted.true) c.near.ensures
