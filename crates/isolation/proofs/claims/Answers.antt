use Rattle.isolation.proofs.Theorem.{confined, same_reach}
use Rattle.isolation.proofs.Worked.{worked_pair}
use Rattle.isolation.proofs.claims.Goals as goal

-- `isolation::claims` states the theorems of `proofs/Theorem.antt` and the pair of `proofs/Worked.antt`. Assumes nothing.

pub returns : goal.returns
returns c = record { confined = confined; same_reach = same_reach; worked_pair = worked_pair }
