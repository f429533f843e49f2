use Rattle.std.proofs.Common.{refl, arith}
use Rattle.data.proofs.Reaches.{near_lands}
use Rattle.data.proofs.near.Goals as goal

pub returns-then-o-size_bytes : goal.returns-then-o-size_bytes
returns-then-o-size_bytes c = rw c.then_some.ensures
    (near_lands _ _ _ _ _ _ _ (omega arith) (omega arith) (omega arith) (omega (arith, c.ranges.immediate)) refl (omega arith) (omega (arith, c.if-o-size_bytes.true, c.size_bytes.ensures)) refl c.is_aligned.ensures)
