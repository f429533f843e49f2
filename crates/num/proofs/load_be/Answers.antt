use Rattle.std.proofs.Common.{refl, arith}
use Rattle.manual.specs.Number.{be}
use Rattle.manual.proofs.Numbers.{be_step}
use Rattle.num.proofs.load_be.Goals as goal

-- the invariant: `v` is the number that the bytes so far say, mod 2^64
pub loop-b-init : goal.loop-b-init
unfolding be
loop-b-init c = refl

pub loop-b-preserved : goal.loop-b-preserved
loop-b-preserved c = let l = c.loop-b in
    rw c.from.ensures (be_step c.args.part.now l.b-index l.v c.loop-b-test.true (omega (arith, c.type_inv.part l.b-index)) l.invariant)
