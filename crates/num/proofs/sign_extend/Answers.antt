use Rattle.std.proofs.Common.{lt_of_lt_of_le, lit≤}
use Rattle.manual.specs.Number.{sign_extend}
use Rattle.manual.proofs.Numbers.{roomy}
use Rattle.num.proofs.sign_extend.Goals as goal

pub returns-in-Line : goal.returns-in-Line
unfolding sign_extend
returns-in-Line c = rw c.in-Line.is (roomy _ _ (lt_of_lt_of_le c.ranges.v.fits (lit≤ tt)))
