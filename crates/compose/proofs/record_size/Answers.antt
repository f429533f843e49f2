use Rattle.std.proofs.Common.{arith}
use lib.Seq.{take_all}
use Rattle.pages.specs.Compose.{fields}
use Rattle.compose.proofs.Records.{fields_longer}
use Rattle.compose.proofs.record_size.Goals as goal

pub loop-width-init : goal.loop-width-init
unfolding fields
loop-width-init c = omega (arith, c.saturating_add-size.ensures)

pub loop-width-preserved : goal.loop-width-preserved
loop-width-preserved c =
    let l = c.loop-width in
    omega (arith, l.invariant, fields_longer c.args.values.now l.width-index (0, 0) c.loop-width-test.true, c.saturating_add-size-in-loop-width.ensures)

pub returns : goal.returns
returns c =
    let l = c.loop-width in
    let all = take_all l.width-index c.args.values.now c.loop-width-test.false in
    rw (← all) l.invariant
