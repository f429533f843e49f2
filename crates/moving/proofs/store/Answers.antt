use Rattle.std.proofs.Common.{arith, ◌≡◌, Some}
use Rattle.std.specs.Result.{result_ok}
use Rattle.manual.specs.Checks.{settle}
use Rattle.manual.specs.declared.Instr.{Instr}
use Rattle.manual.specs.Plan.{plan_of}
use Rattle.moving.proofs.Laws.{store_amounts}
use Rattle.moving.proofs.store.Goals as goal

pub returns : goal.returns
unfolding plan_of
returns c = let a = c.args in
    let stored : result_ok c.stored.result ≡ Some tt = grind arith in
    λ o ev ep ec eg. rw (c.stored.ensures.ram_after, c.stored.ensures.tags_after)
    (rw (rw c.stored.ensures.value at stored) at
    (store_amounts o (settle (plan_of o (Instr.Store a.size a.x))) a.flash.now a.ram.now a.tags.now a.size a.x a.value a.pcc a.cb a.rt c.reached-at.result (rw (ep, ev, ec, eg)) (c.reached-at.ensures a.pcc _ c.register_open-opens.ensures)))
