use Rattle.std.proofs.Common.{arith, ◌≡◌, Some, true, ◌||◌}
use Rattle.std.specs.Result.{result_ok}
use Rattle.manual.specs.declared.Instr.{Instr}
use Rattle.manual.specs.Checks.{settle}
use Rattle.manual.specs.Cap.{register_open}
use Rattle.manual.specs.Plan.{plan_of}
use Rattle.carrying.proofs.Laws.{csc_amounts, stores}
use Rattle.carrying.proofs.store.Goals as goal

pub returns-then-global : goal.returns-then-global
unfolding plan_of
returns-then-global c = let a = c.args in
    let lies : c.reached.result ≡ Some c.in_ok-at.at = grind arith in
    let stored : result_ok c.store.result ≡ Some tt = grind arith in
    let from : register_open a.pcc.perms a.cs.number ≡ true = grind arith in
    let some : (c.permits-local.result || c.permits-global.result) ≡ true = grind arith in
    λ o es ep ec eg. rw (c.store.ensures.ram_after, c.store.ensures.tags_after)
    (rw (rw c.store.ensures.value at stored) at
    (csc_amounts o (settle (plan_of o (Instr.StoreCapability a.x))) a.flash.now a.ram.now a.tags.now a.x a.pcc a.cs a.cb a.rt c.in_ok-at.at (rw (ep, es, ec, eg)) from (stores a.cs.cap a.cb.cap _ _ c.permits-local.ensures c.permits-global.ensures some)
    (rw lies at (c.reached.ensures a.pcc _ c.register_open-opens.ensures))))
