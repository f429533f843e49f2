use Rattle.std.proofs.Common.{arith, ◌≡◌, ◌∙◌, sym, Some, true}
use Rattle.manual.specs.Cap.{register_open}
use Rattle.manual.specs.Plan.{plan_of}
use Rattle.carrying.proofs.Laws.{clc_amounts}
use Rattle.carrying.proofs.load.Goals as goal

pub returns : goal.returns
unfolding plan_of
returns c = let a = c.args in
    let lies : c.reached.result ≡ Some c.in_ok-at.at = grind arith in
    let some : c.load.result ≡ Some c.in_ok-c.c = grind arith in
    let open_ : register_open a.pcc.perms a.cd ≡ true = grind arith in
    λ o en ep ec eg. clc_amounts o _ _ _ _ a.x a.cd a.pcc a.cb a.rt c.in_ok-at.at c.in_ok-c.c (rw (ep, en, ec, eg)) open_ (rw lies at (c.reached.ensures a.pcc _ c.register_open-opens.ensures)) (sym c.load.ensures ∙ some)
