use Rattle.std.proofs.Common.{refl, arith, ◌≡◌, ◌∙◌, sym, Some, None}
use Rattle.manual.specs.Checks.{settle}
use Rattle.manual.specs.declared.Instr.{Instr}
use Rattle.manual.specs.Plan.{plan_of}
use Rattle.moving.proofs.Laws.{load_amounts}
use Rattle.moving.proofs.load.Goals as goal

pub returns-in_err-value : goal.returns-in_err-value
returns-in_err-value c = let none : c.from_residual.result ≡ None = grind arith in rw none (λ o tags en ep ec eg. (refl, refl))

pub returns : goal.returns
unfolding plan_of
returns c = let some : c.loaded.result ≡ Some c.in_ok-value.value = grind arith in let a = c.args in
    λ o tags en ep ec eg. rw (sym c.loaded.ensures ∙ some) at
    (load_amounts o (settle (plan_of o (Instr.Load a.size a.signed a.x))) a.flash.now a.ram.now tags a.size a.signed a.x a.rd a.pcc a.cb a.rt c.reached-at.result (rw (ep, en, ec, eg)) (c.reached-at.ensures a.pcc _ c.register_open-opens.ensures))
