use mathlib.Core.Path.{◌∙◌}
use Rattle.manual.proofs.Chains.{stops, passes, breaks}
use Rattle.manual.specs.Checks.{finish}
use Rattle.manual.specs.Transfer.{c_sc}
use Rattle.captransfer.proofs.csc.Goals as goal

pub returns-in_err-through : goal.returns-in_err-through
unfolding c_sc finish
returns-in_err-through c = stops _ c.from_residual-in_err-through.ensures.1 (c.in_err-through.ensures _ ∙ passes _ _ _ c.in_ok-opened.ensures)

pub returns-in_err-that : goal.returns-in_err-that
unfolding c_sc finish
returns-in_err-that c = stops _ c.from_residual-in_err-that.ensures.1
    (breaks _ _ _ _ (rw (c.may_store.ensures, c.lacking_cause-cause.ensures) at c.in_err-that.ensures)
    ∙ c.in_ok-through.ensures _
    ∙ passes _ _ _ c.in_ok-opened.ensures)
