use mathlib.Core.Path.{◌∙◌}
use Rattle.manual.proofs.Chains.{stops, passes, does}
use Rattle.manual.specs.Checks.{finish}
use Rattle.manual.specs.Jump.{c_jalr}
use Rattle.jump.proofs.cjalr.Goals as goal

pub returns-in_err-jumpable : goal.returns-in_err-jumpable
unfolding c_jalr finish
returns-in_err-jumpable c = stops _ c.from_residual-in_err-jumpable.ensures.1
    (c.in_err-jumpable.ensures _ ∙ passes _ _ _ c.in_ok-opened-2.ensures ∙ passes _ _ _ c.in_ok-opened.ensures)

pub returns : goal.returns
unfolding c_jalr finish
returns c = rw (← c.inc_offset.ensures) (does _ ∙ c.in_ok-jumpable.ensures _ ∙ passes _ _ _ c.in_ok-opened-2.ensures ∙ passes _ _ _ c.in_ok-opened.ensures)
