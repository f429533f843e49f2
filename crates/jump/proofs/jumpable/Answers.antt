use mathlib.Core.Path.{◌∙◌}
use Rattle.jump.proofs.Targets.{aligned_at}
use Rattle.manual.proofs.Chains.{last, passes}
use Rattle.manual.specs.Checks.{finish}
use Rattle.jump.proofs.jumpable.Goals as goal

pub returns : goal.returns
unfolding finish
returns c = λ rest.
    rw (← c.sum_within.ensures, ← aligned_at _ _ _ c.address_at-at.ensures, ← c.is_aligned.ensures)
    (last _ _ _ c.guarded.ensures rest
    ∙ passes _ _ _ c.in_ok-that.ensures
    ∙ passes _ _ _ c.in_ok-granted-2.ensures
    ∙ passes _ _ _ c.in_ok-granted.ensures
    ∙ passes _ _ _ c.in_ok-unsealed.ensures
    ∙ passes _ _ _ c.in_ok-tagged.ensures)
