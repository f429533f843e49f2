use mathlib.Core.Path.{sym, ◌∙◌}
use mathlib.Core.Bool.{true, false}
use native.Mathlib.Omega.{arith}
use Rattle.access.proofs.Fits.{fits}
use Rattle.access.proofs.placed.Goals as goal

pub returns-then-is_aligned : goal.returns-then-is_aligned
returns-then-is_aligned c = fits _ _ _ _ _ true c.address_at-a.ensures (sym c.if-is_aligned.true ∙ c.is_aligned.ensures) (omega arith) (rw (← c.size_bytes-n.ensures) (sym c.past_top.ensures ∙ c.if-past_top.false))

pub returns-else-is_aligned : goal.returns-else-is_aligned
returns-else-is_aligned c = fits _ _ _ _ _ false c.address_at-a.ensures (sym c.if-is_aligned.false ∙ c.is_aligned.ensures) (omega arith) (rw (← c.size_bytes-n.ensures) (sym c.past_top.ensures ∙ c.if-past_top.false))
