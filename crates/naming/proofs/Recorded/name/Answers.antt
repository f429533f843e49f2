use Rattle.std.proofs.Common.{sym, ◌∙◌}
use Rattle.pages.proofs.Fields.{put_nothing}
use Rattle.naming.proofs.Recorded.name.Goals as goal

pub returns-then-is_zero-clause-out_after : goal.returns-then-is_zero-clause-out_after
returns-then-is_zero-clause-out_after g c = let e = sym c.is_zero.ensures ∙ c.if-is_zero.true in rw e (sym (put_nothing _ _))
