use Rattle.std.proofs.Common.{sym}
use Rattle.std.proofs.Math.Seq.{set_out}
use Rattle.manual.specs.Store.{with_tag}
use Rattle.tags.proofs.with_tag.Goals as goal

pub returns-else-line-tags : goal.returns-else-line-tags
unfolding with_tag
returns-else-line-tags c = sym (set_out _ _ _ c.if-line-tags.false)
