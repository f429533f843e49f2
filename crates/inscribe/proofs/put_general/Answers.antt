use Rattle.std.proofs.Common.{append-nil}
use Rattle.pages.specs.Compose.{general_body}
use Rattle.inscribe.proofs.put_general.Goals as goal

pub returns : goal.returns
unfolding general_body
returns c = let h = rw append-nil at c.put_record.ensures in cc
