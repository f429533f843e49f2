use Rattle.std.proofs.Common.{sym}
use Rattle.pages.proofs.Fields.{general_bytes}
use Rattle.naming.proofs.GeneralRecorded.put.Goals as goal

pub returns-clause-value : goal.returns-clause-value
returns-clause-value c = sym (general_bytes _ _)
