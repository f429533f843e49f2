use Rattle.std.proofs.Common.{sym}
use Rattle.pages.proofs.Fields.{cap_bytes_lem}
use Rattle.naming.proofs.RegisterRecorded.put.Goals as goal

pub returns-clause-value : goal.returns-clause-value
returns-clause-value c = sym (cap_bytes_lem _ _)
