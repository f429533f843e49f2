use Rattle.std.proofs.Common.{sym}
use Rattle.pages.proofs.Fields.{line_bytes_lem}
use Rattle.naming.proofs.LineRecorded.put.Goals as goal

pub returns-clause-value : goal.returns-clause-value
returns-clause-value c = sym (line_bytes_lem _ _ _)
