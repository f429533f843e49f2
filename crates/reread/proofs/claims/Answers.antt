use Rattle.reread.proofs.Entries.{cap_is_read, general_is_read, line_is_read}
use Rattle.reread.proofs.Written.{written_is_accepted}
use Rattle.reread.proofs.Again.{written_and_read}
use Rattle.reread.proofs.claims.Goals as goal

pub returns : goal.returns
returns c = record { cap_is_read = cap_is_read; general_is_read = general_is_read; line_is_read = line_is_read; written_is_accepted = written_is_accepted; written_and_read = written_and_read }
