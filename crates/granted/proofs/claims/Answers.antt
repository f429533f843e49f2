use Rattle.granted.proofs.Read.{read_is_accepted}
use Rattle.granted.proofs.Nothing.{nothing_granted, empty_book}
use Rattle.granted.proofs.claims.Goals as goal

pub returns : goal.returns
returns c = record { read_is_accepted = read_is_accepted; nothing_granted = nothing_granted; empty_book = empty_book }
