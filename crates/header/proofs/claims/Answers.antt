use Rattle.header.proofs.Numbers.{run_numbers, read-numbers, write_numbers, room_for_every}
use Rattle.header.proofs.Taken.{handed_out_is_taken}
use Rattle.header.proofs.claims.Goals as goal

pub returns : goal.returns
returns c = record { run_numbers = run_numbers; read_numbers = read-numbers; write_numbers = write_numbers; room_for_every = room_for_every; handed_out_is_taken = handed_out_is_taken }
