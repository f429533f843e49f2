use Rattle.tables.specs.Tables.{piece_end, with_piece}
use Rattle.pieces.proofs.put_piece.Goals as goal

pub returns : goal.returns
unfolding piece_end with_piece
returns c = rw (← c.after.ensures, ← c.number-size.ensures, ← c.after-from.ensures, ← c.number_4.ensures, ← c.part.ensures)
    record { value = c.after-2.ensures; memory_after = c.put_bytes.ensures }
