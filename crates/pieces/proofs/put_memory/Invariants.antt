use Prim.Native.Nat.{◌-◌}
use mathlib.Core.Path.{◌≡◌}
use lib.ListN.{length}
use Rattle.tables.specs.Tables.{entries, piece_end, with_piece, memory_end}
use Rattle.pieces.proofs.put_memory.Given as goal

-- The loop's invariant: the pieces that are left make of the memory, and of the place, what all of them make of the filled one.
abbrev pub invariant-loop : goal.invariant-loop
invariant-loop l = (length l.memory ≡ length l.initial.memory)
    × (entries (l.end - l.counter) (piece_end l.body) (with_piece l.body) l.at l.memory ≡ entries l.end (piece_end l.body) (with_piece l.body) l.initial.at l.initial.memory)
    × (entries (l.end - l.counter) (piece_end l.body) (λ x _. piece_end l.body x) l.at l.at ≡ memory_end l.body l.start)

abbrev pub decreases-loop : goal.decreases-loop
decreases-loop l = l.end - l.counter
