-- What was read stands at the front of the space, and is what the input has lost.
use Rattle.std.proofs.Common.{length, take, ◌-◌, ◌≤◌, ◌≡◌}
use Rattle.std.specs.Io.KnownBytes.{Consumes}
use Rattle.tables.proofs.read_full.Given as goal

abbrev pub invariant-loop-done : goal.invariant-loop-done
invariant-loop-done g l =
    (length l.space ≡ length l.initial.space)
    × (l.done ≤ length l.space)
    × Consumes (g.R.Read.remaining l.initial.input) (g.R.Read.remaining l.input) (take l.done l.space)

abbrev pub decreases-loop-done : goal.decreases-loop-done
decreases-loop-done g l = length l.initial.space - l.done
