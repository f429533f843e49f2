use Rattle.std.proofs.Common.{◌≡◌, ℕ, List, ◌++◌, length}
use Rattle.std.specs.Io.KnownBytes.{Appends}
use Rattle.tables.specs.Lines.{line}
use Rattle.tables.proofs.print_line.Given as goal

-- What was written, and what is left makes the rest of the line.
abbrev pub invariant-loop-rest : goal.invariant-loop-rest
invariant-loop-rest g l = (done : List ℕ) × Appends (g.W.Write.contents l.initial.to) (g.W.Write.contents l.to) done × (line l.numbers ≡ done ++ line l.rest)

abbrev pub decreases-loop-rest : goal.decreases-loop-rest
decreases-loop-rest g l = length l.rest
