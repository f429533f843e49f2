-- The plan at the instruction that a `match` found: one law for every arm. Assumes nothing.
use Rattle.std.specs.Prelude.{Result}
use mathlib.Core.Path.{◌≡◌}
use Rattle.manual.specs.declared.Instr.{Instr}
use Rattle.manual.specs.Checks.{settle}
use Rattle.manual.specs.declared.Operands.{Operands}
use Rattle.manual.specs.Plan.{plan_of}
use Rattle.manual.specs.declared.Effect.{Effect}
use Rattle.manual.specs.declared.Fault.{Fault}

pub at : (o : Operands) (i j : Instr) (r : Result Effect Fault) → i ≡ j → r ≡ settle (plan_of o j) → r ≡ settle (plan_of o i)
at o i j r e h = rw e h
