use native.Mathlib.Omega.{arith}
use Prim.Native.Nat.{◌≤◌}
use mathlib.Core.Bool.{Bool, true, false}
use Rattle.manual.specs.Store.{bit}
use Rattle.capstore.proofs.first_word.Goals as goal

small : (b : Bool) → bit b ≤ 1
small true = omega arith
small false = omega arith

pub overflow_add-result-3 : goal.overflow_add-result-3
overflow_add-result-3 c = omega (arith, c.from.ensures, c.from-2.ensures, c.from-3.ensures, c.from-4.ensures, small c.args.c.sealed)
