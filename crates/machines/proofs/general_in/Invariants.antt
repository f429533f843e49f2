use Prim.Native.Nat.{◌-◌}
use mathlib.Core.Path.{◌≡◌}
use Rattle.tables.specs.Tables.{entries, value_end, with_value, general_in}
use Rattle.machines.proofs.general_in.Given as goal

-- The loop's invariant: the entries that are left make of the registers what all of them make of zeros.
abbrev pub invariant-loop : goal.invariant-loop
invariant-loop l = entries (l.end - l.counter) value_end (with_value l.body) l.at l.general ≡ general_in l.body l.start

abbrev pub decreases-loop : goal.decreases-loop
decreases-loop l = l.end - l.counter
