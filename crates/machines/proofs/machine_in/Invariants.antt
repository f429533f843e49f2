use Prim.Native.Nat.{◌-◌}
use mathlib.Core.Path.{◌≡◌}
use Rattle.tables.specs.Tables.{entries, cap_end, with_cap, machine_in}
use Rattle.machines.proofs.machine_in.Given as goal

-- The loop's invariant: the entries that are left make of the machine what all of them make of the one that names no capability.
abbrev pub invariant-loop : goal.invariant-loop
invariant-loop l = entries (l.end - l.counter) cap_end (with_cap l.body) l.at l.m ≡ machine_in l.body l.start

abbrev pub decreases-loop : goal.decreases-loop
decreases-loop l = l.end - l.counter
