use Rattle.std.proofs.Common.{◌≡◌, ◌-◌, ◌/◌, ◌^◌, ◌≤◌, ◌++◌, length, take}
use Rattle.manual.specs.Number.{to_be}
use Rattle.num.proofs.store_be.Given as goal

abbrev pub invariant-loop-i : goal.invariant-loop-i
invariant-loop-i l = (l.i ≤ length l.initial.part) × (l.part ≡ take l.i l.initial.part ++ to_be (length l.initial.part - l.i) l.v) × (l.x ≡ l.v / 256 ^ (length l.initial.part - l.i))
