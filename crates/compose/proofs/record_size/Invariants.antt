use Rattle.std.proofs.Common.{◌≡◌, ◌+◌, ◌-◌, ◌^◌, min, length, take}
use Rattle.pages.specs.Compose.{fields}
use Rattle.compose.proofs.record_size.Given as goal

abbrev pub invariant-loop-width : goal.invariant-loop-width
invariant-loop-width l = l.size ≡ min (2 ^ 64 - 1) (2 + (length (fields (take l.width-index l.values)) + l.fn.bytes))
