use Rattle.std.proofs.Common.{◌≡◌, ◌%◌, ◌^◌, take}
use Rattle.manual.specs.Number.{be}
use Rattle.num.proofs.load_be.Given as goal

abbrev pub invariant-loop-b : goal.invariant-loop-b
invariant-loop-b l = l.v ≡ be (take l.b-index l.part) % 2 ^ 64
