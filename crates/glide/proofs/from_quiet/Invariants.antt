use Rattle.std.specs.Prelude.{None}
use Prim.Native.Nat.{◌-◌, ◌≤◌}
use mathlib.Core.Path.{◌≡◌}
use lib.ListN.{length}
use Rattle.manual.specs.Narrow.{set_offset}
use Rattle.way.specs.Way.{waiting_at}
use Rattle.slide.specs.Slide.{Glides}
use Rattle.glide.proofs.from_quiet.Given as goal

abbrev pub invariant-loop-n : goal.invariant-loop-n
invariant-loop-n l = (length l.ram ≡ length l.initial.ram) × (length l.tags ≡ length l.initial.tags) × (l.n ≤ l.budget)
    × Glides l.flash l.initial.m.general l.initial.m.caps l.pcc None l.initial.ram l.initial.tags l.n l.m.general l.m.caps (set_offset l.pcc l.way.at) (waiting_at l.way.slot l.pcc l.way.target) l.ram l.tags
    × (l.m.pcc ≡ l.pcc) × (l.m.cause ≡ l.initial.m.cause)

abbrev pub decreases-loop-n : goal.decreases-loop-n
decreases-loop-n l = l.budget - l.n
