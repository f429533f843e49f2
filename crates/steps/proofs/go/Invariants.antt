use Prim.Native.Nat.{ℕ, ◌+◌, ◌-◌, ◌≤◌}
use mathlib.Core.Bool.{Bool}
use mathlib.Core.Path.{◌≡◌}
use lib.ListN.{length}
use Rattle.manual.specs.Store.{bit}
use Rattle.manual.specs.Steps.{run_from}
use Rattle.steps.proofs.go.Given as goal

-- a try of the shorter way at a place may make no step, and is not made there again
abbrev pub left : ℕ → ℕ → Bool → ℕ
left budget n fresh = (budget - n) + (budget - n) + bit fresh

abbrev pub invariant-loop-n : goal.invariant-loop-n
invariant-loop-n l = (length l.ram ≡ length l.initial.ram) × (length l.tags ≡ length l.initial.tags) × (l.n ≤ l.budget)
    × (run_from (l.budget - l.n) l.n l.flash l.m l.ram l.tags ≡ run_from l.budget 0 l.flash l.initial.m l.initial.ram l.initial.tags)

abbrev pub decreases-loop-n : goal.decreases-loop-n
decreases-loop-n l = left l.budget l.n l.fresh
