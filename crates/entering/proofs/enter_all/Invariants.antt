use Prim.Native.Nat.{ℕ, ◌+◌, ◌-◌, ◌≤◌}
use mathlib.Core.Path.{◌≡◌}
use lib.ListN.{length}
use Rattle.pages.specs.Book.{step_at}
use Rattle.pages.specs.Entering.{enter_all, enter_book, bare}
use Rattle.pages.proofs.Enters.{holding}
use Rattle.entering.proofs.enter_all.Given as goal

abbrev pub invariant-loop-end : goal.invariant-loop-end
invariant-loop-end l = (length l.ram ≡ length l.initial.ram) × (length l.tags ≡ length l.initial.tags)
    × (n : ℕ) × (length l.book ≤ n + l.at)
    × (enter_all n l.book (length l.initial.ram) (step_at l.book (length l.initial.ram) l.at l.before.kind l.before.key) (holding l.machine l.ram l.tags) ≡ enter_book l.book (bare l.initial.ram l.initial.tags))

abbrev pub decreases-loop-end : goal.decreases-loop-end
decreases-loop-end l = length l.book - l.at
