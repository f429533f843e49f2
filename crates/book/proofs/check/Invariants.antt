use Prim.Native.Nat.{ℕ, ◌+◌, ◌-◌, ◌≤◌}
use mathlib.Core.Path.{◌≡◌}
use lib.ListN.{length}
use Rattle.pages.specs.Book.{step_at, walk, check_book}
use Rattle.book.proofs.check.Given as goal

abbrev pub invariant-loop-end : goal.invariant-loop-end
invariant-loop-end l =
    (n : ℕ) × (length l.book ≤ n + l.at) × (walk n l.book l.ram (step_at l.book l.ram l.at l.before.kind l.before.key) ≡ check_book l.book l.ram)

abbrev pub decreases-loop-end : goal.decreases-loop-end
decreases-loop-end l = length l.book - l.at
