use Rattle.std.proofs.Common.{ℕ, ◌+◌, ◌-◌, ◌*◌, ◌^◌, ◌≤◌, ◌<◌, List}
use Rattle.pages.specs.Runs.{pieces, Runs}
use Rattle.naming.specs.Steps.{Puts, PutsAtMost}
use Rattle.naming.proofs.put_each.Given as goal

abbrev pub invariant-loop-i : goal.invariant-loop-i
invariant-loop-i g l =
    let first = l.fn.numbers.start in
    let last = l.fn.numbers.end in
    record {
      runs : PutsAtMost first last (goal.F-post g l.step) 44 → l.at + last * 44 < 2 ^ 64 → (piece : ℕ → List ℕ) → Puts first last (goal.F-post g l.step) piece
          → Runs l.initial.out l.at (pieces (l.i - first) first piece) l.out l.end;
      within : l.i - first ≤ last - first;
      ends : PutsAtMost first last (goal.F-post g l.step) 44 → l.at + last * 44 < 2 ^ 64 → l.end ≤ l.at + l.i * 44;
    }
