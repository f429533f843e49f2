use Rattle.std.proofs.Common.{◌≡◌, List, ℕ, length, Ok}
use Rattle.std.specs.Fn.{CalledAt}
use Rattle.std.specs.List.{FoldsTo}
use Rattle.pieces.specs.Pieces.{RunsBody}
use Rattle.pieces.proofs.each_case.Given as goal

-- The loop's invariant: each case so far was read and run.
abbrev pub invariant-loop : goal.invariant-loop
invariant-loop g l =
    goal.F-IsAlwaysCallable g l.run
    × ((bodies : List (List ℕ)) × (length bodies ≡ l.counter)
    × FoldsTo (RunsBody (λ f body h. CalledAt g.F.FnMut f body (Ok tt) h)) (g.R.Read.remaining l.initial.input, l.initial.run) bodies (g.R.Read.remaining l.input, l.run))
