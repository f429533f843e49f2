use mathlib.Core.Path.{◌≡◌}
use mathlib.Core.Bool.{true, false}
use borrow.Author.Tests.{tests}
use Rattle.std.proofs.Common.{rules}
use Rattle.std.proofs.lemmas.Iterator.{cases_from_all, YieldsList-from_range}
use Rattle.manual.proofs.Scans.{told_below}
use native.Mathlib.Omega.{arith}
use lib.ListN.{length}
use Rattle.manual.specs.Accept.{line_fits}
use Rattle.start.proofs.lines_fit.Goals as goal

pub returns : goal.returns
returns c = let fits = line_fits c.args.ram.now c.args.tags.now in
    told_below _ fits _ (cases_from_all _ _ _ (λ x. fits x ≡ true) (λ x. fits x ≡ false) c.all.ensures.ran (YieldsList-from_range 0 (length c.args.tags.now) _ (cc) (omega arith)) (λ x q k. search (rules, tests)) (λ x q k. search (rules, tests)))
