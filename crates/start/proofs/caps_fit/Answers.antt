use mathlib.Core.Path.{◌≡◌}
use mathlib.Core.Bool.{true, false}
use borrow.Author.Tests.{tests}
use Rattle.std.proofs.Common.{rules}
use Rattle.std.proofs.lemmas.Iterator.{cases_from_all, YieldsList-from_slice}
use Rattle.manual.proofs.Scans.{told_each}
use Rattle.manual.specs.Accept.{top_fits}
use Rattle.manual.specs.Narrow.{null}
use Rattle.start.proofs.caps_fit.Goals as goal

pub returns : goal.returns
returns c = told_each top_fits _ null 32 (search rules) _ (cases_from_all _ _ _ (λ x. top_fits x ≡ true) (λ x. top_fits x ≡ false) c.all.ensures.ran (YieldsList-from_slice c.args.caps cc) (λ x q k. search (rules, tests)) (λ x q k. search (rules, tests)))
