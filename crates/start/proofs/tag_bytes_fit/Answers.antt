use mathlib.Core.Path.{◌≡◌}
use mathlib.Core.Bool.{true, false, not}
use borrow.Author.Tests.{tests}
use Rattle.std.proofs.Common.{rules}
use Rattle.std.proofs.lemmas.Iterator.{cases_from_all, YieldsList-from_slice}
use Rattle.manual.proofs.Scans.{told_each}
use lib.Dec.{ltb}
use Rattle.start.proofs.tag_bytes_fit.Goals as goal

pub returns : goal.returns
returns c = told_each (λ t. not (ltb 1 t)) _ 0 _ (cc) _ (cases_from_all _ _ _ (λ t. not (ltb 1 t) ≡ true) (λ t. not (ltb 1 t) ≡ false) c.all.ensures.ran (YieldsList-from_slice c.args.tags.now cc) (λ x q k. search (rules, tests)) (λ x q k. search (rules, tests)))
