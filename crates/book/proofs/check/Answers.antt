use mathlib.Core.Path.{sym, ap, ◌∙◌}
use native.Mathlib.Omega.{arith}
use lib.ListN.{length}
use Rattle.std.specs.Prelude.{Ok}
use Rattle.manual.proofs.Chains.{stops}
use Rattle.pages.specs.Book.{walk}
use Rattle.pages.proofs.Walks.{more_fits, walk_done, walk_refused, walk_more, check_start}
use Rattle.book.proofs.check.Goals as goal

pub loop-end-init : goal.loop-end-init
loop-end-init c = let a = c.args in (length a.book.now, omega arith, check_start a.book.now a.ram c.if-book-eq0.false (omega arith))

pub returns-in_err-end : goal.returns-in_err-end
returns-in_err-end c = let v = c.loop-end.invariant in
    stops _ c.from_residual.ensures.1 (walk_refused v.0 _ _ _ _ _ _ v.1 (sym c.in_err-end.was ∙ c.step_at.ensures) ∙ v.2)

pub loop-end-smaller : goal.loop-end-smaller
loop-end-smaller c = let a = c.args in
    let l = c.loop-end in
    let f = more_fits a.book.now a.ram l.at l.before.kind l.before.key _ _ (ap (λ o. Ok o) (sym c.in-Some.is) ∙ sym c.in_ok-end.was ∙ c.step_at.ensures) in
    omega (arith, f.0, f.1)

pub loop-end-preserved : goal.loop-end-preserved
loop-end-preserved c = let v = c.loop-end.invariant in
    let k = c.rank_of-before.ensures in
    let w = walk_more v.0 _ _ _ _ _ _ _ _ _ v.1 (ap (λ o. Ok o) (sym c.in-Some.is) ∙ sym c.in_ok-end.was ∙ c.step_at.ensures) k.0 k.1 in
    (w.0, w.1, w.2 ∙ v.2)

pub returns : goal.returns
returns c = let v = c.loop-end.invariant in
    sym (walk_done v.0 _ _) ∙ ap (walk v.0 _ _) (ap (λ o. Ok o) (sym c.in_default.is) ∙ sym c.in_ok-end.was ∙ c.step_at.ensures) ∙ v.2
