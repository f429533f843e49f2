use mathlib.Core.Path.{sym, ◌∙◌, ap}
use native.Mathlib.Omega.{arith}
use Rattle.std.specs.Prelude.{Ok}
use Rattle.pages.proofs.Heads.{body_fits}
use Rattle.book.proofs.step_at.Goals as goal

pub overflow_add-end : goal.overflow_add-end
overflow_add-end c =
    let q = ap (λ o. Ok o) (sym c.in-Some.is) ∙ sym c.in_ok-start.was ∙ c.record_at.ensures in
    omega (arith, (body_fits c.args.book.now c.args.at c.in-Some.field-0.start c.in-Some.field-0.bytes q).1)

pub slice_bounds-entry_in-end : goal.slice_bounds-entry_in-end
slice_bounds-entry_in-end c =
    let q = ap (λ o. Ok o) (sym c.in-Some.is) ∙ sym c.in_ok-start.was ∙ c.record_at.ensures in
    omega (arith, (body_fits c.args.book.now c.args.at c.in-Some.field-0.start c.in-Some.field-0.bytes q).1)
