use Rattle.std.proofs.Common.{rules}
use Rattle.std.specs.Prelude.{Ok, None}
use Rattle.pages.specs.Book.{step_at}
use mathlib.Core.Path.{◌≡◌, refl, sym, ap, ◌∙◌}
use native.Mathlib.Omega.{arith}
use lib.ListN.{length}
use Rattle.pages.proofs.Walks.{more_fits}
use Rattle.pages.specs.Entering.{Start}
use Rattle.pages.proofs.Enters.{begins, ends, breaks, goes_on, registered, there, enters}
use Rattle.entering.proofs.enter_all.Goals as goal

pub loop-end-init : goal.loop-end-init
loop-end-init c = let a = c.args in (refl, refl, length a.book.now, omega arith, begins _ _ _ _ c.zero_machine-machine.ensures)

pub with_entry-machine-requires : goal.with_entry-machine-requires
with_entry-machine-requires c = registered _ _ _ _ _ _ _ (ap (λ o. Ok o) (sym c.in-Ok-Some.field-0-is) ∙ c.in-Ok-Some.ensures)

pub put_entry-requires : goal.put_entry-requires
put_entry-requires c = there _ _ _ _ _ _ _ _ c.loop-end.invariant.0 (ap (λ o. Ok o) (sym c.in-Ok-Some.field-0-is) ∙ c.in-Ok-Some.ensures)

pub loop-end-smaller : goal.loop-end-smaller
loop-end-smaller c = let a = c.args in
    let l = c.loop-end in
    let f = more_fits a.book.now (length a.ram.now) l.at l.before.kind l.before.key _ _ (ap (λ o. Ok o) (sym c.in-Ok-Some.field-0-is) ∙ c.in-Ok-Some.ensures) in
    omega (arith, f.0, f.1)

pub loop-end-preserved : goal.loop-end-preserved
loop-end-preserved c = let v = c.loop-end.invariant in
    let p = c.put_entry in
    let k = c.rank_of-before.ensures in
    let w = goes_on v.2 _ _ _ _ _ _ _ _ _ _ _ v.3 (ap (λ o. Ok o) (sym c.in-Ok-Some.field-0-is) ∙ c.in-Ok-Some.ensures) k.0 k.1 (enters _ _ _ _ _ _ _ _ _ c.with_entry-machine.ensures p.ensures.ram_after p.ensures.tags_after) in
    (p.auto.ram ∙ v.0, p.auto.tags ∙ v.1, w.0, w.1, w.2 ∙ v.4)

pub returns-in_default : goal.returns-in_default
returns-in_default c = let v = c.loop-end.invariant in
    let p : Ok None ≡ step_at c.args.book.now (length c.args.ram.now) c.loop-end.at c.loop-end.before.kind c.loop-end.before.key = search rules in
    let e = ends v.2 _ _ _ _ p ∙ v.4 in
    record { value = ap (λ (s : Start). s.machine) e; ram_after = ap (λ (s : Start). s.ram) e; tags_after = ap (λ (s : Start). s.tags) e }

pub returns-in_default-2 : goal.returns-in_default-2
returns-in_default-2 c = let v = c.loop-end.invariant in
    let e = breaks v.2 _ _ _ _ _ (sym c.in_default.is ∙ c.step_at.ensures) ∙ v.4 in
    record { value = ap (λ (s : Start). s.machine) e; ram_after = ap (λ (s : Start). s.ram) e; tags_after = ap (λ (s : Start). s.tags) e }
