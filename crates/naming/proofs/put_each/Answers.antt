use Rattle.std.proofs.Common.{ℕ, ◌≡◌, ◌≤◌, ◌+◌, ◌-◌, ◌*◌, ◌∙◌, arith, ap, subst}
use Rattle.pages.specs.Runs.{pieces, Runs}
use Rattle.pages.proofs.RunLaws.{run_begins, run_next}
use Rattle.naming.proofs.put_each.Goals as goal

pub loop-i-init : goal.loop-i-init
loop-i-init g c =
    let a = c.args in
    let first = a.numbers.start in
    let none : 0 ≡ first - first = omega arith in
    record {
      runs = λ short room piece each. subst (λ (n : ℕ). Runs a.out.now a.at (pieces n first piece) a.out.now a.at) none (run_begins a.out.now a.at first piece);
      within = omega arith;
      ends = λ short room. omega arith;
    }

pub loop-i-preserved : goal.loop-i-preserved
loop-i-preserved g c =
    let a = c.args in
    let l = c.loop-i in
    let first = a.numbers.start in
    let low = l.auto.i in
    let high = c.loop-i-test.true in
    let n = c.step.result in
    let sum = c.saturating_add-end.result in
    let one_more : l.i - first + 1 ≡ l.i + 1 - first = omega arith in
    let next : l.i ≡ first + (l.i - first) = omega arith in
    record {
      runs = λ short room piece each.
          let p = each l.i l.end n _ _ low high c.step.ensures in
          let most : n ≤ 44 = short l.i l.end _ _ _ low high c.step.ensures in
          let so_far : l.end ≤ a.at + l.i * 44 = l.invariant.ends short room in
          let exact : sum ≡ l.end + n = omega (arith, c.saturating_add-end.ensures) in
          subst (λ (k : ℕ). Runs a.out.now a.at (pieces k first piece) c.step.new.arg3 sum) one_more
          (run_next a.out.now a.at first piece l.out _ l.end _ (l.i - first) l.i next (exact ∙ ap (λ x. l.end + x) p.0) (l.invariant.runs short room piece each) p.1);
      within = omega arith;
      ends = λ short room.
          let most : n ≤ 44 = short l.i l.end _ _ _ low high c.step.ensures in
          let so_far : l.end ≤ a.at + l.i * 44 = l.invariant.ends short room in
          omega (arith, c.saturating_add-end.ensures);
    }

pub returns : goal.returns
returns g c =
    let a = c.args in
    let l = c.loop-i in
    let all : l.i - a.numbers.start ≡ a.numbers.end - a.numbers.start = omega arith in
    λ short room piece each. subst (λ (n : ℕ). Runs a.out.now a.at (pieces n a.numbers.start piece) l.out l.end) all (l.invariant.runs short room piece each)
