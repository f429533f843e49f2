use Rattle.std.proofs.Common.{◌≡◌, Some, None}
use native.Mathlib.Omega.{arith}
use Rattle.slide.proofs.Slides.{slid_sets, slid_jumps, slid_rests}
use Rattle.slide.proofs.slide.Goals as goal

pub loop-n-preserved-in-Sets : goal.loop-n-preserved-in-Sets
loop-n-preserved-in-Sets c = let l = c.loop-n in
    let did : c.step.result ≡ Some c.in-Some.did = grind arith in (
      omega (arith, c.step.auto.ram, l.invariant.0),
      omega (arith, c.step.auto.tags, l.invariant.1),
      omega (arith, l.invariant.2, c.if-n-budget.false),
      slid_sets _ _ _ _ _ _ _ _ _ _ _ _ _ _ _ _ _ l.invariant.3 c.stands-here.ensures.sees c.step.ensures _ _ _ _ (rw c.in-Sets.is at did) c.kept_zero.ensures c.on-way.ensures,
    )

pub loop-n-preserved : goal.loop-n-preserved
loop-n-preserved c = let l = c.loop-n in
    let did : c.step.result ≡ Some c.in-Some.did = grind arith in (
      omega (arith, c.step.auto.ram, l.invariant.0),
      omega (arith, c.step.auto.tags, l.invariant.1),
      omega (arith, l.invariant.2, c.if-n-budget.false),
      slid_jumps _ _ _ _ _ _ _ _ _ _ _ _ _ _ _ _ _ l.invariant.3 c.stands-here.ensures.sees c.step.ensures _ _ (rw c.in-Jumps.is at did) c.turned-way.ensures,
    )

pub returns-in_default-clause-slides : goal.returns-in_default-clause-slides
returns-in_default-clause-slides c =
    let none : c.step.result ≡ None = grind arith in
    rw (c.stands-here.ensures.steps, c.stands-here.ensures.way) (slid_rests _ _ _ _ _ _ _ _ _ _ _ _ _ _ _ _ _ c.loop-n.invariant.3 c.stands-here.ensures.sees c.step.ensures none).0

pub returns-in_default-clause-sees : goal.returns-in_default-clause-sees
returns-in_default-clause-sees c =
    let none : c.step.result ≡ None = grind arith in
    rw c.stands-here.ensures.way (slid_rests _ _ _ _ _ _ _ _ _ _ _ _ _ _ _ _ _ c.loop-n.invariant.3 c.stands-here.ensures.sees c.step.ensures none).1
