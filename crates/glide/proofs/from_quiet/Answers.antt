use mathlib.Core.Path.{refl}
use Rattle.std.proofs.Common.{arith, ◌≡◌, Some, None}
use Rattle.glide.proofs.Glides.{came, also_slid}
use Rattle.glide.proofs.from_quiet.Goals as goal

pub returns-then-n-budget-clause-glides : goal.returns-then-n-budget-clause-glides
returns-then-n-budget-clause-glides c = rw (c.come_to.ensures, c.loop-n.invariant.4) (also_slid _ _ _ _ _ _ _ _ _ _ c.args.m.now.pcc c.loop-n.way _ _ _ _ c.slide-slid.result.way _ _ c.loop-n.invariant.3 c.slide-slid.ensures.slides)

pub returns-in_default-clause-glides : goal.returns-in_default-clause-glides
returns-in_default-clause-glides c =
    let none : c.ride.result ≡ None = grind arith in
    rw (c.come_to-in_default.ensures, c.loop-n.invariant.4) (rw none at (came _ _ _ _ _ _ _ _ _ _ c.args.m.now.pcc c.slide-slid.result.way _ _ c.ride.new.ram c.ride.new.tags (also_slid _ _ _ _ _ _ _ _ _ _ c.args.m.now.pcc c.loop-n.way _ _ _ _ c.slide-slid.result.way _ _ c.loop-n.invariant.3 c.slide-slid.ensures.slides) _ _ _ _ _ _
    c.slide-slid.ensures.sees c.set_offset-here.ensures refl refl refl c.ride.result c.ride.ensures))

pub loop-n-preserved-in-Sets : goal.loop-n-preserved-in-Sets
loop-n-preserved-in-Sets c =
    let did : c.ride.result ≡ Some c.in-Some.rode = grind arith in (
      omega (arith, c.ride.auto.ram, c.slide-slid.auto.ram, c.loop-n.invariant.0),
      omega (arith, c.ride.auto.tags, c.slide-slid.auto.tags, c.loop-n.invariant.1),
      omega (arith, c.slide-slid.ensures.steps_le_budget, c.loop-n.invariant.2, c.if-n-budget.false),
      rw (c.on-way.ensures, c.kept_zero.ensures) (rw (rw c.in-Sets.is at did) at (came _ _ _ _ _ _ _ _ _ _ c.args.m.now.pcc c.slide-slid.result.way _ _ c.ride.new.ram c.ride.new.tags (also_slid _ _ _ _ _ _ _ _ _ _ c.args.m.now.pcc c.loop-n.way _ _ _ _ c.slide-slid.result.way _ _ c.loop-n.invariant.3 c.slide-slid.ensures.slides) _ _ _ _ _ _
          c.slide-slid.ensures.sees c.set_offset-here.ensures refl refl refl c.ride.result c.ride.ensures)),
      c.loop-n.invariant.4,
      c.loop-n.invariant.5,
    )

pub loop-n-preserved : goal.loop-n-preserved
loop-n-preserved c =
    let did : c.ride.result ≡ Some c.in-Some.rode = grind arith in (
      omega (arith, c.ride.auto.ram, c.slide-slid.auto.ram, c.loop-n.invariant.0),
      omega (arith, c.ride.auto.tags, c.slide-slid.auto.tags, c.loop-n.invariant.1),
      omega (arith, c.slide-slid.ensures.steps_le_budget, c.loop-n.invariant.2, c.if-n-budget.false),
      rw c.on-way.ensures (rw (rw c.in-Puts.is at did) at (came _ _ _ _ _ _ _ _ _ _ c.args.m.now.pcc c.slide-slid.result.way _ _ c.ride.new.ram c.ride.new.tags (also_slid _ _ _ _ _ _ _ _ _ _ c.args.m.now.pcc c.loop-n.way _ _ _ _ c.slide-slid.result.way _ _ c.loop-n.invariant.3 c.slide-slid.ensures.slides) _ _ _ _ _ _
          c.slide-slid.ensures.sees c.set_offset-here.ensures refl refl refl c.ride.result c.ride.ensures)),
      c.loop-n.invariant.4,
      c.loop-n.invariant.5,
    )
