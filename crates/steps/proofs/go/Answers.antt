use Prim.Native.Nat.{ℕ, ◌+◌, ◌-◌, ◌<◌}
use mathlib.Core.Bool.{Bool, true, false}
use mathlib.Core.Path.{◌≡◌, refl, sym, ap, ◌∙◌}
use native.Mathlib.Omega.{arith}
use Rattle.manual.specs.Steps.{Ran, run_from}
use Rattle.manual.specs.declared.Machine.{Machine}
use Rattle.manual.specs.State.{operands_of, commit}
use Rattle.slide.specs.Slide.{holding}
use Rattle.manual.proofs.Runs.{turn_is, ram_is, tags_is, on, off, done, first}
use Rattle.glide.proofs.Glides.{along}
use Rattle.steps.proofs.go.Invariants.{left}
use Rattle.steps.proofs.go.Goals as goal

tried : (b n s : ℕ) (fresh : Bool) → fresh ≡ true → left b (n + s) false < left b n fresh
tried b n s true h = omega arith
tried b n s false h = let z : ◌≡◌ {A = ℕ} 0 1 = cc in absurd (omega arith)

-- a machine whose cause is this
kept_whole : (m : Machine) (cause : ℕ) → m.cause ≡ cause → m ≡ holding m.general m.caps m.pcc m.pending cause
kept_whole m cause h = rw (sym h) refl

stepped : (b n : ℕ) (fresh : Bool) → n < b → left b (n + 1) true < left b n fresh
stepped b n true h = omega arith
stepped b n false h = omega arith

pub loop-n-init : goal.loop-n-init
loop-n-init c = (refl, refl, omega arith, first _ _ _ _ _)

-- the number of steps stays in the budget
pub overflow_add-n : goal.overflow_add-n
overflow_add-n c = omega (arith, c.glide-n.ensures.steps_le_budget, c.loop-n.invariant.2, c.ranges.budget)

pub loop-n-smaller-then-is_light : goal.loop-n-smaller-then-is_light
loop-n-smaller-then-is_light c = tried _ _ _ c.loop-n.fresh c.if-fresh.true

-- the glided steps lead on from the loop's head
pub loop-n-preserved-then-is_light : goal.loop-n-preserved-then-is_light
loop-n-preserved-then-is_light c = let l = c.loop-n in
    let a = c.args in
    let to = c.glide-n.new.m in (
      omega (arith, c.glide-n.auto.ram, c.loop-n.invariant.0),
      omega (arith, c.glide-n.auto.tags, c.loop-n.invariant.1),
      omega (arith, c.glide-n.ensures.steps_le_budget, c.loop-n.invariant.2),
      ap (λ (m : Machine). run_from (a.budget - (l.n + c.glide-n.result)) (l.n + c.glide-n.result) a.flash.now m c.glide-n.new.ram c.glide-n.new.tags) (kept_whole to l.m.cause c.glide-n.ensures.cause_stays)
          ∙ along a.budget l.n c.glide-n.result a.flash.now l.m.general l.m.caps l.m.pcc l.m.pending l.m.cause l.ram l.tags to.general to.caps to.pcc to.pending c.glide-n.new.ram c.glide-n.new.tags c.glide-n.ensures.steps_le_budget c.glide-n.ensures.glides
          ∙ c.loop-n.invariant.3,
    )

pub shape_of-ram-in-Err : goal.shape_of-ram-in-Err
shape_of-ram-in-Err c = omega (arith, c.turn.auto.ram, c.loop-n.invariant.0)

pub shape_of-tags-in-Err : goal.shape_of-tags-in-Err
shape_of-tags-in-Err c = omega (arith, c.turn.auto.tags, c.loop-n.invariant.1)

pub returns-in-Err : goal.returns-in-Err
unfolding operands_of
returns-in-Err c =
    let l = c.loop-n in
    let flash = c.args.flash.now in
    let f = c.fetch-fetched.ensures in
    let fw = c.word_of-w.ensures in
    let t = turn_is flash l.ram l.tags l.m _ _ _ _ _ _ f fw refl refl refl refl _ c.turn.ensures.value in
    let r = ram_is flash l.ram l.tags l.m _ _ _ _ _ _ f fw refl refl refl refl _ c.turn.ensures.ram_after in
    let g = tags_is flash l.ram l.tags l.m _ _ _ _ _ _ f fw refl refl refl refl _ c.turn.ensures.tags_after in
    let e = off _ _ _ _ _ _ c.loop-n-test.true _ _ _ _ (sym c.in-Err.is ∙ t) r g c.stopped.ensures ∙ c.loop-n.invariant.3 in
    record { value = ap (λ (r : Ran). r.outcome) e; ram_after = ap (λ (r : Ran). r.ram) e; tags_after = ap (λ (r : Ran). r.tags) e }

pub overflow_add-n-in-Ok : goal.overflow_add-n-in-Ok
overflow_add-n-in-Ok c = omega (arith, c.loop-n-test.true, c.ranges.budget)

pub loop-n-smaller : goal.loop-n-smaller
loop-n-smaller c = stepped _ _ c.loop-n.fresh c.loop-n-test.true

pub loop-n-preserved : goal.loop-n-preserved
unfolding operands_of commit
loop-n-preserved c =
    let l = c.loop-n in
    let flash = c.args.flash.now in
    let f = c.fetch-fetched.ensures in
    let fw = c.word_of-w.ensures in
    let t = turn_is flash l.ram l.tags l.m _ _ _ _ _ _ f fw refl refl refl refl _ c.turn.ensures.value in
    let r = ram_is flash l.ram l.tags l.m _ _ _ _ _ _ f fw refl refl refl refl _ c.turn.ensures.ram_after in
    let g = tags_is flash l.ram l.tags l.m _ _ _ _ _ _ f fw refl refl refl refl _ c.turn.ensures.tags_after in (
      omega (arith, c.turn.auto.ram, c.loop-n.invariant.0),
      omega (arith, c.turn.auto.tags, c.loop-n.invariant.1),
      omega (arith, c.loop-n-test.true),
      rw c.commit.ensures (on _ _ _ _ _ _ c.loop-n-test.true _ _ _ _ _ (sym c.in-Ok.is ∙ t) r g refl refl ∙ c.loop-n.invariant.3),
    )

pub shape_of-ram : goal.shape_of-ram
shape_of-ram c = omega (arith, c.loop-n.invariant.0)

pub shape_of-tags : goal.shape_of-tags
shape_of-tags c = omega (arith, c.loop-n.invariant.1)

pub returns : goal.returns
returns c = let e = done _ _ _ _ _ _ _ c.loop-n-test.false c.placeless.ensures ∙ c.loop-n.invariant.3 in
    record { value = ap (λ (r : Ran). r.outcome) e; ram_after = ap (λ (r : Ran). r.ram) e; tags_after = ap (λ (r : Ran). r.tags) e }
