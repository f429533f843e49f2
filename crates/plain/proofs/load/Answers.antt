use Rattle.std.proofs.Common.{refl, arith, ◌≡◌, ◌∙◌, sym, Some, None}
use Rattle.manual.specs.Cap.{register_open}
use Rattle.plain.proofs.Laws.{load_means}
use Rattle.plain.proofs.load.Goals as goal

pub returns-in_err-value : goal.returns-in_err-value
returns-in_err-value c = let none : c.from_residual.result ≡ None = grind arith in rw none (λ o tags planned p. (refl, refl))

pub returns : goal.returns
unfolding register_open
returns c = let some : c.loaded.result ≡ Some c.in_ok-value.value = grind arith in let a = c.args in
    λ o tags planned p. rw (sym c.loaded.ensures ∙ some) at
    (load_means o planned a.flash.now a.ram.now tags a.size a.x a.rd o.pcc (record { number = 0; cap = a.c0 }) a.rt c.reached-at.result p (c.reached-at.ensures o.pcc 0 refl))
