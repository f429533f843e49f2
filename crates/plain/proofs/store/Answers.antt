use Rattle.std.proofs.Common.{refl, arith, ◌≡◌, Some}
use Rattle.std.specs.Result.{result_ok}
use Rattle.manual.specs.Cap.{register_open}
use Rattle.plain.proofs.Laws.{store_means}
use Rattle.plain.proofs.store.Goals as goal

pub returns : goal.returns
unfolding register_open
returns c = let a = c.args in
    let stored : result_ok c.stored.result ≡ Some tt = grind arith in
    λ o planned p. rw (c.stored.ensures.ram_after, c.stored.ensures.tags_after)
    (rw (rw c.stored.ensures.value at stored) at
    (store_means o planned a.flash.now a.ram.now a.tags.now a.size a.x a.value o.pcc (record { number = 0; cap = a.c0 }) a.rt c.reached-at.result p (c.reached-at.ensures o.pcc 0 refl)))
