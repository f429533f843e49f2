use Rattle.std.proofs.Common.{length, div-one, arith}
use native.Mathlib.Nat.{sub_self}
use Rattle.manual.proofs.Numbers.{store_none, store_more, store-left}
use Rattle.num.proofs.store_be.Goals as goal

-- the invariant: from `i` on the part holds the lowest bytes of `v`, and `x` is what is left of `v`
pub loop-i-init : goal.loop-i-init
loop-i-init c = (omega arith, store_none c.args.part.now c.args.v, simp (sub_self, div-one))

pub loop-i-preserved : goal.loop-i-preserved
loop-i-preserved c = let p = c.args.part.now in
    let v = c.args.v in
    let l = c.loop-i in (
      omega arith,
      rw (l.invariant.1, l.invariant.2) (store_more p v l.i (omega arith) l.invariant.0),
      rw l.invariant.2 (store-left (length p) v l.i (omega arith) l.invariant.0),
    )
