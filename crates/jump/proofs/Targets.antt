-- Where a branch or a jump leads: exact sums and alignment. Assumes nothing.
use Prim.Native.Nat.{ℕ, ◌+◌, ◌%◌, ◌^◌}
use mathlib.Core.Path.{◌≡◌, ap}
use native.Mathlib.Omega.{arith}
use lib.Dec.{eqb}
use Rattle.manual.specs.Number.{plus_mod, address_at}
use Rattle.manual.specs.declared.Address.{Address}
use Rattle.manual.specs.declared.Offset.{Offset}
use Rattle.manual.specs.Access.{aligned}

-- an address mod 2^64 is aligned as the exact sum is
pub aligned_at : (a base : Address) (o : Offset) → a ≡ address_at base o → aligned a.0 4 ≡ aligned (base.0 + o.0) 4
unfolding plus_mod
aligned_at a base o e =
    let f : a.0 ≡ (base.0 + o.0) % 2 ^ 64 = ap (λ (x : Address). x.0) e in
    let g : a.0 % 4 ≡ (base.0 + o.0) % 4 = omega arith in
    ap (λ (n : ℕ). eqb n 0) g
