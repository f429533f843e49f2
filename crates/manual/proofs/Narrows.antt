-- The laws of derived capabilities. Assumes nothing.
use Prim.Native.Nat.{◌+◌, ◌%◌, ◌^◌}
use mathlib.Core.Path.{◌≡◌, refl, ap}
use native.Mathlib.Omega.{arith}
use Rattle.manual.specs.Number.{plus_mod, minus_mod, address_at}
use Rattle.manual.specs.declared.Address.{Address}
use Rattle.manual.specs.declared.Offset.{Offset}
use Rattle.manual.specs.Claims.{TopIsEmpty}
use Rattle.manual.specs.Narrow.{inc_base}

-- the type that an address gives
pub type_of : (a base : Address) (o : Offset) → a ≡ address_at base o → a.0 % 2 ^ 24 ≡ (base.0 + o.0) % 2 ^ 24
unfolding plus_mod
type_of a base o e = let f : a.0 ≡ (base.0 + o.0) % 2 ^ 64 = ap (λ (x : Address). x.0) e in omega arith

-- the range that ends at 2^64, narrowed to nothing
pub top_is_empty : TopIsEmpty
unfolding inc_base plus_mod minus_mod
top_is_empty c b n = rw (b, n) (refl, refl)
