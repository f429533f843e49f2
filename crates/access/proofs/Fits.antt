-- The answer of an access that fits. Assumes nothing.
use Rattle.std.specs.Prelude.{Ok, Err}
use Prim.Native.Nat.{ℕ, ◌+◌, ◌^◌, ◌≤◌}
use mathlib.Core.Path.{◌≡◌}
use mathlib.Core.Bool.{Bool, false, cond}
use native.Mathlib.Omega.{arith}
use borrow.Author.Tests.{ltb-false}
use lib.Dec.{ltb}
use Rattle.manual.specs.declared.Address.{Address}
use Rattle.manual.specs.declared.Offset.{Offset}
use Rattle.manual.specs.declared.Size.{Size}
use Rattle.manual.specs.declared.Unfit.{Unfit}
use Rattle.manual.specs.Number.{address_at, bytes_in}
use Rattle.manual.specs.Access.{aligned, placed_at}
use Rattle.manual.proofs.Numbers.{some_bytes}
use Rattle.manual.proofs.Sums.{fitting, exact, answer}

pub fits : (a base : Address) (o : Offset) (length : ℕ) (size : Size) (t : Bool) → a ≡ address_at base o → t ≡ aligned a.0 (bytes_in size)
    → o.0 + bytes_in size ≤ length → ltb (2 ^ 64) (base.0 + (o.0 + bytes_in size)) ≡ false
    → cond t (Ok a) (Err Unfit.Misaligned) ≡ placed_at base.0 length o.0 (bytes_in size)
fits a base o length size t e f h k =
    let top : base.0 + (o.0 + bytes_in size) ≤ 2 ^ 64 = omega (arith, ltb-false, k) in
    fitting _ _ _ _ h top (answer a _ _ t (exact a base o (bytes_in size) e top (some_bytes size)) f)
