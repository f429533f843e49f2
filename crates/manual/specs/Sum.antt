-- How the access test sums in 64 bits: a whole number as an offset, where it is one.
use Rattle.std.specs.Prelude.{ℕ, ◌^◌, cond, ltb, ℤ, pos, negsuc, Option, Some, None}
use Rattle.std.proofs.Math.IntN.{sub_ℕ}
use Rattle.manual.specs.declared.Offset.{Offset}

unfoldable pub offset_of : ℤ → Option Offset
offset_of (pos o) = cond (ltb o (2 ^ 64)) (Some (record { 0 = o })) None
offset_of (negsuc k) = None

unfoldable pub net : ℕ → ℕ → Option Offset
net up down = offset_of (sub_ℕ up down)
