-- The arithmetic of the MIPS instructions, on 64 bits (MIPS64 manual).
use Rattle.std.specs.Prelude.{ℕ, ◌*◌, ◌/◌, ◌%◌, ◌^◌, Bool, ltb}
use Rattle.std.specs.Int.Bits.{bit_and, bit_or, bit_xor}
use Rattle.manual.specs.Number.{plus_mod, minus_mod}
use Rattle.manual.specs.Store.{bit}
use Rattle.manual.specs.declared.Alu.{Alu}

-- the order of signed numbers turns at 2^63: both are moved up by it
unfoldable pub signed_less : ℕ → ℕ → Bool
signed_less a b = ltb (plus_mod a (2 ^ 63)) (plus_mod b (2 ^ 63))

-- shift amounts are the low 6 bits of rs (ruling A26)
unfoldable pub compute_of : Alu → ℕ → ℕ → ℕ
compute_of Alu.Daddu rs rt = plus_mod rs rt
compute_of Alu.Dsubu rs rt = minus_mod rs rt
compute_of Alu.And rs rt = bit_and rs rt
compute_of Alu.Or rs rt = bit_or rs rt
compute_of Alu.Xor rs rt = bit_xor rs rt
compute_of Alu.Slt rs rt = bit (signed_less rs rt)
compute_of Alu.Sltu rs rt = bit (ltb rs rt)
compute_of Alu.Dsllv rs rt = rt * 2 ^ (rs % 64) % 2 ^ 64
compute_of Alu.Dsrlv rs rt = rt / 2 ^ (rs % 64)
