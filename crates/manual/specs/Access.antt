-- The test of an access, over whole numbers (01, "Access and fetch").
use Rattle.std.specs.Prelude.{ℕ, suc, ◌+◌, ◌-◌, ◌%◌, ◌^◌, Bool, cond, ◌&&◌, ltb, leb, eqb, ℤ, pos, negsuc, ◌+ℤ◌, Result, Ok, Err}
use Rattle.manual.specs.declared.Cap.{Cap}
use Rattle.manual.specs.declared.Address.{Address}
use Rattle.manual.specs.declared.Unfit.{Unfit}
use Rattle.manual.specs.declared.Fault.{Fault}
use Rattle.manual.specs.Checks.{LENGTH}

-- the signed number that 64 bits say
unfoldable pub signed : ℕ → ℤ
signed n = cond (ltb n (2 ^ 63)) (pos n) (negsuc (2 ^ 64 - suc n))

-- with rt and the immediate signed, o = cb.offset + rt + immediate, an exact sum
unfoldable pub sum_of : ℕ → ℕ → ℕ → ℤ
sum_of offset rt immediate = pos offset +ℤ signed rt +ℤ signed immediate

-- o >= 0, o + size <= length and base + o + size <= 2^64
abbrev pub fits : ℕ → ℕ → ℕ → ℕ → Bool
fits base length o size = leb (o + size) length && leb (base + o + size) (2 ^ 64)

-- of the address, not of the offset
abbrev pub aligned : ℕ → ℕ → Bool
aligned address size = eqb (address % size) 0

-- Length is raised unless it fits; then alignment of base + o to the size
unfoldable pub placed_at : ℕ → ℕ → ℕ → ℕ → Result Address Unfit
placed_at base length o size =
    cond (fits base length o size)
    (cond (aligned (base + o) size) (Ok (record { 0 = base + o })) (Err Unfit.Misaligned))
    (Err Unfit.Length)

unfoldable pub placed_from : ℕ → ℕ → ℤ → ℕ → Result Address Unfit
placed_from base length (pos o) size = placed_at base length o size
placed_from base length (negsuc k) size = Err Unfit.Length

unfoldable pub access_of : Cap → ℕ → ℕ → ℕ → Result Address Unfit
access_of c rt immediate size = placed_from c.base.0 c.length (sum_of c.offset.0 rt immediate) size

-- 01: Length, then alignment, then memory. Where the bytes lie is for memory to say; which stop misalignment gives, for the instruction.
-- The pages' tests leave out cb.offset; 01 counts it, and so does access_of.
abbrev pub placed : Result Address Unfit → ℕ → Fault → Result Address Fault
placed (Ok a) register fault = Ok a
placed (Err Unfit.Length) register fault = Err (Fault.Raise LENGTH register)
placed (Err Unfit.Misaligned) register fault = Err fault
