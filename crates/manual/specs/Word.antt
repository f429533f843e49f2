-- The fields of an instruction word (01, "Instruction words").
use Rattle.std.specs.Prelude.{ℕ, ◌-◌, ◌*◌, ◌/◌, ◌%◌, ◌^◌}
use Rattle.manual.specs.Number.{extend_from}

-- bits 31..26
abbrev pub major : ℕ → ℕ
major w = w / 2 ^ 26

-- bits 25..21, 20..16, 15..11 and 10..6: a register, or the number of an instruction
abbrev pub field25 : ℕ → ℕ
field25 w = w / 2 ^ 21 % 32

abbrev pub field20 : ℕ → ℕ
field20 w = w / 2 ^ 16 % 32

abbrev pub field15 : ℕ → ℕ
field15 w = w / 2 ^ 11 % 32

abbrev pub field10 : ℕ → ℕ
field10 w = w / 2 ^ 6 % 32

-- operands fill 20..16, 15..11, 10..6: what so many of them leave below
abbrev pub below : ℕ → ℕ → ℕ
below operands w = w % 2 ^ (21 - 5 * operands)

-- a signed field of so many bits, in 64 bits
abbrev pub extended : ℕ → ℕ → ℕ
extended bits x = extend_from (2 ^ (bits - 1)) x

-- bits 10..3, 10..0 and 15..0, signed
abbrev pub signed8 : ℕ → ℕ
signed8 w = extended 8 (w / 2 ^ 3 % 2 ^ 8)

abbrev pub signed11 : ℕ → ℕ
signed11 w = extended 11 (w % 2 ^ 11)

abbrev pub signed16 : ℕ → ℕ
signed16 w = extended 16 (w % 2 ^ 16)
