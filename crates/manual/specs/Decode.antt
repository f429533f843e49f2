-- Which instruction a word is (01, "Instruction words").
use Rattle.std.specs.Prelude.{ℕ, ◌*◌, ◌/◌, ◌%◌, ◌^◌, List, [], ◌∷◌, Bool, true, false, cond, ◌&&◌, eqb, leb}
use Rattle.manual.specs.declared.Size.{Size}
use Rattle.manual.specs.declared.Size.TheVariants.{One, Two, Four, Eight}
use Rattle.manual.specs.Word.{major, field25, field10, below, extended, signed8, signed11, signed16}
use Rattle.manual.specs.declared.Alu.TheVariants.{Daddu, Dsubu, And, Or, Xor, Slt, Sltu, Dsllv, Dsrlv}
use Rattle.manual.specs.declared.Field.TheVariants.{Base, Length, Offset, Perms, Tag, Sealed, Otype}
use Rattle.manual.specs.declared.Compare.TheVariants.{Eq, Ne, Lt, Le, Ltu, Leu}
use Rattle.manual.specs.declared.Instr.{Instr}
use Rattle.manual.specs.declared.Instr.TheVariants.{Reserved, Nop, Break, Compute, ComputeImmediate, Lui, Branch, Load, Store, LoadByC0, StoreByC0, LoadCapability, StoreCapability, Get, GetPcc, GetCause, SetCause, AndPerm, ClearTag, IncBase, SetLength, SetOffset, IncOffset, FromPtr, ToPtr, Seal, Unseal, CheckPerm, CheckType, Jr, Jalr, BranchTag, Call, Return, PtrCompare}

-- rows of a number and what it names
abbrev pub Table : Type 0 → Type 0
Table A = List (ℕ × A)

-- what a number names in a table, and `other` where no row has it
unfoldable pub lookup : {A : Type 0} → A → ℕ → Table A → A
lookup other n [] = other
lookup other n (row ∷ rows) = cond (eqb n row.0) row.1 (lookup other n rows)

-- any other word is reserved
abbrev pub decoded : ℕ → Table Instr → Instr
decoded n rows = lookup Reserved n rows

-- and so is one with a non-zero unused field
unfoldable pub if_zero : ℕ → Instr → Instr
if_zero field i = cond (eqb field 0) i Reserved

-- major opcode 0, by the function in 5..0
unfoldable pub operations : Table Instr
operations =
    (0x14, Compute Dsllv)
    ∷ (0x16, Compute Dsrlv)
    ∷ (0x24, Compute And)
    ∷ (0x25, Compute Or)
    ∷ (0x26, Compute Xor)
    ∷ (0x2a, Compute Slt)
    ∷ (0x2b, Compute Sltu)
    ∷ (0x2d, Compute Daddu)
    ∷ (0x2f, Compute Dsubu)
    ∷ []

-- NOP is the zero word only; BREAK's code field is free; an operation has zeros in 10..6
unfoldable pub special_word : ℕ → Instr
special_word w =
    lookup (if_zero (field10 w) (decoded (w % 2 ^ 6) operations)) (w % 2 ^ 6)
    ((0x00, if_zero w Nop) ∷ (0x0d, Break) ∷ [])

-- the size code t in 1..0
unfoldable pub coded_size : ℕ → Size
coded_size t = lookup Eight t ((0, One) ∷ (1, Two) ∷ (2, Four) ∷ [])

-- major opcode 50: bit 2 set means sign-extend; with t 3 it is reserved
unfoldable pub load_word : ℕ → ℕ → Instr
load_word w offset = cond (eqb (w % 2 ^ 3) 0b111) Reserved (Load (coded_size (w % 2 ^ 2)) (eqb (w / 2 ^ 2 % 2) 1) offset)

-- major opcode 58: bit 2 set is reserved
unfoldable pub store_word : ℕ → ℕ → Instr
store_word w offset = if_zero (w / 2 ^ 2 % 2) (Store (coded_size (w % 2 ^ 2)) offset)

-- CPtrCmp's kind is in 2..0
unfoldable pub kinds : Table Instr
kinds =
    (0, PtrCompare Eq)
    ∷ (1, PtrCompare Ne)
    ∷ (2, PtrCompare Lt)
    ∷ (3, PtrCompare Le)
    ∷ (4, PtrCompare Ltu)
    ∷ (5, PtrCompare Leu)
    ∷ []

-- major opcode 18, by the number in 25..21
unfoldable pub numbers : ℕ → ℕ → Table Instr
numbers w count =
    (0, Get Base)
    ∷ (1, Get Length)
    ∷ (2, Get Offset)
    ∷ (3, Get Perms)
    ∷ (4, Get Tag)
    ∷ (5, Get Sealed)
    ∷ (6, Get Otype)
    ∷ (7, GetPcc)
    ∷ (8, GetCause)
    ∷ (9, SetCause)
    ∷ (10, AndPerm)
    ∷ (11, ClearTag)
    ∷ (12, IncBase)
    ∷ (13, SetLength)
    ∷ (14, SetOffset)
    ∷ (15, IncOffset)
    ∷ (16, FromPtr)
    ∷ (17, ToPtr)
    ∷ (18, Seal)
    ∷ (19, Unseal)
    ∷ (20, CheckPerm)
    ∷ (21, CheckType)
    ∷ (22, Jr)
    ∷ (23, Jalr)
    ∷ (24, BranchTag false count)
    ∷ (25, BranchTag true count)
    ∷ (26, Call)
    ∷ (27, Return)
    ∷ (28, decoded (w % 2 ^ 3) kinds)
    ∷ []

-- its unused field, by 004's Format lines: below two operands, but for these numbers
unfoldable pub unused : ℕ → ℕ → ℕ
unused n w =
    lookup (below 2 w) n
    ((7, below 1 w) ∷ (8, below 1 w) ∷ (9, below 1 w) ∷ (22, below 1 w)
    ∷ (10, below 3 w) ∷ (12, below 3 w) ∷ (13, below 3 w) ∷ (14, below 3 w) ∷ (15, below 3 w)
    ∷ (16, below 3 w) ∷ (17, below 3 w) ∷ (18, below 3 w) ∷ (19, below 3 w)
    ∷ (24, 0) ∷ (25, 0) ∷ (27, below 0 w) ∷ (28, w / 2 ^ 3 % 2 ^ 3) ∷ [])

unfoldable pub capability_word : ℕ → ℕ → Instr
capability_word w count = if_zero (unused (field25 w) w) (decoded (field25 w) (numbers w count))

-- by the major opcode: MIPS's in hexadecimal, 01's own in decimal
unfoldable pub majors : ℕ → Table Instr
majors w =
    (0x00, special_word w)
    ∷ (0x04, Branch true (signed16 w))
    ∷ (0x05, Branch false (signed16 w))
    ∷ (0x0c, ComputeImmediate And (w % 2 ^ 16))
    ∷ (0x0d, ComputeImmediate Or (w % 2 ^ 16))
    ∷ (0x0f, if_zero (field25 w) (Lui (extended 32 (w % 2 ^ 16 * 2 ^ 16))))
    ∷ (18, capability_word w (signed16 w))
    ∷ (0x19, ComputeImmediate Daddu (signed16 w))
    ∷ (0x24, LoadByC0 One (signed16 w))
    ∷ (0x28, StoreByC0 One (signed16 w))
    ∷ (50, load_word w (signed8 w))
    ∷ (54, LoadCapability (signed11 w))
    ∷ (0x37, LoadByC0 Eight (signed16 w))
    ∷ (58, store_word w (signed8 w))
    ∷ (62, StoreCapability (signed11 w))
    ∷ (0x3f, StoreByC0 Eight (signed16 w))
    ∷ []

unfoldable pub decode_word : ℕ → Instr
decode_word w = decoded (major w) (majors w)

-- BEQ, BNE, and of major opcode 18 CJR, CJALR, CBTU and CBTS, even with a non-zero unused field
unfoldable pub is_jump_word : ℕ → Bool
is_jump_word w =
    lookup false (major w)
    ((0x04, true) ∷ (0x05, true) ∷ (18, leb 22 (field25 w) && leb (field25 w) 25) ∷ [])
