-- The bench examples that are proved (01, "Bench examples", the cases marked P): each a row of a book, a flash and what the bench prints.
use Rattle.std.specs.Prelude.{ℕ, ◌+◌, ◌-◌, ◌*◌, ◌/◌, ◌^◌, true, false, List, [], ◌∷◌, ◌++◌, map, length, replicate, set}
use Rattle.manual.specs.Number.{LINE, to_be}
use Rattle.manual.specs.Place.{RAM_BASE}
use Rattle.manual.specs.declared.Cap.{Cap}
use Rattle.manual.specs.Cap.{EXECUTE, LOAD, STORE}
use Rattle.manual.specs.Narrow.{set_length, set_offset, with_range}
use Rattle.manual.specs.Checks.{LENGTH, TAG, NO_REGISTER}
use Rattle.pages.specs.Compose.{record_of, cap_body, general_body, line_body}
use Rattle.manual.specs.declared.Answer.{Answer}

pub record Row : Type 0 where
  pub book : List ℕ
  pub flash : List ℕ
  pub answer : Answer

-- stop or refusal, cause code, register, place, steps
abbrev pub prints : ℕ → ℕ → ℕ → ℕ → ℕ → Answer
prints stop cause register place steps = record { stop = stop; cause = cause; register = register; place = place; steps = steps }

-- parts one after the other
abbrev pub joined : List (List ℕ) → List ℕ
joined [] = []
joined (part ∷ parts) = part ++ joined parts

-- byte 0 is version 1, then the records
abbrev pub book_of : List (List ℕ) → List ℕ
book_of records = 1 ∷ joined records

-- words of 4 bytes, and zeros up to F = 32
abbrev pub flash_of : List ℕ → List ℕ
flash_of words = joined (map (to_be 4) words) ++ replicate (32 - 4 * length words) 0

-- a capability that is tagged and not sealed
abbrev pub granting : ℕ → ℕ → ℕ → Cap
granting base length perms =
    record { tag = true; sealed = false; perms = perms; otype = 0; spare = 0; base = record { 0 = base }; length = length; offset = record { 0 = 0 } }

-- cap A has base 1,048,576, length 64, offset 0, Load and Store
abbrev pub cap_a : Cap
cap_a = granting 1048576 64 (2 ^ LOAD + 2 ^ STORE)

-- A with another offset, another length, another range
abbrev pub offset_a : ℕ → Cap
offset_a offset = set_offset cap_a (record { 0 = offset })

abbrev pub length_a : ℕ → Cap
length_a length = set_length cap_a length

abbrev pub range_a : ℕ → ℕ → Cap
range_a base length = with_range cap_a (record { 0 = base }) length

-- n below zero, in 64 bits
abbrev pub minus : ℕ → ℕ
minus n = 2 ^ 64 - n

-- the records of a register: a capability register, PCC over so many bytes from 0 on, a general register
abbrev pub capability : ℕ → Cap → List ℕ
capability number c = record_of (cap_body number c)

abbrev pub pcc : ℕ → List ℕ
pcc length = capability 32 (granting 0 length (2 ^ EXECUTE))

abbrev pub general : ℕ → ℕ → List ℕ
general number value = record_of (general_body number value)

-- and of the line of RAM in which a byte holds a value, all its others 0
abbrev pub ram_byte : ℕ → ℕ → List ℕ
ram_byte index value = record_of (line_body (RAM_BASE + index / LINE * LINE) false (set (replicate LINE 0) (index - index / LINE * LINE) value))

-- major opcode 50: register 25..21, cb 20..16, rt 15..11, byte offset 10..3, size code 1..0; here r2, C1 and r3
abbrev pub load_word : ℕ → ℕ → ℕ
load_word index size = 50 * 2 ^ 26 + 2 * 2 ^ 21 + 1 * 2 ^ 16 + 3 * 2 ^ 11 + index * 2 ^ 3 + size

abbrev pub BYTE : ℕ
BYTE = 0

abbrev pub DOUBLEWORD : ℕ
DOUBLEWORD = 3

abbrev pub NOP : ℕ
NOP = 0x00000000

abbrev pub BREAK : ℕ
BREAK = 0x0000000D

-- BEQ r2, r4: so many words past its slot
abbrev pub beq_word : ℕ → ℕ
beq_word count = 0x04 * 2 ^ 26 + 2 * 2 ^ 21 + 4 * 2 ^ 16 + count

-- one load of this size by C1, r3 being rt, at an index; a load that passes comes to the BREAK after it
abbrev pub loads : ℕ → Cap → ℕ → ℕ → Answer → Row
loads size c rt index answer =
    record { book = book_of (capability 1 c ∷ pcc 32 ∷ general 3 rt ∷ []); flash = flash_of (load_word index size ∷ BREAK ∷ []); answer = answer }

-- the load reads this byte: that byte alone holds 90, as r4 does, and only where they are equal the run comes to the BREAK at 16
abbrev pub reads : ℕ → Cap → ℕ → Row
reads index c rt =
    record {
      book = book_of (capability 1 c ∷ pcc 32 ∷ general 3 rt ∷ general 4 90 ∷ ram_byte index 90 ∷ []);
      flash = flash_of (load_word 0 BYTE ∷ beq_word 2 ∷ NOP ∷ BREAK ∷ BREAK ∷ []);
      answer = prints 8 0 0 16 3;
    }

-- 01 says of index 56 that it passes: the load is made, and the BREAK after it stops the run
abbrev pub passes : Answer
passes = prints 8 0 0 4 1

-- Length, naming C1, at the first word
abbrev pub raises_length : Answer
raises_length = prints 1 LENGTH 1 0 0

unfoldable pub table : List Row
table =
    -- book `01`, no flash: `1 2 255 0 0`
    record { book = 1 ∷ []; flash = []; answer = prints 1 TAG NO_REGISTER 0 0 }
    -- PCC base 0, length 4, Execute; flash all zero, F = 32: `1 1 255 4 1`
    ∷ record { book = book_of (pcc 4 ∷ []); flash = flash_of []; answer = prints 1 LENGTH NO_REGISTER 4 1 }
    -- the same with length 8 and words 0, 0x0000000D: `8 0 0 4 1`
    ∷ record { book = book_of (pcc 8 ∷ []); flash = flash_of (NOP ∷ BREAK ∷ []); answer = prints 8 0 0 4 1 }
    -- doubleword load by A at index 56 passes; at 57 Length, although misaligned too; at 52 stop 2
    ∷ loads DOUBLEWORD cap_a 0 56 passes
    ∷ loads DOUBLEWORD cap_a 0 57 raises_length
    ∷ loads DOUBLEWORD cap_a 0 52 (prints 2 0 0 0 0)
    -- byte load, A with offset 60 and rt -8, reads byte 52
    ∷ reads 52 (offset_a 60) (minus 8)
    -- offset 0, rt -1: Length
    ∷ loads BYTE (offset_a 0) (minus 1) 0 raises_length
    -- offset 2^64-8, rt 8: Length
    ∷ loads BYTE (offset_a (minus 8)) 8 0 raises_length
    -- A with length 0, byte at 0: Length
    ∷ loads BYTE (length_a 0) 0 0 raises_length
    -- base 2^64-8, length 8, doubleword at 0: stop 5
    ∷ loads DOUBLEWORD (range_a (minus 8) 8) 0 0 (prints 5 0 0 0 0)
    ∷ []
