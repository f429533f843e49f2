-- Fetch (01, "Access and fetch").
use Rattle.std.specs.Prelude.{ℕ, ◌%◌, ◌^◌, Bool, cond, not, ◌&&◌, List, Result, Option, Ok, Err, Some, None}
use Rattle.manual.specs.Place.{load_of}
use Rattle.manual.specs.declared.Cap.{Cap}
use Rattle.manual.specs.Cap.{permits, EXECUTE}
use Rattle.manual.specs.Access.{access_of, placed}
use Rattle.manual.specs.Decode.{is_jump_word}
use Rattle.manual.specs.declared.Fault.{Fault}
use Rattle.manual.specs.Checks.{lacking, TAG, SEAL, NO_REGISTER}
use Rattle.manual.specs.declared.Address.{Address}

abbrev pub word_in : Option ℕ → Result ℕ Fault
word_in (Some v) = Ok (v % 2 ^ 32)
word_in None = Err Fault.Nowhere

-- Length unless PC + 4 <= length and base + PC + 4 <= 2^64; then alignment to 4; then memory
abbrev pub fetch_at : List ℕ → List ℕ → Result Address Fault → Result ℕ Fault
fetch_at flash ram (Ok a) = word_in (load_of flash ram a 4)
fetch_at flash ram (Err fault) = Err fault

abbrev pub must : Bool → ℕ → Result ℕ Fault → Result ℕ Fault
must holds cause rest = cond holds rest (Err (Fault.Raise cause NO_REGISTER))

-- PCC's offset is the PC. In order: tag, seal, Permit_Execute, and the access of four bytes at it
unfoldable pub fetch_of : List ℕ → List ℕ → Cap → Result ℕ Fault
fetch_of flash ram pcc =
    must pcc.tag TAG
    (must (not pcc.sealed) SEAL
    (must (permits pcc EXECUTE) (lacking EXECUTE)
    (fetch_at flash ram (placed (access_of pcc 0 0 4) NO_REGISTER Fault.Misaligned))))

abbrev pub word_of : Result ℕ Fault → ℕ
word_of (Ok w) = w
word_of (Err fault) = 0

-- a word of a major opcode that no instruction has
abbrev pub RESERVED : ℕ
RESERVED = 2 ^ 26

-- the word of a step: fetch, then 7, then the word; a reserved one where the step stops before it
abbrev pub ahead_of : Bool → Result ℕ Fault → ℕ
ahead_of slot (Err fault) = RESERVED
ahead_of slot (Ok w) = cond (slot && is_jump_word w) RESERVED w
