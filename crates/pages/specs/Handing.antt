-- A book read for a reader outside: what is returned, and what is left in the buffers that are lent.
use Rattle.std.specs.Prelude.{ℕ, cond, List, length, leb}
use Rattle.manual.specs.declared.Refusal.{Refusal}
use Rattle.manual.specs.Told.{refusal_number, verdict_number, over}
use Rattle.pages.specs.Enter.{judged, read_book}
use Rattle.pages.specs.Registers.{REGISTERS, registers_of}

-- 36: what is to be written is longer than the buffer
abbrev pub NO_ROOM : ℕ
NO_ROOM = refusal_number Refusal.Room

-- pommerzil_read: what is returned, and the buffers then
pub record Read : Type 0 where
  pub code : ℕ
  pub ram : List ℕ
  pub tags : List ℕ
  pub registers : List ℕ

-- a refused book gives the all-zero machine, and changes no RAM or tag byte
unfoldable pub read_into : List ℕ → ℕ → List ℕ → List ℕ → List ℕ → Read
read_into book flash ram tags registers =
    cond (leb REGISTERS (length registers))
    (record {
      code = verdict_number (judged book flash (length ram) (length tags));
      ram = (read_book book flash ram tags).ram;
      tags = (read_book book flash ram tags).tags;
      registers = over (registers_of (read_book book flash ram tags).machine) registers;
    })
    (record { code = NO_ROOM; ram = ram; tags = tags; registers = registers })
