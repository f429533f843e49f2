-- What the library claims beside each answer: what pommerzil_read hands out, pommerzil_write takes.
use Rattle.std.specs.Prelude.{ℕ, ◌≡◌, List, length, Ok}
use Rattle.manual.specs.Number.{Bytes}
use Rattle.pages.specs.Enter.{judged, read_book}
use Rattle.pages.specs.Write.{write_book}
use Rattle.pages.specs.Registers.{registers_of}
use Rattle.pages.specs.Taking.{write_from}

-- of every book that is accepted, beside whatever RAM, tags and buffer: the registers that were handed out are written as the machine that was read
abbrev pub HandedOutIsTaken : Type 0
HandedOutIsTaken =
    (book : List ℕ) (flash : ℕ) (ram tags : List ℕ) → Bytes book → judged book flash (length ram) (length tags) ≡ Ok tt
    → (ram' tags' out : List ℕ)
    → write_from (registers_of (read_book book flash ram tags).machine) ram' tags' out ≡ write_book (read_book book flash ram tags).machine ram' tags' out
