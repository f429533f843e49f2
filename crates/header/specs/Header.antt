-- What include/pommerzil.h says beside each answer: which numbers are returned, and how much room a book needs.
use Rattle.std.specs.Prelude.{ℕ, ◌+◌, ◌*◌, ◌/◌, ◌≤◌, ◌≡◌, Bool, true, false, ◌||◌, List, [], ◌∷◌, length, eqb}
use Rattle.manual.specs.Number.{LINE, Bytes}
use Rattle.pages.specs.Handing.{NO_ROOM, read_into}
use Rattle.manual.specs.Told.{code_of}
use Rattle.pages.specs.Taking.{write_from}
use Rattle.pages.specs.Exported.{run_into}

unfoldable pub listed : ℕ → List ℕ → Bool
listed n [] = false
listed n (m ∷ ms) = eqb n m || listed n ms

-- the numbers of a run, 0 to 8, and those of a book and of a buffer without room
abbrev pub RUN_NUMBERS : List ℕ
RUN_NUMBERS = 0 ∷ 1 ∷ 2 ∷ 3 ∷ 4 ∷ 5 ∷ 6 ∷ 7 ∷ 8 ∷ 20 ∷ 22 ∷ 30 ∷ 31 ∷ 32 ∷ 33 ∷ 34 ∷ 36 ∷ []

abbrev pub READ_NUMBERS : List ℕ
READ_NUMBERS = 0 ∷ 20 ∷ 22 ∷ 30 ∷ 31 ∷ 32 ∷ 33 ∷ 34 ∷ 36 ∷ []

abbrev pub WRITE_NUMBERS : List ℕ
WRITE_NUMBERS = 0 ∷ 20 ∷ 21 ∷ 22 ∷ 30 ∷ 31 ∷ 32 ∷ 33 ∷ 34 ∷ 36 ∷ []

-- whatever the bytes, the sizes and the budget: a book that is accepted is run, never refused with 21 or 24
abbrev pub RunNumbers : Type 0
RunNumbers = (budget : ℕ) (book flash ram tags answer : List ℕ) → listed (run_into budget book flash ram tags answer).code RUN_NUMBERS ≡ true

abbrev pub ReadNumbers : Type 0
ReadNumbers = (book : List ℕ) (flash : ℕ) (ram tags registers : List ℕ) → listed (read_into book flash ram tags registers).code READ_NUMBERS ≡ true

-- neither 24 nor 35: registers that are bytes say no field past its width, no pending jump and no cause
abbrev pub WriteNumbers : Type 0
WriteNumbers = (registers ram tags book : List ℕ) → Bytes registers → listed (code_of (write_from registers ram tags book).written) WRITE_NUMBERS ≡ true

-- POMMERZIL_BOOK_BYTES: the version, 33 capability and 31 general registers, and every line
abbrev pub BOOK_BYTES : ℕ → ℕ
BOOK_BYTES ram = 1627 + ram / LINE * 44

-- a buffer of so many bytes has room for every book of a RAM of this size
abbrev pub RoomForEvery : Type 0
RoomForEvery =
    (registers ram tags book : List ℕ) → BOOK_BYTES (length ram) ≤ length book → eqb (code_of (write_from registers ram tags book).written) NO_ROOM ≡ false
