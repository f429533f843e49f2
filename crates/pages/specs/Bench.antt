-- The bench's answer for a book and a flash (01, "Bench examples").
use Rattle.std.specs.Prelude.{ℕ, ◌/◌, Bool, cond, ◌&&◌, List, [], ◌∷◌, length, eqb, leb}
use Rattle.manual.specs.Number.{LINE}
use Rattle.manual.specs.declared.Refusal.{Refusal}
use Rattle.manual.specs.Told.{refusing}
use Rattle.pages.specs.Answer.{Benched, book_run}

-- 32,768 bytes of RAM and a budget of 1,000
abbrev pub BENCH_RAM : ℕ
BENCH_RAM = 32768

abbrev pub BUDGET : ℕ
BUDGET = 1000

-- the largest file
abbrev pub FILE_MOST : ℕ
FILE_MOST = 65536

-- all of them, and one tag for each line of RAM
abbrev pub bench_numbers : List ℕ
bench_numbers = BENCH_RAM ∷ BENCH_RAM / LINE ∷ FILE_MOST ∷ BUDGET ∷ []

-- a file over 65,536 bytes is 20 (a flash over it is of a wrong size in any case), and so is a RAM that is not the bench's
abbrev pub bench_fits : ℕ → ℕ → Bool
bench_fits book ram = leb book FILE_MOST && eqb ram BENCH_RAM

unfoldable pub bench_of : List ℕ → List ℕ → List ℕ → List ℕ → Benched
bench_of book flash ram tags =
    cond (bench_fits (length book) (length ram)) (book_run BUDGET book flash ram tags)
    (record { answer = refusing Refusal.Sizes; ram = ram; tags = tags })
