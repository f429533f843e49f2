-- A start book read: a machine and its memories where it is accepted, nothing where it is refused (01, "The start book").
use Rattle.std.specs.Prelude.{ℕ, cond, List, length, replicate, Result, Ok, Err}
use Rattle.manual.specs.Accept.{sizes_fit}
use Rattle.manual.specs.declared.Refusal.{Refusal}
use Rattle.pages.specs.Book.{check_book}
use Rattle.pages.specs.Entering.{Start, enter_book, bare}

-- 20 (all three sizes); then the book's own refusals
unfoldable pub judged : List ℕ → ℕ → ℕ → ℕ → Result (Unit {0}) Refusal
judged book flash ram tags = cond (sizes_fit flash ram tags) (check_book book ram) (Err Refusal.Sizes)

-- an accepted book sets all of RAM and all tags: lines not named are zero and untagged;
-- a refusal changes no RAM or tag byte and gives the all-zero machine
abbrev pub start_as : Result (Unit {0}) Refusal → List ℕ → List ℕ → List ℕ → Start
start_as (Ok _) book ram tags = enter_book book (bare (replicate (length ram) 0) (replicate (length tags) 0))
start_as (Err refusal) book ram tags = bare ram tags

unfoldable pub read_book : List ℕ → ℕ → List ℕ → List ℕ → Start
read_book book flash ram tags = start_as (judged book flash (length ram) (length tags)) book ram tags
