-- What the writer of a start book answers (01, "The start book").
use Rattle.std.specs.Prelude.{ℕ, Bool, cond, not, ◌&&◌, List, ◌++◌, length, get_or, drop, eqb, ltb, Result, Ok, Err}
use Rattle.manual.specs.Registers.{is_pending}
use Rattle.manual.specs.declared.Refusal.{Refusal}
use Rattle.manual.specs.Accept.{verdict_of}
use Rattle.manual.specs.declared.Machine.{Machine}
use Rattle.pages.specs.Spell.{book_of}

-- the answer, and the buffer then
pub record Wrote : Type 0 where
  pub written : Result ℕ Refusal
  pub out : List ℕ

-- a refusal writes nothing
abbrev pub refused : Refusal → List ℕ → Wrote
refused refusal out = record { written = Err refusal; out = out }

-- bytes past the book stay
abbrev pub wholly : List ℕ → List ℕ → Wrote
wholly book out = record { written = Ok (length book); out = book ++ drop (length book) out }

-- 35: a pending jump or a cause other than 0
abbrev pub rests : Machine → Bool
rests m = not (is_pending m.pending) && eqb m.cause 0

-- then 36: the book is longer than the buffer
unfoldable pub after_start : Machine → List ℕ → List ℕ → List ℕ → Wrote
after_start m ram tags out =
    cond (rests m)
    (cond (ltb (length out) (length (book_of m ram tags))) (refused Refusal.Room out) (wholly (book_of m ram tags) out))
    (refused Refusal.Waiting out)

abbrev pub after_verdict : Machine → List ℕ → List ℕ → List ℕ → Result (Unit {0}) Refusal → Wrote
after_verdict m ram tags out (Ok _) = after_start m ram tags out
after_verdict m ram tags out (Err refusal) = refused refusal out

-- 20 is tested of RAM and tags alone: the writer is lent no flash
unfoldable pub write_book : Machine → List ℕ → List ℕ → List ℕ → Wrote
write_book m ram tags out = after_verdict m ram tags out (verdict_of m.caps m.pcc m.pending (get_or m.general 0 0) 0 ram tags)
