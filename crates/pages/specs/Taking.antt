-- Registers as bytes taken as a machine again, and its book written.
use Rattle.std.specs.Prelude.{ℕ, List, [], Result, Ok, Err}
use Rattle.manual.specs.declared.Machine.{Machine}
use Rattle.pages.specs.Enter.{judged, read_book}
use Rattle.pages.specs.Write.{Wrote, refused, write_book}
use Rattle.manual.specs.declared.Refusal.{Refusal}

-- the registers are read as a book for no flash and no RAM, which has no line; only where they are accepted is there a machine to write
abbrev pub written_by : Result (Unit {0}) Refusal → Machine → List ℕ → List ℕ → List ℕ → Wrote
written_by (Ok _) m ram tags book = write_book m ram tags book
written_by (Err refusal) m ram tags book = refused refusal book

unfoldable pub write_from : List ℕ → List ℕ → List ℕ → List ℕ → Wrote
write_from registers ram tags book = written_by (judged registers 0 0 0) (read_book registers 0 [] []).machine ram tags book
