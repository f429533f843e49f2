-- What a book that was read leaves in the buffers. Assumes nothing.
use Rattle.std.specs.Prelude.{Result}
use Prim.Native.Nat.{ℕ, ◌≤◌}
use mathlib.Core.Path.{◌≡◌, ◌∙◌, ap}
use mathlib.Core.List.{List}
use borrow.Author.Tests.{le-leb}
use lib.ListN.{length}
use Rattle.manual.specs.Store.{put}
use Rattle.manual.specs.declared.Machine.{Machine}
use Rattle.manual.specs.Told.{verdict_number, over}
use Rattle.pages.specs.Enter.{judged, read_book}
use Rattle.pages.specs.Registers.{REGISTERS, registers_of}
use Rattle.pages.proofs.Registers.{registers_front}
use Rattle.pages.specs.Handing.{read_into}
use Rattle.manual.specs.declared.Refusal.{Refusal}

-- a book that was read, and its registers put
module _ (book : List ℕ) (flash : ℕ) (ram tags registers : List ℕ) (room : REGISTERS ≤ length registers) (v : Result (Unit {0}) Refusal) (m : Machine) (ram' tags' registers' : List ℕ) (code : ℕ)
    (ev : v ≡ judged book flash (length ram) (length tags))
    (em : m ≡ (read_book book flash ram tags).machine)
    (er : ram' ≡ (read_book book flash ram tags).ram)
    (et : tags' ≡ (read_book book flash ram tags).tags)
    (eg : registers' ≡ put registers 0 (registers_of m))
    (ec : code ≡ verdict_number v) where
  pub started : (code ≡ (read_into book flash ram tags registers).code) × ((ram' ≡ (read_into book flash ram tags registers).ram)
      × ((tags' ≡ (read_into book flash ram tags registers).tags) × (registers' ≡ (read_into book flash ram tags registers).registers)))
  unfolding read_into
  started =
      rw (le-leb REGISTERS (length registers) room)
      (ec ∙ ap verdict_number ev, (er, (et, eg ∙ registers_front m registers room ∙ ap (λ (x : Machine). over (registers_of x) registers) em)))
