-- A book that the writer wrote is one that the reader accepts, and it gives back what was written.
use Rattle.std.specs.Prelude.{ℕ, ◌^◌, ◌<◌, ◌≡◌, true, List, length, get_or, take, Ok}
use Rattle.manual.specs.Place.{memory_fits}
use Rattle.manual.specs.declared.Cap.{Cap}
use Rattle.manual.specs.Narrow.{null}
use Rattle.manual.specs.declared.Machine.{Machine}
use Rattle.pages.specs.Book.{check_book}
use Rattle.pages.specs.Enter.{judged, read_book}
use Rattle.pages.specs.Write.{write_book}

-- every field is of its integer type, as in any machine of the code
pub record Sized (c : Cap) : Type 0 where
  pub spare : c.spare < 2 ^ 8
  pub base : c.base.0 < 2 ^ 64
  pub length : c.length < 2 ^ 64
  pub offset : c.offset.0 < 2 ^ 64

pub record Typed (m : Machine) : Type 0 where
  pub caps : (i : ℕ) → Sized (get_or m.caps i null)
  pub pcc : Sized m.pcc
  pub general : (i : ℕ) → get_or m.general i 0 < 2 ^ 64

-- whenever the writer writes a book, the reader accepts exactly those bytes
abbrev pub WrittenIsAccepted : Type 0
WrittenIsAccepted =
    (m : Machine) (ram tags out : List ℕ) (n : ℕ) → Typed m → (write_book m ram tags out).written ≡ Ok n
    → check_book (take n (write_book m ram tags out).out) (length ram) ≡ Ok tt

-- and gives the same machine, RAM and tags, for every flash length that is legal and buffers of the same sizes, whatever they held
abbrev pub WrittenAndRead : Type 0
WrittenAndRead =
    (m : Machine) (ram tags out : List ℕ) (n flash : ℕ) (ram' tags' : List ℕ) → Typed m → length m.caps ≡ 32 → length m.general ≡ 32
    → (write_book m ram tags out).written ≡ Ok n
    → memory_fits flash ≡ true
    → length ram' ≡ length ram
    → length tags' ≡ length tags
    → (judged (take n (write_book m ram tags out).out) flash (length ram') (length tags') ≡ Ok tt)
    × (read_book (take n (write_book m ram tags out).out) flash ram' tags' ≡ record { machine = m; ram = ram; tags = tags })
