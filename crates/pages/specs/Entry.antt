-- What a record of a start book says, or its first refusal (01, "Start book").
use Rattle.std.specs.Prelude.{ℕ, ◌+◌, ◌-◌, ◌%◌, Bool, false, cond, ◌&&◌, List, length, take, drop, eqb, leb, ltb, Result, Ok, Err}
use Rattle.manual.specs.Place.{RAM_BASE}
use Rattle.manual.specs.Line.{cap_in}
use Rattle.manual.specs.Accept.{loaded_fits}
use Rattle.manual.specs.declared.Refusal.{Refusal}
use Rattle.pages.specs.declared.Entry.{Entry}
use Rattle.pages.specs.Fields.{capability_of}
use Rattle.pages.specs.Record.{byte, number}

-- kind 2, 10 bytes: kind, number 1..31, value
unfoldable pub general_of : List ℕ → Result Entry Refusal
general_of body =
    cond (eqb (length body) 10)
    (cond (leb 1 (byte body 1) && leb (byte body 1) 31)
    (Ok (Entry.General (byte body 1) (number body 2 8)))
    (Err Refusal.Field))
    (Err Refusal.Cut)

-- an address of a line of a RAM of so many bytes
unfoldable pub is_line : ℕ → ℕ → Bool
is_line address ram = cond (ltb address RAM_BASE) false (cond (eqb (address % 32) 0) (leb (address - RAM_BASE + 32) ram) false)

-- kind 3, 42 bytes: kind, address (8), tag, 32 bytes of a RAM line; 22 is for a tag of 1 alone (ruling C3)
unfoldable pub line_of : List ℕ → ℕ → Result Entry Refusal
line_of body ram =
    cond (eqb (length body) 42)
    (cond (leb (byte body 9) 1 && is_line (number body 1 8) ram)
    (cond (loaded_fits (cap_in (eqb (byte body 9) 1) (take 32 (drop 10 body)))) (Ok (Entry.Line (number body 1 8) (eqb (byte body 9) 1))) (Err Refusal.Top))
    (Err Refusal.Field))
    (Err Refusal.Cut)

-- in this order: an empty body 31, an unknown kind 32, another length 31, a field 34, then 22
unfoldable pub entry_of : List ℕ → ℕ → Result Entry Refusal
entry_of body ram =
    cond (eqb (length body) 0) (Err Refusal.Cut)
    (cond (eqb (byte body 0) 1) (capability_of body)
    (cond (eqb (byte body 0) 2) (general_of body)
    (cond (eqb (byte body 0) 3) (line_of body ram)
    (Err Refusal.Kind))))
