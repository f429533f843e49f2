-- Where an access lies, and its bytes (01, "Memory").
use Rattle.std.specs.Prelude.{ℕ, ◌+◌, ◌-◌, ◌/◌, ◌%◌, ◌^◌, List, [], Bool, cond, ◌&&◌, length, take, drop, leb, ltb, eqb, Option, Some, None}
use Rattle.manual.specs.Number.{LINE, be}
use Rattle.manual.specs.declared.Address.{Address}
use Rattle.manual.specs.declared.Place.{Place}
use Rattle.manual.specs.declared.Place.TheVariants.{Flash, Ram, Nowhere}

-- flash starts at address 0, RAM here
abbrev pub RAM_BASE : ℕ
RAM_BASE = 1048576

-- F and R are multiples of 32, each 0 to 65,536
abbrev pub MEMORY_MOST : ℕ
MEMORY_MOST = 65536

abbrev pub memory_fits : ℕ → Bool
memory_fits bytes = eqb (bytes % LINE) 0 && leb bytes MEMORY_MOST

-- the tags: a lent buffer of R/32 bytes
abbrev pub tags_fit : ℕ → ℕ → Bool
tags_fit ram tags = eqb tags (ram / LINE)

-- an access of size bytes lies in a flash or a RAM of so many bytes, or in neither
unfoldable pub place_of : ℕ → ℕ → Address → ℕ → Place
place_of flash ram a size =
    cond (leb (a.0 + size) flash) (Flash a.0)
    (cond (ltb a.0 RAM_BASE) Nowhere (cond (leb (a.0 - RAM_BASE + size) ram) (Ram (a.0 - RAM_BASE)) Nowhere))

-- the part of one memory or the other
abbrev pub part_of : List ℕ → List ℕ → Place → ℕ → List ℕ
part_of flash ram (Flash i) n = take n (drop i flash)
part_of flash ram (Ram i) n = take n (drop i ram)
part_of flash ram Nowhere n = []

unfoldable pub bytes_of : List ℕ → List ℕ → Address → ℕ → List ℕ
bytes_of flash ram a size = part_of flash ram (place_of (length flash) (length ram) a size) size

-- the number in the bytes handed out, of the 64 bits that a register holds
unfoldable pub number_of : ℕ → List ℕ → Option ℕ
number_of size part = cond (eqb (length part) size) (Some (be part % 2 ^ 64)) None

abbrev pub load_of : List ℕ → List ℕ → Address → ℕ → Option ℕ
load_of flash ram a size = number_of size (bytes_of flash ram a size)

-- where an access of so many bytes lies
abbrev pub place_in : List ℕ → List ℕ → Address → ℕ → Place
place_in flash ram a size = place_of (length flash) (length ram) a size
