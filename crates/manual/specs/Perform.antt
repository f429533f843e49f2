-- An effect carried out: what the step writes, and what it leaves in RAM and tags. The place is found before a byte is written.
use Rattle.std.specs.Prelude.{ℕ, Bool, false, List, Result, Option, Ok, Err, Some, None}
use Rattle.manual.specs.declared.Size.{Size}
use Rattle.manual.specs.Number.{bytes_in, to_be, extended}
use Rattle.manual.specs.Place.{load_of, place_in}
use Rattle.manual.specs.Store.{answer_at, ram_after, tags_after}
use Rattle.manual.specs.declared.Cap.{Cap}
use Rattle.manual.specs.Line.{encode, load_cap}
use Rattle.manual.specs.declared.Fault.{Fault}
use Rattle.manual.specs.declared.Effect.{Effect}
use Rattle.manual.specs.declared.Change.{Change}

-- one general register; register 0 where there is none
abbrev pub to_general : Cap → ℕ → ℕ → ℕ → Change
to_general c0 cause rd value = record { rd = rd; value = value; cd = 0; cap = c0; cause = cause; jump = None }

-- one capability register, and the jump; C0 as it was where there is none
abbrev pub to_capability : ℕ → ℕ → Cap → Option Cap → Change
to_capability cause cd c jump = record { rd = 0; value = 0; cd = cd; cap = c; cause = cause; jump = jump }

abbrev pub quiet : Cap → ℕ → Change
quiet c0 cause = to_general c0 cause 0 0

abbrev pub loaded_turn : Cap → ℕ → Bool → Size → ℕ → Option ℕ → Result Change Fault
loaded_turn c0 cause signed size rd (Some v) = Ok (to_general c0 cause rd (extended signed size v))
loaded_turn c0 cause signed size rd None = Err Fault.Nowhere

abbrev pub stored_turn : Cap → ℕ → Result (Unit {0}) Fault → Result Change Fault
stored_turn c0 cause (Ok _) = Ok (quiet c0 cause)
stored_turn c0 cause (Err fault) = Err fault

abbrev pub cap_turn : ℕ → ℕ → Option Cap → Result Change Fault
cap_turn cause cd (Some c) = Ok (to_capability cause cd c None)
cap_turn cause cd None = Err Fault.Nowhere

unfoldable pub turn_of : Cap → ℕ → List ℕ → List ℕ → List ℕ → Effect → Result Change Fault
turn_of c0 cause flash ram tags Effect.Nothing = Ok (quiet c0 cause)
turn_of c0 cause flash ram tags (Effect.General rd value) = Ok (to_general c0 cause rd value)
turn_of c0 cause flash ram tags (Effect.Capability cd c) = Ok (to_capability cause cd c None)
turn_of c0 cause flash ram tags (Effect.Cause n) = Ok (quiet c0 n)
turn_of c0 cause flash ram tags (Effect.Jump target) = Ok (to_capability cause 0 c0 (Some target))
turn_of c0 cause flash ram tags (Effect.Link cd link target) = Ok (to_capability cause cd link (Some target))
turn_of c0 cause flash ram tags (Effect.Load size signed a rd) = loaded_turn c0 cause signed size rd (load_of flash ram a (bytes_in size))
turn_of c0 cause flash ram tags (Effect.Store size a v) = stored_turn c0 cause (answer_at (place_in flash ram a (bytes_in size)))
turn_of c0 cause flash ram tags (Effect.LoadCapability a cd) = cap_turn cause cd (load_cap flash ram tags a)
turn_of c0 cause flash ram tags (Effect.StoreCapability a c) = stored_turn c0 cause (answer_at (place_in flash ram a 32))

unfoldable pub ram_of : List ℕ → List ℕ → Effect → List ℕ
ram_of flash ram Effect.Nothing = ram
ram_of flash ram (Effect.General rd value) = ram
ram_of flash ram (Effect.Capability cd c) = ram
ram_of flash ram (Effect.Cause n) = ram
ram_of flash ram (Effect.Jump target) = ram
ram_of flash ram (Effect.Link cd link target) = ram
ram_of flash ram (Effect.Load size signed a rd) = ram
ram_of flash ram (Effect.Store size a v) = ram_after (place_in flash ram a (bytes_in size)) ram (to_be (bytes_in size) v)
ram_of flash ram (Effect.LoadCapability a cd) = ram
ram_of flash ram (Effect.StoreCapability a c) = ram_after (place_in flash ram a 32) ram (encode c)

-- a data store clears the tag of the line it writes; a capability store sets it to the stored register's tag
unfoldable pub tags_of : List ℕ → List ℕ → List ℕ → Effect → List ℕ
tags_of flash ram tags Effect.Nothing = tags
tags_of flash ram tags (Effect.General rd value) = tags
tags_of flash ram tags (Effect.Capability cd c) = tags
tags_of flash ram tags (Effect.Cause n) = tags
tags_of flash ram tags (Effect.Jump target) = tags
tags_of flash ram tags (Effect.Link cd link target) = tags
tags_of flash ram tags (Effect.Load size signed a rd) = tags
tags_of flash ram tags (Effect.Store size a v) = tags_after (place_in flash ram a (bytes_in size)) tags false
tags_of flash ram tags (Effect.LoadCapability a cd) = tags
tags_of flash ram tags (Effect.StoreCapability a c) = tags_after (place_in flash ram a 32) tags c.tag
