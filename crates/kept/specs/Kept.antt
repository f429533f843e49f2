-- What CSC stores, CLC loads (01, "A capability" and "Memory"), said of the machine's own steps.
use Rattle.std.specs.Prelude.{ℕ, ◌≡◌, true, List, length, Ok, None}
use Rattle.manual.specs.declared.Address.{Address}
use Rattle.manual.specs.Number.{Bytes}
use Rattle.manual.specs.Place.{tags_fit, bytes_of, place_in}
use Rattle.manual.specs.Store.{tag_at}
use Rattle.manual.specs.declared.Cap.{Cap}
use Rattle.manual.specs.Cap.{Within}
use Rattle.manual.specs.declared.Effect.{Effect}
use Rattle.manual.specs.declared.Change.{Change}
use Rattle.manual.specs.Perform.{to_capability}
use Rattle.manual.specs.Act.{planned_of}
use Rattle.manual.specs.Fetch.{word_of}
use Rattle.manual.specs.Registers.{is_pending}
use Rattle.manual.specs.declared.Machine.{Machine}
use Rattle.manual.specs.State.{operands_of}
use Rattle.manual.specs.Steps.{fetched_by, turn_at, ram_at, tags_at}

-- the checks of this machine's step pass, and this is its effect
abbrev pub Plans : List ℕ → Machine → List ℕ → Effect → Type 0
Plans flash m ram effect = planned_of (operands_of m (word_of (fetched_by flash m ram))) (is_pending m.pending) (fetched_by flash m ram) ≡ Ok effect

-- after a CSC of c at an address that passed, a CLC there gives c into its register, whole: tag and spare too. The two machines need not be one.
abbrev pub StoredAndLoaded : Type 0
StoredAndLoaded =
    (flash ram tags : List ℕ) (m m' : Machine) (a : Address) (c : Cap) (cd : ℕ) (d : Change)
    → tags_fit (length ram) (length tags) ≡ true
    → Within c
    → Plans flash m ram (Effect.StoreCapability a c)
    → turn_at flash m ram tags ≡ Ok d
    → Plans flash m' (ram_at flash m ram) (Effect.LoadCapability a cd)
    → turn_at flash m' (ram_at flash m ram) (tags_at flash m ram tags) ≡ Ok (to_capability m'.cause cd c None)

-- what a CLC loaded at one address, tagged or not, a CSC of it that passed puts at another byte for byte, and its tag with it
abbrev pub LoadedAndStored : Type 0
LoadedAndStored =
    (flash ram tags : List ℕ) (m : Machine) (ram' tags' : List ℕ) (m' : Machine) (a b : Address) (c : Cap) (cd : ℕ) (d : Change)
    → Bytes flash
    → Bytes ram
    → tags_fit (length ram') (length tags') ≡ true
    → Plans flash m ram (Effect.LoadCapability a cd)
    → turn_at flash m ram tags ≡ Ok (to_capability m.cause cd c None)
    → Plans flash m' ram' (Effect.StoreCapability b c)
    → turn_at flash m' ram' tags' ≡ Ok d
    → (bytes_of flash (ram_at flash m' ram') b 32 ≡ bytes_of flash ram a 32)
    × (tag_at (tags_at flash m' ram' tags') (place_in flash (ram_at flash m' ram') b 32) ≡ tag_at tags (place_in flash ram a 32))
