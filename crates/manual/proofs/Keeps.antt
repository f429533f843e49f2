-- A step that stops has written nothing. Assumes nothing.
use Rattle.std.specs.Prelude.{Result, Ok, Err}
use Prim.Native.Nat.{ℕ}
use mathlib.Core.Path.{◌≡◌, refl}
use mathlib.Core.Bool.{Bool}
use mathlib.Core.List.{List}
use native.Mathlib.Omega.{arith}
use Rattle.manual.specs.declared.Place.{Place}
use Rattle.manual.specs.declared.Place.TheVariants.{Flash, Ram, Nowhere}
use Rattle.manual.specs.Number.{bytes_in}
use Rattle.manual.specs.Store.{answer_at, ram_after, tags_after}
use Rattle.manual.specs.declared.Cap.{Cap}
use Rattle.manual.specs.declared.Fault.{Fault}
use Rattle.manual.specs.declared.Effect.{Effect}
use Rattle.manual.specs.declared.Operands.{Operands}
use Rattle.manual.specs.Perform.{stored_turn, turn_of, ram_of, tags_of}
use Rattle.manual.specs.Place.{place_in}
use Rattle.manual.specs.Act.{done_turn, done_ram, done_tags}

-- a store that did not go into RAM
place_keeps : (p : Place) (c0 : Cap) (cause : ℕ) (f : Fault) (ram bytes tags : List ℕ) (tag : Bool) → stored_turn c0 cause (answer_at p) ≡ Err f
    → (ram_after p ram bytes ≡ ram) × (tags_after p tags tag ≡ tags)
place_keeps (Flash i) c0 cause f ram bytes tags tag e = (refl, refl)
place_keeps (Ram i) c0 cause f ram bytes tags tag e = let z : ◌≡◌ {A = ℕ} 0 1 = cc in absurd (omega arith)
place_keeps Nowhere c0 cause f ram bytes tags tag e = (refl, refl)

effect_keeps : (effect : Effect) (c0 : Cap) (cause : ℕ) (flash ram tags : List ℕ) (f : Fault) → turn_of c0 cause flash ram tags effect ≡ Err f
    → (ram_of flash ram effect ≡ ram) × (tags_of flash ram tags effect ≡ tags)
unfolding turn_of ram_of tags_of
effect_keeps Effect.Nothing c0 cause flash ram tags f e = (refl, refl)
effect_keeps (Effect.General rd value) c0 cause flash ram tags f e = (refl, refl)
effect_keeps (Effect.Capability cd c) c0 cause flash ram tags f e = (refl, refl)
effect_keeps (Effect.Cause n) c0 cause flash ram tags f e = (refl, refl)
effect_keeps (Effect.Jump target) c0 cause flash ram tags f e = (refl, refl)
effect_keeps (Effect.Link cd link target) c0 cause flash ram tags f e = (refl, refl)
effect_keeps (Effect.Load size signed a rd) c0 cause flash ram tags f e = (refl, refl)
effect_keeps (Effect.Store size a v) c0 cause flash ram tags f e = place_keeps (place_in flash ram a (bytes_in size)) c0 cause f ram _ tags _ e
effect_keeps (Effect.LoadCapability a cd) c0 cause flash ram tags f e = (refl, refl)
effect_keeps (Effect.StoreCapability a c) c0 cause flash ram tags f e = place_keeps (place_in flash ram a 32) c0 cause f ram _ tags _ e

-- whatever was planned
pub stop_keeps : (o : Operands) (planned : Result Effect Fault) (flash ram tags : List ℕ) (f : Fault) → done_turn o flash ram tags planned ≡ Err f
    → (done_ram flash ram planned ≡ ram) × (done_tags flash ram tags planned ≡ tags)
stop_keeps o (Err fault) flash ram tags f e = (refl, refl)
stop_keeps o (Ok effect) flash ram tags f e = effect_keeps effect o.c0.cap o.cause flash ram tags f e
