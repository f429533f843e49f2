-- The laws of a data load or store that its checks let pass: what an answer made of it may say. Assumes nothing.
use Rattle.std.specs.Prelude.{Result, Option, Ok, Err, Some, None, IfSome}
use Prim.Native.Nat.{ℕ}
use mathlib.Core.Path.{◌≡◌, refl, ◌∙◌}
use mathlib.Core.Bool.{Bool, false}
use mathlib.Core.List.{List}
use Rattle.manual.specs.declared.Address.{Address}
use Rattle.manual.specs.declared.Size.{Size}
use Rattle.manual.specs.declared.Place.{Place}
use Rattle.manual.specs.declared.Place.TheVariants.{Flash, Ram, Nowhere}
use Rattle.manual.specs.Number.{bytes_in, to_be}
use Rattle.manual.specs.Place.{load_of, place_in}
use Rattle.manual.specs.Store.{answer_at, ram_after, tags_after}
use Rattle.manual.specs.declared.Cap.{Cap}
use Rattle.manual.specs.Cap.{LOAD, STORE}
use Rattle.manual.specs.declared.Named.{Named}
use Rattle.manual.specs.declared.Fault.{Fault}
use Rattle.manual.specs.declared.Effect.{Effect}
use Rattle.manual.specs.Checks.{settle}
use Rattle.manual.specs.Transfer.{load, store}
use Rattle.manual.specs.declared.Operands.{Operands}
use Rattle.manual.specs.Perform.{to_general, turn_of, ram_of, tags_of}
use Rattle.special.specs.Special.{Does}
use Rattle.data.specs.Data.{Reaches, extended_in, loaded_at, stored_at, stores_ram, stores_tags}
use Rattle.data.proofs.Reaches.{planned_reached}

module _ (o : Operands) (planned : Result Effect Fault) (flash ram tags : List ℕ) where
  -- a load that its checks let pass, and what an answer made of the loaded value may say of it
  load_value : (P : Option ℕ → Type 0) (size : Size) (signed : Bool) (a : Address) (rd : ℕ) (l : Option ℕ) → load_of flash ram a (bytes_in size) ≡ l → planned ≡ Ok (Effect.Load size signed a rd)
      → ((v : ℕ) → Does o planned flash ram tags ram tags (to_general o.c0.cap o.cause rd v) → P (Some v)) → P None → P (extended_in signed size l)
  unfolding turn_of ram_of tags_of
  load_value P size signed a rd (Some v) e p goes stays = goes _ (rw (p, e) (refl, (refl, refl)))
  load_value P size signed a rd None e p goes stays = stays

  pub load_does : (P : Option ℕ → Type 0) (size : Size) (signed : Bool) (x rd : ℕ) (pcc : Cap) (cb : Named) (rt : ℕ) (lies : Option Address) → planned ≡ settle (load size signed x pcc rd cb rt) → IfSome lies (Reaches LOAD pcc cb rt x (bytes_in size))
      → ((v : ℕ) → Does o planned flash ram tags ram tags (to_general o.c0.cap o.cause rd v) → P (Some v)) → P None → P (loaded_at flash ram signed size lies)
  unfolding load
  load_does P size signed x rd pcc cb rt (Some a) p r goes stays = load_value P size signed a rd (load_of flash ram a (bytes_in size)) refl (p ∙ planned_reached _ _ _ _ _ _ a Fault.Misaligned (λ b. Effect.Load size signed b rd) r) goes stays
  load_does P size signed x rd pcc cb rt None p r goes stays = stays

  -- the same of a store, with the RAM and the tags that it leaves
  store_value : (P : Result (Unit {0}) Fault → List ℕ → List ℕ → Type 0) (size : Size) (a : Address) (v : ℕ) (p : Place) → place_in flash ram a (bytes_in size) ≡ p → planned ≡ Ok (Effect.Store size a v)
      → ((ram' tags' : List ℕ) → Does o planned flash ram tags ram' tags' (to_general o.c0.cap o.cause 0 0) → P (Ok tt) ram' tags') → P (Err Fault.IntoFlash) ram tags → P (Err Fault.Nowhere) ram tags
      → P (answer_at p) (ram_after p ram (to_be (bytes_in size) v)) (tags_after p tags false)
  unfolding turn_of ram_of tags_of
  store_value P size a v (Flash i) e p goes into-flash stays = into-flash
  store_value P size a v (Ram i) e p goes into-flash stays = goes _ _ (rw (p, e) (refl, (refl, refl)))
  store_value P size a v Nowhere e p goes into-flash stays = stays

  pub store_does : (P : Result (Unit {0}) Fault → List ℕ → List ℕ → Type 0) (size : Size) (x v : ℕ) (pcc : Cap) (cb : Named) (rt : ℕ) (lies : Option Address) → planned ≡ settle (store size x pcc v cb rt) → IfSome lies (Reaches STORE pcc cb rt x (bytes_in size))
      → ((ram' tags' : List ℕ) → Does o planned flash ram tags ram' tags' (to_general o.c0.cap o.cause 0 0) → P (Ok tt) ram' tags') → P (Err Fault.IntoFlash) ram tags → P (Err Fault.Nowhere) ram tags
      → P (stored_at flash ram size lies) (stores_ram flash ram size v lies) (stores_tags flash ram tags size lies)
  unfolding store
  store_does P size x v pcc cb rt (Some a) p r goes into-flash stays = store_value P size a v (place_in flash ram a (bytes_in size)) refl (p ∙ planned_reached _ _ _ _ _ _ a Fault.StoreMisaligned (λ b. Effect.Store size b v) r) goes into-flash stays
  store_does P size x v pcc cb rt None p r goes into-flash stays = stays
