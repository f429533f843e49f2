-- The laws of data loads and stores through a capability register. Assumes nothing.
use Rattle.std.specs.Prelude.{Result, Option, IfSome}
use Rattle.std.specs.Option.{option_map}
use Rattle.std.specs.Result.{result_ok}
use Prim.Native.Nat.{ℕ}
use mathlib.Core.Path.{◌≡◌, refl}
use mathlib.Core.Bool.{Bool}
use mathlib.Core.List.{List}
use Rattle.manual.specs.declared.Size.{Size}
use Rattle.manual.specs.Number.{bytes_in}
use Rattle.manual.specs.declared.Cap.{Cap}
use Rattle.manual.specs.Cap.{LOAD, STORE}
use Rattle.manual.specs.declared.Named.{Named}
use Rattle.manual.specs.Checks.{settle}
use Rattle.manual.specs.Transfer.{load, store}
use Rattle.manual.specs.declared.Operands.{Operands}
use Rattle.data.specs.Data.{Reaches, loaded_at, stored_at, stores_ram, stores_tags}
use Rattle.special.proofs.Does.{load_does, store_does}
use Rattle.derivation.specs.declared.Capable.{Capable}
use Rattle.special.specs.Special.{Amounts}
use Rattle.manual.specs.declared.Effect.{Effect}
use Rattle.manual.specs.declared.Fault.{Fault}
use Rattle.manual.specs.declared.Address.{Address}

module _ (o : Operands) (planned : Result Effect Fault) (flash ram tags : List ℕ) where
  pub load_amounts : (size : Size) (signed : Bool) (x rd : ℕ) (pcc : Cap) (cb : Named) (rt : ℕ) (lies : Option Address) → planned ≡ settle (load size signed x pcc rd cb rt) → IfSome lies (Reaches LOAD pcc cb rt x (bytes_in size))
      → Amounts o planned flash ram tags ram tags (option_map (λ v. Capable.Sets rd v) (loaded_at flash ram signed size lies))
  load_amounts size signed x rd pcc cb rt lies p r = load_does o planned flash ram tags (λ l. Amounts o planned flash ram tags ram tags (option_map (λ v. Capable.Sets rd v) l)) size signed x rd pcc cb rt lies p r (λ v d. d) (refl, refl)

  pub store_amounts : (size : Size) (x v : ℕ) (pcc : Cap) (cb : Named) (rt : ℕ) (lies : Option Address) → planned ≡ settle (store size x pcc v cb rt) → IfSome lies (Reaches STORE pcc cb rt x (bytes_in size))
      → Amounts o planned flash ram tags (stores_ram flash ram size v lies) (stores_tags flash ram tags size lies) (option_map (λ _. Capable.Sets 0 0) (result_ok (stored_at flash ram size lies)))
  store_amounts size x v pcc cb rt lies p r =
      store_does o planned flash ram tags (λ s ram' tags'. Amounts o planned flash ram tags ram' tags' (option_map (λ _. Capable.Sets 0 0) (result_ok s))) size x v pcc cb rt lies p r (λ ram' tags' d. d) (refl, refl) (refl, refl)
