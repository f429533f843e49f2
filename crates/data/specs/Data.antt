-- Data loads and stores through a capability (01, "Access and fetch").
use Rattle.std.specs.Prelude.{◌≡◌, ℕ, Bool, false, List, Result, Option, Ok, Err, Some, None, IfSome}
use Rattle.manual.specs.declared.Address.{Address}
use Rattle.manual.specs.declared.Size.{Size}
use Rattle.manual.specs.Number.{bytes_in, to_be, extended}
use Rattle.manual.specs.Place.{load_of, place_in}
use Rattle.manual.specs.Store.{answer_at, ram_after, tags_after}
use Rattle.manual.specs.declared.Cap.{Cap}
use Rattle.manual.specs.Cap.{register_open}
use Rattle.manual.specs.Access.{access_of}
use Rattle.manual.specs.declared.Named.{Named}
use Rattle.manual.specs.Checks.{Checked, settle, opened, tagged, unsealed, granted}
use Rattle.manual.specs.declared.Fault.{Fault}
use Rattle.manual.specs.declared.Unfit.{Unfit}

-- where an access lies, if the answer says so
abbrev pub Lands : Result Address Unfit → Option Address → Type 0
Lands lies r = IfSome r (λ a. lies ≡ Ok a)

-- then every check before it passes too
pub record Reaches (permission : ℕ) (pcc : Cap) (cb : Named) (rt immediate size : ℕ) (a : Address) : Type 0 where
  pub lands : access_of cb.cap rt immediate size ≡ Ok a
  pub passes : (rest : Checked) → settle (opened pcc cb.number (tagged cb (unsealed cb (granted permission cb rest)))) ≡ settle rest

-- through a register that PCC may name, or not
abbrev pub Reached : ℕ → Bool → Cap → ℕ → ℕ → ℕ → Option Address → Type 0
Reached permission opens c rt immediate size r = (pcc : Cap) (number : ℕ) → opens ≡ register_open pcc.perms number
    → IfSome r (Reaches permission pcc (record { cap = c; number = number }) rt immediate size)

abbrev pub extended_in : Bool → Size → Option ℕ → Option ℕ
extended_in signed size (Some v) = Some (extended signed size v)
extended_in signed size None = None

abbrev pub loaded_at : List ℕ → List ℕ → Bool → Size → Option Address → Option ℕ
loaded_at flash ram signed size (Some a) = extended_in signed size (load_of flash ram a (bytes_in size))
loaded_at flash ram signed size None = None

abbrev pub stored_at : List ℕ → List ℕ → Size → Option Address → Result (Unit {0}) Fault
stored_at flash ram size (Some a) = answer_at (place_in flash ram a (bytes_in size))
stored_at flash ram size None = Err Fault.Nowhere

abbrev pub stores_ram : List ℕ → List ℕ → Size → ℕ → Option Address → List ℕ
stores_ram flash ram size v (Some a) = ram_after (place_in flash ram a (bytes_in size)) ram (to_be (bytes_in size) v)
stores_ram flash ram size v None = ram

abbrev pub stores_tags : List ℕ → List ℕ → List ℕ → Size → Option Address → List ℕ
stores_tags flash ram tags size (Some a) = tags_after (place_in flash ram a (bytes_in size)) tags false
stores_tags flash ram tags size None = tags
