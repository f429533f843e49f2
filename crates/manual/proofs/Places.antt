-- The laws of places: a place says that its bytes are there. Assumes nothing.
use Prim.Native.Nat.{ℕ, ◌+◌, ◌-◌, ◌≤◌}
use mathlib.Core.Path.{◌≡◌, refl}
use mathlib.Core.Bool.{Bool, true, false, cond}
use native.Mathlib.Omega.{arith}
use borrow.Author.Tests.{leb-true}
use lib.Dec.{leb, ltb}
use Rattle.manual.specs.Place.{RAM_BASE, place_of}
use Rattle.manual.specs.declared.Address.{Address}
use Rattle.manual.specs.declared.Place.{Place}
use Rattle.manual.specs.declared.Place.TheVariants.{Flash, Ram, Nowhere}

abbrev choose : Bool → Bool → Bool → ℕ → ℕ → Place
choose in-flash low in_ram i j = cond in-flash (Flash i) (cond low Nowhere (cond in_ram (Ram j) Nowhere))

is_ram : (x y z : Bool) (i j at : ℕ) → Ram at ≡ choose x y z i j → (at ≡ j) × (z ≡ true)
is_ram true y z i j at e = let w : ◌≡◌ {A = ℕ} 0 1 = cc in absurd (omega arith)
is_ram false true z i j at e = let w : ◌≡◌ {A = ℕ} 0 1 = cc in absurd (omega arith)
is_ram false false true i j at e = (cc, refl)
is_ram false false false i j at e = let w : ◌≡◌ {A = ℕ} 0 1 = cc in absurd (omega arith)

is_flash : (x y z : Bool) (i j at : ℕ) → Flash at ≡ choose x y z i j → (at ≡ i) × (x ≡ true)
is_flash true y z i j at e = (cc, refl)
is_flash false true z i j at e = let w : ◌≡◌ {A = ℕ} 0 1 = cc in absurd (omega arith)
is_flash false false true i j at e = let w : ◌≡◌ {A = ℕ} 0 1 = cc in absurd (omega arith)
is_flash false false false i j at e = let w : ◌≡◌ {A = ℕ} 0 1 = cc in absurd (omega arith)

module _ (flash ram : ℕ) (a : Address) (n at : ℕ) where
  pub ram_holds : Ram at ≡ place_of flash ram a n → at + n ≤ ram
  unfolding place_of
  ram_holds e =
      let w = is_ram (leb (a.0 + n) flash) (ltb a.0 RAM_BASE) (leb (a.0 - RAM_BASE + n) ram) a.0 (a.0 - RAM_BASE) at e in
      let h = leb-true (a.0 - RAM_BASE + n) ram w.1 in
      omega arith

  pub flash_holds : Flash at ≡ place_of flash ram a n → at + n ≤ flash
  unfolding place_of
  flash_holds e =
      let w = is_flash (leb (a.0 + n) flash) (ltb a.0 RAM_BASE) (leb (a.0 - RAM_BASE + n) ram) a.0 (a.0 - RAM_BASE) at e in
      let h = leb-true (a.0 + n) flash w.1 in
      omega arith
