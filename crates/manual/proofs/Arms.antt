-- What a `match` over a table leaves to prove. Assumes nothing.
use Prim.Native.Nat.{ℕ}
use mathlib.Core.Path.{◌≡◌, refl}
use mathlib.Core.List.{[], ◌∷◌}
use borrow.Author.Tests.{ne_eqb}
use Rattle.manual.specs.Decode.{Table, lookup}

-- a number that no row has, as the last arm knows it
abbrev pub Others : {A : Type 0} → Type 0 → ℕ → Table A → Type 0
Others P n [] = P
Others P n (row ∷ rows) = Others (P × (n ≡ row.0 → ⊥)) n rows

passed : {A : Type 0} (P : Type 0) (d : A) (n : ℕ) (t : Table A) → Others P n t → P × (d ≡ lookup d n t)
unfolding lookup
passed P d n [] h = (h, refl)
passed P d n (row ∷ rows) h =
    let w = passed (P × (n ≡ row.0 → ⊥)) d n rows h in
    (w.0.0, rw (ne_eqb n row.0 w.0.1) w.1)

pub other : {A : Type 0} {d : A} (n : ℕ) (t : Table A) → Others (Unit {0}) n t → d ≡ lookup d n t
other {d = d} n t h = (passed (Unit {0}) d n t h).1
