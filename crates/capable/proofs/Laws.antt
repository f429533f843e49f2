-- The laws of the instructions that look at capability registers: one for each kind. Assumes nothing.
use Rattle.std.specs.Prelude.{Result, Option, Some, None}
use Prim.Native.Nat.{ℕ}
use mathlib.Core.Path.{refl}
use mathlib.Core.List.{List}
use Rattle.manual.specs.declared.Operands.{Operands}
use Rattle.manual.specs.Perform.{turn_of, ram_of, tags_of}
use Rattle.derivation.specs.declared.Capable.{Capable}
use Rattle.derivation.specs.Deriving.{Leads}
use Rattle.special.specs.Special.{Amounts}
use Rattle.manual.specs.declared.Effect.{Effect}
use Rattle.manual.specs.declared.Fault.{Fault}

module _ (o : Operands) (planned : Result Effect Fault) (flash ram tags : List ℕ) where
  -- what a derivation answers, and what is planned
  pub leads_amount : (r : Option Capable) → Leads planned r → Amounts o planned flash ram tags ram tags r
  unfolding turn_of ram_of tags_of
  leads_amount (Some (Capable.Sets rd v)) p = rw p (refl, (refl, refl))
  leads_amount (Some (Capable.Puts cd c)) p = rw p (refl, (refl, refl))
  leads_amount None p = (refl, refl)
