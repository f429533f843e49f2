-- CLC and CSC: what their step writes is what the whole step's definition says.
use Rattle.std.specs.Prelude.{ℕ, ◌≡◌, List, Option}
use Rattle.manual.specs.declared.Cap.{Cap}
use Rattle.manual.specs.declared.Instr.{Instr}
use Rattle.manual.specs.declared.Named.{Named}
use Rattle.manual.specs.Checks.{settle}
use Rattle.manual.specs.declared.Operands.{Operands}
use Rattle.manual.specs.Plan.{plan_of}
use Rattle.derivation.specs.declared.Capable.{Capable}
use Rattle.special.specs.Special.{Amounts}

-- whatever the other operands
abbrev pub LoadsLine : ℕ → ℕ → Cap → Named → ℕ → List ℕ → List ℕ → List ℕ → Option Capable → Type 0
LoadsLine x cd pcc cb rt flash ram tags r =
    (o : Operands) → o.n25 ≡ cd → o.pcc ≡ pcc → o.c20 ≡ cb → o.g15 ≡ rt → Amounts o (settle (plan_of o (Instr.LoadCapability x))) flash ram tags ram tags r

abbrev pub StoresLine : ℕ → Named → Cap → Named → ℕ → List ℕ → List ℕ → List ℕ → List ℕ → List ℕ → Option Capable → Type 0
StoresLine x cs pcc cb rt flash ram tags ram' tags' r =
    (o : Operands) → o.c25 ≡ cs → o.pcc ≡ pcc → o.c20 ≡ cb → o.g15 ≡ rt → Amounts o (settle (plan_of o (Instr.StoreCapability x))) flash ram tags ram' tags' r
