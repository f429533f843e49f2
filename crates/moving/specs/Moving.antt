-- Data loads and stores through a capability register: what their step writes is what the whole step's definition says.
use Rattle.std.specs.Prelude.{ℕ, ◌≡◌, List, Option}
use Rattle.manual.specs.declared.Cap.{Cap}
use Rattle.manual.specs.declared.Instr.{Instr}
use Rattle.manual.specs.declared.Named.{Named}
use Rattle.manual.specs.Checks.{settle}
use Rattle.manual.specs.declared.Operands.{Operands}
use Rattle.manual.specs.Plan.{plan_of}
use Rattle.special.specs.Special.{Amounts}
use Rattle.derivation.specs.declared.Capable.{Capable}

-- whatever the other operands
abbrev pub Loads : Instr → ℕ → Cap → Named → ℕ → List ℕ → List ℕ → Option Capable → Type 0
Loads i rd pcc cb rt flash ram r =
    (o : Operands) (tags : List ℕ) → o.n25 ≡ rd → o.pcc ≡ pcc → o.c20 ≡ cb → o.g15 ≡ rt → Amounts o (settle (plan_of o i)) flash ram tags ram tags r

abbrev pub Stores : Instr → ℕ → Cap → Named → ℕ → List ℕ → List ℕ → List ℕ → List ℕ → List ℕ → Option Capable → Type 0
Stores i value pcc cb rt flash ram tags ram' tags' r =
    (o : Operands) → o.g25 ≡ value → o.pcc ≡ pcc → o.c20 ≡ cb → o.g15 ≡ rt → Amounts o (settle (plan_of o i)) flash ram tags ram' tags' r
