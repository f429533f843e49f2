-- Instructions that look at capability registers: what their step writes is what the whole step's definition says.
use Rattle.std.specs.Prelude.{ℕ, ◌≡◌, List, Option}
use Rattle.manual.specs.declared.Cap.{Cap}
use Rattle.manual.specs.declared.Instr.{Instr}
use Rattle.manual.specs.declared.Named.{Named}
use Rattle.manual.specs.Checks.{settle}
use Rattle.manual.specs.declared.Operands.{Operands}
use Rattle.manual.specs.Plan.{plan_of}
use Rattle.derivation.specs.declared.Capable.{Capable}
use Rattle.special.specs.Special.{Amounts}

-- operands with these parts, whatever their others
pub record Shows (o : Operands) (n25 n20 g25 g15 g10 : ℕ) (pcc k25 : Cap) (c20 c15 : Named) : Type 0 where
  pub is_n25 : o.n25 ≡ n25
  pub is_n20 : o.n20 ≡ n20
  pub is_g25 : o.g25 ≡ g25
  pub is_g15 : o.g15 ≡ g15
  pub is_g10 : o.g10 ≡ g10
  pub is_pcc : o.pcc ≡ pcc
  pub is_c25 : o.c25 ≡ record { cap = k25; number = n25 }
  pub is_c20 : o.c20 ≡ c20
  pub is_c15 : o.c15 ≡ c15

abbrev pub Capably : Instr → ℕ → ℕ → ℕ → ℕ → ℕ → Cap → Cap → Named → Named → List ℕ → List ℕ → List ℕ → List ℕ → List ℕ → Option Capable → Type 0
Capably i n25 n20 g25 g15 g10 pcc k25 c20 c15 flash ram tags ram' tags' r =
    (o : Operands) → Shows o n25 n20 g25 g15 g10 pcc k25 c20 c15 → Amounts o (settle (plan_of o i)) flash ram tags ram' tags' r
