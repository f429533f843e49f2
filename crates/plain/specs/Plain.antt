-- Instructions that look at no capability register but C0: what their step writes is what the whole step's definition says.
use Rattle.std.specs.Prelude.{ℕ, ◌≡◌, Bool, false, cond, List, Result, Option}
use Rattle.manual.specs.declared.Cap.{Cap}
use Rattle.manual.specs.declared.Instr.{Instr}
use Rattle.manual.specs.declared.Named.{Named}
use Rattle.manual.specs.declared.Size.{Size}
use Rattle.manual.specs.Checks.{settle}
use Rattle.manual.specs.Transfer.{load, store}
use Rattle.manual.specs.declared.Operands.{Operands}
use Rattle.manual.specs.Plan.{plan_of}
use Rattle.manual.specs.declared.Effect.{Effect}
use Rattle.manual.specs.declared.Fault.{Fault}
use Rattle.special.specs.declared.Plain.{Plain}
use Rattle.special.specs.Special.{Means}

abbrev pub branches_by : Bool → ℕ → Plain
branches_by taken words = cond taken (Plain.Jumps words) (Plain.Sets 0 0)

abbrev pub by_c0 : Cap → Named
by_c0 c0 = record { number = 0; cap = c0 }

-- a load or a store of this size by C0, whatever the other operands
abbrev pub Loads : Size → ℕ → ℕ → Cap → ℕ → List ℕ → List ℕ → Option Plain → Type 0
Loads size x rd c0 rt flash ram r =
    (o : Operands) (tags : List ℕ) (planned : Result Effect Fault) → planned ≡ settle (load size false x o.pcc rd (by_c0 c0) rt) → Means o planned flash ram tags ram tags r

abbrev pub Stores : Size → ℕ → ℕ → Cap → ℕ → List ℕ → List ℕ → List ℕ → List ℕ → List ℕ → Option Plain → Type 0
Stores size x value c0 rt flash ram tags ram' tags' r =
    (o : Operands) (planned : Result Effect Fault) → planned ≡ settle (store size x o.pcc value (by_c0 c0) rt) → Means o planned flash ram tags ram' tags' r

-- operands with these parts, whatever their others
pub record Sees (o : Operands) (n20 n15 g25 g20 : ℕ) (c0 : Cap) : Type 0 where
  pub is_n20 : o.n20 ≡ n20
  pub is_n15 : o.n15 ≡ n15
  pub is_g25 : o.g25 ≡ g25
  pub is_g20 : o.g20 ≡ g20
  pub is_c0 : o.c0 ≡ by_c0 c0

abbrev pub Plainly : Instr → ℕ → ℕ → ℕ → ℕ → Cap → List ℕ → List ℕ → List ℕ → List ℕ → List ℕ → Option Plain → Type 0
Plainly i n20 n15 g25 g20 c0 flash ram tags ram' tags' r =
    (o : Operands) → Sees o n20 n15 g25 g20 c0 → Means o (settle (plan_of o i)) flash ram tags ram' tags' r
