-- Words of major opcode 0, and what an answer that makes a step at once says of it.
use Rattle.std.specs.Prelude.{ℕ, ◌≡◌, List, Result, Option, Ok, Some, None}
use Rattle.manual.specs.Decode.{special_word}
use Rattle.manual.specs.Checks.{settle}
use Rattle.manual.specs.Branch.{branch_to}
use Rattle.manual.specs.declared.Operands.{Operands}
use Rattle.manual.specs.Plan.{plan_of}
use Rattle.manual.specs.declared.Change.{Change}
use Rattle.manual.specs.Perform.{to_general, to_capability}
use Rattle.manual.specs.Act.{done_turn, done_ram, done_tags}
use Rattle.derivation.specs.declared.Capable.{Capable}
use Rattle.special.specs.declared.Plain.{Plain}
use Rattle.manual.specs.declared.Effect.{Effect}
use Rattle.manual.specs.declared.Fault.{Fault}

-- the planned step goes on with this change, and leaves this RAM and these tags
abbrev pub Does : Operands → Result Effect Fault → List ℕ → List ℕ → List ℕ → List ℕ → List ℕ → Change → Type 0
Does o planned flash ram tags ram' tags' d =
    (done_turn o flash ram tags planned ≡ Ok d) × ((ram' ≡ done_ram flash ram planned) × (tags' ≡ done_tags flash ram tags planned))

-- nothing was done
abbrev pub Untouched : List ℕ → List ℕ → List ℕ → List ℕ → Type 0
Untouched ram tags ram' tags' = (ram' ≡ ram) × (tags' ≡ tags)

-- an answer says what the planned step does
abbrev pub Means : Operands → Result Effect Fault → List ℕ → List ℕ → List ℕ → List ℕ → List ℕ → Option Plain → Type 0
Means o planned flash ram tags ram' tags' (Some (Plain.Sets rd v)) = Does o planned flash ram tags ram' tags' (to_general o.c0.cap o.cause rd v)
Means o planned flash ram tags ram' tags' (Some (Plain.Jumps words)) =
    Does o planned flash ram tags ram' tags' (to_capability o.cause 0 o.c0.cap (Some (branch_to o.pcc words)))
Means o planned flash ram tags ram' tags' None = Untouched ram tags ram' tags'

-- and so does one that may be a capability register's
abbrev pub Amounts : Operands → Result Effect Fault → List ℕ → List ℕ → List ℕ → List ℕ → List ℕ → Option Capable → Type 0
Amounts o planned flash ram tags ram' tags' (Some (Capable.Sets rd v)) = Does o planned flash ram tags ram' tags' (to_general o.c0.cap o.cause rd v)
Amounts o planned flash ram tags ram' tags' (Some (Capable.Puts cd c)) = Does o planned flash ram tags ram' tags' (to_capability o.cause cd c None)
Amounts o planned flash ram tags ram' tags' None = Untouched ram tags ram' tags'

-- the words of major opcode 0 leave memory alone
abbrev pub Specially : ℕ → ℕ → ℕ → ℕ → Option Plain → Type 0
Specially w n15 g25 g20 r =
    (o : Operands) (flash ram tags : List ℕ) → o.n15 ≡ n15 → o.g25 ≡ g25 → o.g20 ≡ g20 → Means o (settle (plan_of o (special_word w))) flash ram tags ram tags r
