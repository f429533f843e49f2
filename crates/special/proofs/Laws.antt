-- The laws of an answer that sets a general register. Assumes nothing.
use Rattle.std.specs.Prelude.{Result, Ok, Some}
use Rattle.std.specs.Bool.{then_some}
use Prim.Native.Nat.{ℕ}
use mathlib.Core.Path.{◌≡◌, refl}
use mathlib.Core.Bool.{Bool, true, false}
use mathlib.Core.List.{List}
use lib.Dec.{eqb}
use Rattle.manual.specs.declared.Effect.{Effect}
use Rattle.manual.specs.Checks.{settle}
use Rattle.manual.specs.declared.Alu.{Alu}
use Rattle.manual.specs.declared.Instr.{Instr}
use Rattle.manual.specs.Decode.{if_zero}
use Rattle.manual.specs.Compute.{compute_of}
use Rattle.manual.specs.declared.Operands.{Operands}
use Rattle.manual.specs.Plan.{plan_of}
use Rattle.manual.specs.Perform.{turn_of, ram_of, tags_of}
use Rattle.special.specs.declared.Plain.{Plain}
use Rattle.special.specs.Special.{Means}
use Rattle.manual.specs.declared.Fault.{Fault}

module _ (o : Operands) (planned : Result Effect Fault) (flash ram tags : List ℕ) where
  -- a register written, and nothing else
  sets_means : (rd v : ℕ) → planned ≡ Ok (Effect.General rd v) → Means o planned flash ram tags ram tags (Some (Plain.Sets rd v))
  unfolding turn_of ram_of tags_of
  sets_means rd v p = rw p (refl, (refl, refl))

  nothing_means : planned ≡ Ok Effect.Nothing → Means o planned flash ram tags ram tags (Some (Plain.Sets 0 0))
  unfolding turn_of ram_of tags_of
  nothing_means p = rw p (refl, (refl, refl))

-- an instruction whose unused field is tested first
pub field_means : (o : Operands) (flash ram tags : List ℕ) (field : ℕ) (i : Instr) (passes : Bool) (rd v : ℕ) → passes ≡ eqb field 0 → Means o (settle (plan_of o i)) flash ram tags ram tags (Some (Plain.Sets rd v))
    → Means o (settle (plan_of o (if_zero field i))) flash ram tags ram tags (then_some passes (Plain.Sets rd v))
unfolding if_zero
field_means o flash ram tags field i true rd v e m = rw (← e) m
field_means o flash ram tags field i false rd v e m = (refl, refl)

-- and those of major opcode 0
pub nop_means : (o : Operands) (flash ram tags : List ℕ) (field : ℕ) (passes : Bool) → passes ≡ eqb field 0 → Means o (settle (plan_of o (if_zero field Instr.Nop))) flash ram tags ram tags (then_some passes (Plain.Sets 0 0))
unfolding plan_of settle
nop_means o flash ram tags field passes e = field_means o flash ram tags field Instr.Nop passes 0 0 e (nothing_means o (settle (plan_of o Instr.Nop)) flash ram tags refl)

pub op_means : (o : Operands) (flash ram tags : List ℕ) (op : Alu) (field : ℕ) (passes : Bool) (n15 g25 g20 v : ℕ) → passes ≡ eqb field 0 → v ≡ compute_of op g25 g20 → o.n15 ≡ n15 → o.g25 ≡ g25 → o.g20 ≡ g20
    → Means o (settle (plan_of o (if_zero field (Instr.Compute op)))) flash ram tags ram tags (then_some passes (Plain.Sets n15 v))
unfolding plan_of settle
op_means o flash ram tags op field passes n15 g25 g20 v e ev e15 e25 e20 = field_means o flash ram tags field (Instr.Compute op) passes n15 v e (sets_means o (settle (plan_of o (Instr.Compute op))) flash ram tags n15 v (rw (e15, e25, e20, ev)))

pub lui_means : (o : Operands) (flash ram tags : List ℕ) (field x n20 : ℕ) (passes : Bool) → passes ≡ eqb field 0 → o.n20 ≡ n20 → Means o (settle (plan_of o (if_zero field (Instr.Lui x)))) flash ram tags ram tags (then_some passes (Plain.Sets n20 x))
unfolding plan_of settle
lui_means o flash ram tags field x n20 passes e e20 = field_means o flash ram tags field (Instr.Lui x) passes n20 x e (sets_means o (settle (plan_of o (Instr.Lui x))) flash ram tags n20 x (rw e20))

pub immediate_means : (o : Operands) (flash ram tags : List ℕ) (op : Alu) (x n20 g25 v : ℕ) → v ≡ compute_of op g25 x → o.n20 ≡ n20 → o.g25 ≡ g25 → Means o (settle (plan_of o (Instr.ComputeImmediate op x))) flash ram tags ram tags (Some (Plain.Sets n20 v))
unfolding plan_of settle
immediate_means o flash ram tags op x n20 g25 v ev e20 e25 = sets_means o (settle (plan_of o (Instr.ComputeImmediate op x))) flash ram tags n20 v (rw (e20, e25, ev))
