-- Each instruction on the registers that its word names (01, "Instruction words"): in major opcode 18 operands in the order of 004's
-- Format line fill 20..16, 15..11, 10..6; a transfer has its register in 25..21, cb in 20..16 and rt in 15..11.
use Rattle.std.specs.Prelude.{false}
use Rattle.manual.specs.declared.Instr.{Instr}
use Rattle.manual.specs.declared.Effect.{Effect}
use Rattle.manual.specs.declared.Fault.{Fault}
use Rattle.manual.specs.Checks.{Checked, ok, fail}
use Rattle.manual.specs.Compute.{compute_of}
use Rattle.manual.specs.Derive.{c_get_pcc, c_and_perm, c_clear_tag, c_inc_base, c_set_len, c_set_offset, c_inc_offset, c_from_ptr}
use Rattle.manual.specs.Seal.{c_seal, c_unseal}
use Rattle.manual.specs.Inspect.{get, c_get_cause, c_set_cause, c_to_ptr, c_check_perm, c_check_type}
use Rattle.manual.specs.Compare.{c_ptr_cmp}
use Rattle.manual.specs.Jump.{c_jr, c_jalr, c_call, c_return}
use Rattle.manual.specs.Branch.{branch, branch_tag}
use Rattle.manual.specs.Transfer.{load, store, c_lc, c_sc}
use Rattle.manual.specs.declared.Operands.{Operands}

unfoldable pub plan_of : Operands → Instr → Checked
plan_of o Instr.Reserved = fail Fault.Reserved
plan_of o Instr.Nop = ok Effect.Nothing
plan_of o Instr.Break = fail Fault.Break
-- the public MIPS words: rs in 25..21, rt in 20..16, rd in 15..11
plan_of o (Instr.Compute op) = ok (Effect.General o.n15 (compute_of op o.g25 o.g20))
plan_of o (Instr.ComputeImmediate op x) = ok (Effect.General o.n20 (compute_of op o.g25 x))
plan_of o (Instr.Lui x) = ok (Effect.General o.n20 x)
plan_of o (Instr.Branch equal x) = branch equal x o.pcc o.g25 o.g20
plan_of o (Instr.Load size signed x) = load size signed x o.pcc o.n25 o.c20 o.g15
plan_of o (Instr.Store size x) = store size x o.pcc o.g25 o.c20 o.g15
-- LD, SD, LBU and SB use C0, with the MIPS base register as rt
plan_of o (Instr.LoadByC0 size x) = load size false x o.pcc o.n20 o.c0 o.g25
plan_of o (Instr.StoreByC0 size x) = store size x o.pcc o.g20 o.c0 o.g25
plan_of o (Instr.LoadCapability x) = c_lc x o.pcc o.n25 o.c20 o.g15
plan_of o (Instr.StoreCapability x) = c_sc x o.pcc o.c25 o.c20 o.g15
plan_of o (Instr.Get field) = get field o.pcc o.n20 o.c15
plan_of o Instr.GetPcc = c_get_pcc o.pcc o.n20
plan_of o Instr.GetCause = c_get_cause o.pcc o.cause o.n20
plan_of o Instr.SetCause = c_set_cause o.pcc o.g20
plan_of o Instr.AndPerm = c_and_perm o.pcc o.n20 o.c15 o.g10
plan_of o Instr.ClearTag = c_clear_tag o.pcc o.n20 o.c15
plan_of o Instr.IncBase = c_inc_base o.pcc o.n20 o.c15 o.g10
plan_of o Instr.SetLength = c_set_len o.pcc o.n20 o.c15 o.g10
plan_of o Instr.SetOffset = c_set_offset o.pcc o.n20 o.c15 o.g10
plan_of o Instr.IncOffset = c_inc_offset o.pcc o.n20 o.c15 o.g10
plan_of o Instr.FromPtr = c_from_ptr o.pcc o.n20 o.c15 o.g10
plan_of o Instr.ToPtr = c_to_ptr o.pcc o.n20 o.c15 o.c10
plan_of o Instr.Seal = c_seal o.pcc o.n20 o.c15 o.c10
plan_of o Instr.Unseal = c_unseal o.pcc o.n20 o.c15 o.c10
plan_of o Instr.CheckPerm = c_check_perm o.pcc o.c20 o.g15
plan_of o Instr.CheckType = c_check_type o.pcc o.c20 o.c15
plan_of o Instr.Jr = c_jr o.pcc o.c20
plan_of o Instr.Jalr = c_jalr o.pcc o.n20 o.c15
plan_of o (Instr.BranchTag set x) = branch_tag set x o.pcc o.c20
plan_of o Instr.Call = c_call o.n20
plan_of o Instr.Return = c_return
plan_of o (Instr.PtrCompare kind) = c_ptr_cmp kind o.pcc o.n20 o.c15 o.c10
