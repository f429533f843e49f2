use Rattle.std.proofs.Common.{arith}
use Rattle.pages.proofs.Fields.{cap_bytes_lem}
use Rattle.giving.proofs.Registers.{caps_end, registers_put}
use Rattle.giving.proofs.put_registers.Goals as goal

pub overflow_add-all : goal.overflow_add-all
overflow_add-all c = omega (arith, caps_end _ _ _ _ _ c.put_caps-caps.ensures, c.put.ensures.value, cap_bytes_lem 32 c.args.m.pcc)

pub put_generals-requires : goal.put_generals-requires
put_generals-requires c = omega (arith, caps_end _ _ _ _ _ c.put_caps-caps.ensures, c.put.ensures.value, cap_bytes_lem 32 c.args.m.pcc)

pub returns : goal.returns
returns c =
    registers_put c.args.m c.args.out.now _ _ _ _ _ _ _ c.put_be.ensures c.put_caps-caps.ensures
    c.put.ensures.value c.put.ensures.out_after c.put_generals.ensures (omega arith)
