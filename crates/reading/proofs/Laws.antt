-- The law of the field reads: their checks passed. Assumes nothing.
use Prim.Native.Nat.{ℕ}
use mathlib.Core.Path.{◌≡◌, sym}
use mathlib.Core.Bool.{Bool, true, false, ◌&&◌}
use lib.Dec.{eqb}
use Rattle.manual.specs.declared.Cap.{Cap}
use Rattle.manual.specs.Cap.{register_open}
use Rattle.manual.specs.declared.Field.{Field}
use Rattle.manual.specs.declared.Instr.{Instr}
use Rattle.manual.specs.Decode.{if_zero}
use Rattle.manual.specs.declared.Named.{Named}
use Rattle.manual.specs.Checks.{settle}
use Rattle.manual.specs.Inspect.{field_of, get}
use Rattle.manual.specs.declared.Operands.{Operands}
use Rattle.manual.specs.Plan.{plan_of}
use Rattle.manual.proofs.Tests.{both_true}
use Rattle.derivation.specs.Deriving.{Leads}
use Rattle.derivation.specs.declared.Capable.{Capable}
use Rattle.std.specs.Bool.{then_some}

pub get_leads : (o : Operands) (field : ℕ) (f : Field) (passes : Bool) (rd v : ℕ) (pcc : Cap) (cb : Named) → passes ≡ (eqb field 0 && register_open pcc.perms cb.number) → v ≡ field_of f cb.cap
    → o.n20 ≡ rd → o.pcc ≡ pcc → o.c15 ≡ cb → Leads (settle (plan_of o (if_zero field (Instr.Get f)))) (then_some passes (Capable.Sets rd v))
unfolding if_zero plan_of get settle
get_leads o field f true rd v pcc cb e ev en ep ec = let t = both_true (eqb field 0) (register_open pcc.perms cb.number) (sym e) in rw (t.0, en, ep, ec, t.1, ev)
get_leads o field f false rd v pcc cb e ev en ep ec = tt
