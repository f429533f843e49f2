-- What an accepted start says of the widths of a capability. Assumes nothing.
use Prim.Native.Nat.{◌^◌}
use mathlib.Core.Path.{◌≡◌}
use mathlib.Core.Bool.{true}
use lib.Dec.{ltb}
use borrow.Author.Tests.{ltb-true}
use Rattle.manual.specs.declared.Cap.{Cap}
use Rattle.manual.specs.Cap.{Within}
use Rattle.manual.specs.Accept.{width_fits}
use Rattle.manual.proofs.Tests.{both_true}
use Rattle.reread.specs.Claims.{Sized}

pub within : (c : Cap) → Sized c → width_fits c ≡ true → Within c
within c s e =
    let b = both_true (ltb c.perms (2 ^ 31)) (ltb c.otype (2 ^ 24)) e in
    record {
      perms = ltb-true c.perms (2 ^ 31) b.0;
      otype = ltb-true c.otype (2 ^ 24) b.1;
      spare = s.spare;
      base = s.base;
      length = s.length;
      offset = s.offset;
    }
