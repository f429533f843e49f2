use Rattle.std.proofs.Common.{◌≡◌}
use Rattle.manual.specs.declared.Size.{Size}
use Rattle.moving.proofs.loads.Goals as goal

pub returns-in-Load-Eight-default-default : goal.returns-in-Load-Eight-default-default
returns-in-Load-Eight-default-default c = let w = c.in-Load-Eight-default-default in
    let size : w.field-0 ≡ Size.Eight = rw w.is at w.field-0-is in rw (w.is, size) c.load.ensures

pub returns-in-Load : goal.returns-in-Load
returns-in-Load c = rw c.in-Load.is c.load-in-Load.ensures
