use Rattle.std.proofs.Common.{◌≡◌}
use Rattle.manual.specs.declared.Size.{Size}
use Rattle.moving.proofs.stores.Goals as goal

pub returns-in-Store-Eight-default : goal.returns-in-Store-Eight-default
returns-in-Store-Eight-default c = let w = c.in-Store-Eight-default in
    let size : w.field-0 ≡ Size.Eight = rw w.is at w.field-0-is in rw (w.is, size) c.store.ensures

pub returns-in-Store : goal.returns-in-Store
returns-in-Store c = rw c.in-Store.is c.store-in-Store.ensures
