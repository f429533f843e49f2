-- A jump that waits for its slot, or none.
use Rattle.std.specs.Prelude.{Bool, Option}
use Rattle.std.specs.Option.{is_some}
use Rattle.manual.specs.declared.Cap.{Cap}

abbrev pub is_pending : Option Cap → Bool
is_pending pending = is_some pending
