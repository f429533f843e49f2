use Rattle.std.proofs.Common.{◌+◌, ◌-◌, ◌≡◌, ◌++◌, length, take}
use Rattle.manual.specs.Number.{to_be}
use Rattle.manual.specs.Store.{put}
use Rattle.pages.specs.Compose.{fields}
use Rattle.compose.proofs.put_record.Given as goal

abbrev pub invariant-loop-width : goal.invariant-loop-width
invariant-loop-width l =
    let done = to_be 2 (l.size - 2) ++ fields (take l.width-index l.values) in
    record { put_so_far : l.out ≡ put l.fn.out l.at done; ends : l.end ≡ l.at + length done }
