-- The checksums of a case's line, as the second program makes them (second/src/generate/answers.rs).
use Rattle.std.specs.Prelude.{ℕ, ◌+◌, ◌*◌, ◌%◌, ◌^◌, Option, Some, None}
use mathlib.Core.List.{List, ◌++◌, flat_map, foldl}
use Rattle.manual.specs.Number.{to_be}
use Rattle.manual.specs.Store.{bit}
use Rattle.manual.specs.declared.Cap.{Cap}
use Rattle.manual.specs.declared.Machine.{Machine}

-- each byte makes it (checksum * 16,777,619 + byte) mod 2^32
unfoldable pub sum_with : ℕ → List ℕ → ℕ
sum_with = foldl (λ sum byte. (sum * 16777619 + byte) % 2 ^ 32)

abbrev pub checksum : List ℕ → ℕ
checksum = sum_with 1

-- the 35 bytes that a case has for a capability
unfoldable pub cap_bytes : Cap → List ℕ
cap_bytes c =
    to_be 1 (bit c.tag) ++ (to_be 1 (bit c.sealed) ++ (to_be 1 c.spare ++ (to_be 4 c.otype ++ (to_be 4 c.perms
    ++ (to_be 8 c.base.0 ++ (to_be 8 c.length ++ to_be 8 c.offset.0))))))

unfoldable pub pending_bytes : Option Cap → List ℕ
pending_bytes None = to_be 1 0
pending_bytes (Some c) = to_be 1 1 ++ cap_bytes c

-- general registers 0 to 31, capability registers 0 to 31, PCC, a byte 1 and the pending jump or a byte 0 alone, the cause register
unfoldable pub machine_bytes : Machine → List ℕ
machine_bytes m = flat_map (to_be 8) m.general ++ (flat_map cap_bytes m.caps ++ (cap_bytes m.pcc ++ (pending_bytes m.pending ++ to_be 2 m.cause)))
