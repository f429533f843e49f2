-- The registers of a machine as bytes: a start book that names every register, zero or not, and no line, so that each stands at a fixed place.
use Rattle.std.specs.Prelude.{ℕ, List, ◌∷◌, ◌++◌, get_or}
use Rattle.manual.specs.declared.Cap.{Cap}
use Rattle.manual.specs.Narrow.{null}
use Rattle.manual.specs.declared.Machine.{Machine}
use Rattle.pages.specs.Compose.{record_of, cap_body, general_body}
use Rattle.pages.specs.Runs.{pieces}

-- C0 to C31
unfoldable pub cap_records : List Cap → List ℕ
cap_records caps = pieces 32 0 (λ i. record_of (cap_body i (get_or caps i null)))

-- general registers 1 to 31
unfoldable pub general_records : List ℕ → List ℕ
general_records general = pieces 31 1 (λ i. record_of (general_body i (get_or general i 0)))

-- byte 0 is version 1; PCC is number 32 of kind 1
unfoldable pub registers_of : Machine → List ℕ
registers_of m = 1 ∷ (cap_records m.caps ++ (record_of (cap_body 32 m.pcc) ++ general_records m.general))

-- the version, 33 records of 38 bytes and 31 of 12
abbrev pub REGISTERS : ℕ
REGISTERS = 1627
