-- Which registers and lines a start book names, each by one record (01, "The start book").
use Rattle.std.specs.Prelude.{ℕ, Bool, cond, not, ◌&&◌, List, [], eqb}
use Rattle.manual.specs.declared.Cap.{Cap}
use Rattle.pages.specs.Compose.{record_of, cap_body, general_body, line_body, zero_cap, zero_bytes}

-- the writer names exactly the registers with a non-zero field
unfoldable pub cap_piece : ℕ → Cap → List ℕ
cap_piece number c = cond (zero_cap c) [] (record_of (cap_body number c))

unfoldable pub general_piece : ℕ → ℕ → List ℕ
general_piece number value = cond (eqb value 0) [] (record_of (general_body number value))

-- and the lines that are tagged or not all zero
abbrev pub line_named : ℕ → Bool → List ℕ → List ℕ
line_named address tag bytes = cond (not tag && zero_bytes bytes) [] (record_of (line_body address tag bytes))
