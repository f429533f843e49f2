-- The laws of a piece: one that is not there, one that is, and how long it is at most. Assumes nothing.
use Prim.Native.Nat.{ℕ, ◌+◌, ◌≤◌}
use mathlib.Core.Path.{◌≡◌}
use mathlib.Core.Bool.{Bool, true, false, cond, not, ◌&&◌}
use mathlib.Core.List.{List, []}
use native.Mathlib.Omega.{arith}
use lib.Dec.{eqb}
use lib.ListN.{length}
use Rattle.manual.specs.Store.{put}
use Rattle.manual.specs.declared.Cap.{Cap}
use Rattle.pages.specs.Compose.{record_of, cap_body, general_body, line_body, zero_cap, zero_bytes}
use Rattle.pages.proofs.Fields.{cap_bytes_lem, general_bytes, line_bytes_lem}
use Rattle.pages.specs.Naming.{cap_piece, general_piece, line_named}

-- how many bytes were put, and the buffer then
abbrev pub Puts : List ℕ → ℕ → List ℕ → List ℕ → ℕ → Type 0
Puts before at bytes after n = (n ≡ length bytes) × (after ≡ put before at bytes)

piece_most : (t : Bool) (bytes : List ℕ) (most : ℕ) → length bytes ≤ most → length (cond t [] bytes) ≤ most
piece_most true bytes most h = omega arith
piece_most false bytes most h = h

pub cap_most : (number : ℕ) (c : Cap) → length (cap_piece number c) ≤ 38
unfolding cap_piece
cap_most number c = piece_most (zero_cap c) (record_of (cap_body number c)) 38 (rw cap_bytes_lem (omega arith))

pub general_most : (number value : ℕ) → length (general_piece number value) ≤ 12
unfolding general_piece
general_most number value = piece_most (eqb value 0) (record_of (general_body number value)) 12 (rw general_bytes (omega arith))

pub line_most : (address : ℕ) (tag : Bool) (bytes : List ℕ) → length (line_named address tag bytes) ≤ 12 + length bytes
line_most address tag bytes =
    piece_most (not tag && zero_bytes bytes) (record_of (line_body address tag bytes)) (12 + length bytes) (rw line_bytes_lem (omega arith))
