-- One record of a start book as its writer spells it (01, "The start book"): a 2-byte big-endian length of its body, and the body.
use Rattle.std.specs.Prelude.{ℕ, Bool, not, ◌&&◌, List, [], ◌∷◌, ◌++◌, length, get_or, eqb}
use Rattle.manual.specs.Number.{to_be}
use Rattle.manual.specs.Store.{bit}
use Rattle.manual.specs.declared.Cap.{Cap}
use Rattle.manual.specs.Accept.{every}

-- fields one after the other, each a number of bytes and its value
unfoldable pub fields : List (ℕ × ℕ) → List ℕ
fields [] = []
fields (f ∷ fs) = to_be f.0 f.1 ++ fields fs

unfoldable pub record_of : List ℕ → List ℕ
record_of body = to_be 2 (length body) ++ body

-- kind 1, 36 bytes: kind, number (0..31, 32 for PCC), tag, sealed, spare, otype (3), permissions (4), base, length, offset
unfoldable pub cap_body : ℕ → Cap → List ℕ
cap_body number c =
    fields ((1, 1) ∷ (1, number) ∷ (1, bit c.tag) ∷ (1, bit c.sealed) ∷ (1, c.spare) ∷ (3, c.otype) ∷ (4, c.perms)
    ∷ (8, c.base.0) ∷ (8, c.length) ∷ (8, c.offset.0) ∷ [])

-- kind 2, 10 bytes: kind, number, value
unfoldable pub general_body : ℕ → ℕ → List ℕ
general_body number value = fields ((1, 2) ∷ (1, number) ∷ (8, value) ∷ [])

-- kind 3, 42 bytes: kind, address (8), tag, 32 bytes of a RAM line
unfoldable pub line_body : ℕ → Bool → List ℕ → List ℕ
line_body address tag bytes = fields ((1, 3) ∷ (8, address) ∷ (1, bit tag) ∷ []) ++ bytes

-- no field of a register is other than zero
abbrev pub zero_cap : Cap → Bool
zero_cap c =
    (not c.tag && not c.sealed)
    && ((eqb c.spare 0 && (eqb c.otype 0 && eqb c.perms 0)) && (eqb c.base.0 0 && (eqb c.length 0 && eqb c.offset.0 0)))

-- no byte of a line is other than zero
abbrev pub zero_bytes : List ℕ → Bool
zero_bytes bytes = every (length bytes) 0 (λ i. eqb (get_or bytes i 0) 0)
