-- A capability's 32 bytes in memory, and the capability that 32 bytes hold (01, "A capability").
use Rattle.std.specs.Prelude.{ℕ, ◌+◌, ◌*◌, ◌/◌, ◌%◌, ◌^◌, List, ◌++◌, Bool, cond, length, take, drop, eqb, Option, Some, None}
use Rattle.manual.specs.Number.{be, to_be, address_at, offset_to}
use Rattle.manual.specs.Place.{place_of, bytes_of}
use Rattle.manual.specs.Store.{bit, tag_at}
use Rattle.manual.specs.declared.Address.{Address}
use Rattle.manual.specs.declared.Cap.{Cap}

-- first, from the top: spare (8), otype (24), permissions (31, bit 0 lowest), sealed (1, lowest)
unfoldable pub first_word : Cap → ℕ
first_word c = c.spare * 2 ^ 56 + c.otype % 2 ^ 24 * 2 ^ 32 + c.perms % 2 ^ 31 * 2 + bit c.sealed

-- then base+offset mod 2^64; then base; then length
unfoldable pub encode : Cap → List ℕ
encode c =
    to_be 8 (first_word c) ++ (to_be 8 (address_at c.base c.offset).0 ++ (to_be 8 c.base.0 ++ to_be 8 c.length))

-- the doubleword number i of a line
unfoldable pub word : ℕ → List ℕ → ℕ
word i l = be (take 8 (drop (i * 8) l)) % 2 ^ 64

-- loading takes offset as the second doubleword minus the third, mod 2^64
unfoldable pub from_words : Bool → ℕ → ℕ → ℕ → ℕ → Cap
from_words tag first second base length =
    record {
      tag = tag;
      sealed = eqb (first % 2) 1;
      perms = first / 2 % 2 ^ 31;
      otype = first / 2 ^ 32 % 2 ^ 24;
      spare = first / 2 ^ 56;
      base = record { 0 = base };
      length = length;
      offset = offset_to (record { 0 = base }) (record { 0 = second });
    }

unfoldable pub decode : Bool → List ℕ → Cap
decode tag l = from_words tag (word 0 l) (word 1 l) (word 2 l) (word 3 l)

-- the capability in the bytes handed out
unfoldable pub cap_in : Bool → List ℕ → Option Cap
cap_in tag part = cond (eqb (length part) 32) (Some (decode tag part)) None

-- a load from RAM with the line's tag; a capability load from flash gives an untagged register
unfoldable pub load_cap : List ℕ → List ℕ → List ℕ → Address → Option Cap
load_cap flash ram tags a = cap_in (tag_at tags (place_of (length flash) (length ram) a 32)) (bytes_of flash ram a 32)
