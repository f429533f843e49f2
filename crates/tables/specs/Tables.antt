-- A case of a table as the second program lays it out (second/src/generate/format.rs); what is read past the end is 0.
use Rattle.std.specs.Prelude.{ℕ, zero, suc, ◌+◌, ◌*◌, ◌%◌, ◌^◌, cond, List, [], length, take, drop, replicate, ◌==◌, nat_le, nat_lt, slice_index, slice_set, Some, None}
use Rattle.manual.specs.Number.{be}
use Rattle.manual.specs.Store.{put}
use Rattle.manual.specs.declared.Cap.{Cap}
use Rattle.manual.specs.Narrow.{null}
use Rattle.manual.specs.declared.Machine.{Machine}

abbrev pub byte_at : List ℕ → ℕ → ℕ
byte_at s at = slice_index s at

-- places count mod 2^64
abbrev pub place_after : ℕ → ℕ → ℕ
place_after at bytes = (at + bytes) % 2 ^ 64

-- bytes that are cut are none, and a number of none is 0
unfoldable pub part_at : List ℕ → ℕ → ℕ → List ℕ
part_at s at size = cond (nat_le (at + size) (length s)) (take size (drop at s)) []

abbrev pub number_at : List ℕ → ℕ → ℕ → ℕ
number_at s at size = be (part_at s at size) % 2 ^ 64

abbrev pub number4 : List ℕ → ℕ → ℕ
number4 s at = number_at s at 4 % 2 ^ 32

-- where the count of general registers stands, of the machine at `start`, then that of capabilities, then its end
abbrev pub general_count : ℕ → ℕ
general_count start = place_after start 2

abbrev pub cap_count : List ℕ → ℕ → ℕ
cap_count body start = place_after (place_after (general_count start) 1) (9 * byte_at body (general_count start))

abbrev pub machine_end : List ℕ → ℕ → ℕ
machine_end body start = place_after (place_after (cap_count body start) 1) (36 * byte_at body (cap_count body start))

-- so many entries one after the other: where the next one stands, and what each makes of what came before it
unfoldable pub entries : {A : Type 0} → ℕ → (ℕ → ℕ) → (ℕ → A → A) → ℕ → A → A
entries zero next makes at a = a
entries (suc n) next makes at a = entries n next makes (next at) (makes at a)

-- general registers, each a number (1) and a value (8); a number past 31 names none
abbrev pub value_end : ℕ → ℕ
value_end at = place_after at 9

unfoldable pub with_value : List ℕ → ℕ → List ℕ → List ℕ
with_value body at general = cond (nat_lt (byte_at body at) 32) (slice_set general (byte_at body at) (number_at body (place_after at 1) 8)) general

unfoldable pub general_in : List ℕ → ℕ → List ℕ
general_in body start = entries (byte_at body (general_count start)) value_end (with_value body) (place_after (general_count start) 1) (replicate 32 0)

-- tag (1), sealed (1), spare (1), otype (4), permissions (4), base (8), length (8), offset (8)
unfoldable pub cap_in : List ℕ → Cap
cap_in fields = record {
  tag = (byte_at fields 0 == 1);
  sealed = (byte_at fields 1 == 1);
  spare = byte_at fields 2;
  otype = number4 fields 3;
  perms = number4 fields 7;
  base = record { 0 = number_at fields 11 8 };
  length = number_at fields 19 8;
  offset = record { 0 = number_at fields 27 8 };
}

-- 0 to 31 is that register, 32 PCC, 33 the pending jump
unfoldable pub with_named : ℕ → Cap → Machine → Machine
with_named number c m =
    cond (nat_lt number 32) (record { general = m.general; caps = slice_set m.caps number c; pcc = m.pcc; pending = m.pending; cause = m.cause })
    (cond (number == 32) (record { general = m.general; caps = m.caps; pcc = c; pending = m.pending; cause = m.cause })
    (cond (number == 33) (record { general = m.general; caps = m.caps; pcc = m.pcc; pending = Some c; cause = m.cause }) m))

-- capabilities, each a number (1) and its fields (35)
abbrev pub cap_end : ℕ → ℕ
cap_end at = place_after at 36

unfoldable pub with_cap : List ℕ → ℕ → Machine → Machine
with_cap body at m = with_named (byte_at body at) (cap_in (part_at body (place_after at 1) 35)) m

-- registers not named are zero; without number 33 nothing is pending
unfoldable pub machine_in : List ℕ → ℕ → Machine
machine_in body start =
    entries (byte_at body (cap_count body start)) cap_end (with_cap body) (place_after (cap_count body start) 1)
    (record { general = general_in body start; caps = replicate 32 null; pcc = null; pending = None; cause = number_at body start 2 % 2 ^ 16 })

-- a piece: a place (4), a length (2) and that many bytes; one that does not fit changes nothing
unfoldable pub piece_end : List ℕ → ℕ → ℕ
piece_end body at = place_after (place_after at 6) (number_at body (place_after at 4) 2)

unfoldable pub with_piece : List ℕ → ℕ → List ℕ → List ℕ
with_piece body at memory = put memory (number4 body at) (part_at body (place_after at 6) (number_at body (place_after at 4) 2))

-- a memory of so many bytes: its length (4), a byte that fills it (1), a count (4) of pieces, put over the fill; and where it ends
unfoldable pub memory_in : List ℕ → ℕ → ℕ → List ℕ
memory_in body start size =
    entries (number4 body (place_after start 5)) (piece_end body) (with_piece body) (place_after start 9) (replicate size (byte_at body (place_after start 4)))

unfoldable pub memory_end : List ℕ → ℕ → ℕ
memory_end body start =
    entries (number4 body (place_after start 5)) (piece_end body) (λ at _. piece_end body at) (place_after start 9) (place_after start 9)
