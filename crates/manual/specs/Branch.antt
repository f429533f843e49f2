-- Branches: one check a line, in the order of its page of 004, and the effect last.
use Rattle.std.specs.Prelude.{ℕ, ◌+◌, ◌-◌, ◌*◌, ◌%◌, ◌^◌, Bool, cond, not, eqb, leb, ltb}
use Rattle.manual.specs.declared.Offset.{Offset}
use Rattle.manual.specs.Number.{moved_by}
use Rattle.manual.specs.declared.Cap.{Cap}
use Rattle.manual.specs.Narrow.{set_offset}
use Rattle.manual.specs.declared.Named.{Named}
use Rattle.manual.specs.declared.Effect.{Effect}
use Rattle.manual.specs.Checks.{Checked, ok, fork, that, opened, LENGTH, NO_REGISTER, ◌>>◌}

abbrev pub wanted : Bool → Bool → Bool
wanted want test = cond want test (not test)

-- 4 * sign_extend(offset), of the 16 bits that an offset has, as 64 bits
abbrev pub bytes_off : ℕ → ℕ
bytes_off words = words % 2 ^ 62 * 4

-- PC + 4 * sign_extend(offset) + 4 mod 2^64
abbrev pub branch_offset : Offset → ℕ → Offset
branch_offset pc words = moved_by (moved_by pc 4) (bytes_off words)

-- PCC with the target as its offset, every other field kept (ruling A11)
unfoldable pub branch_to : Cap → ℕ → Cap
branch_to pcc words = set_offset pcc (branch_offset pcc.offset words)

-- PC + 4 * sign_extend(offset) + 4 <= length, exactly: a negative part counts on the other side (rulings A4, A5)
unfoldable pub not_past : ℕ → ℕ → ℕ → Bool
not_past pc bytes length = cond (ltb bytes (2 ^ 63)) (leb (pc + 4 + bytes) length) (leb (pc + 4) (length + (2 ^ 64 - bytes)))

-- BEQ, BNE: no length test; the fetch after the slot makes it (ruling A6)
unfoldable pub branch : Bool → ℕ → Cap → ℕ → ℕ → Checked
branch equal words pcc rs rt = fork (wanted equal (eqb rs rt)) (ok (Effect.Jump (branch_to pcc words))) (ok Effect.Nothing)

-- CBTS: Branch if tag is set; CBTU: Branch if tag is unset. Length names no register.
unfoldable pub branch_tag : Bool → ℕ → Cap → Named → Checked
branch_tag set words pcc cb = do
  opened pcc cb.number
  fork (wanted set cb.cap.tag)
      (do
        that (not_past pcc.offset.0 (bytes_off words) pcc.length) LENGTH NO_REGISTER
        ok (Effect.Jump (branch_to pcc words)))
      (ok Effect.Nothing)
