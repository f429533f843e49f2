-- The instructions that derive a capability from another (004, chapter 4): each a page, one check a line.
-- cd is a register's number, cb, cs and ct are registers with what they hold, rt is a general register's value.
use Rattle.std.specs.Prelude.{ℕ, Bool, not, ◌&&◌, ◌||◌, eqb, leb}
use Rattle.manual.specs.declared.Cap.{Cap}
use Rattle.manual.specs.Narrow.{and_perms, clear_tag, inc_base, set_length, set_offset, inc_offset, from_ptr}
use Rattle.manual.specs.declared.Named.{Named}
use Rattle.manual.specs.declared.Effect.TheVariants.{Capability}
use Rattle.manual.specs.Checks.{Checked, ok, that, opened, tagged, unsealed, LENGTH, TAG, SEAL, ◌>>◌}

abbrev pub is_zero : ℕ → Bool
is_zero n = eqb n 0

-- CGetPCC: Move PCC to capability register. PCC's offset is the PC.
unfoldable pub c_get_pcc : Cap → ℕ → Checked
c_get_pcc pcc cd = do
  opened pcc cd
  ok (Capability cd pcc)

-- CAndPerm: Restrict Permissions
unfoldable pub c_and_perm : Cap → ℕ → Named → ℕ → Checked
c_and_perm pcc cd cb rt = do
  opened pcc cd
  opened pcc cb.number
  tagged cb
  unsealed cb
  ok (Capability cd (and_perms cb.cap rt))

-- CClearTag: Clear the tag bit
unfoldable pub c_clear_tag : Cap → ℕ → Named → Checked
c_clear_tag pcc cd cb = do
  opened pcc cd
  opened pcc cb.number
  ok (Capability cd (clear_tag cb.cap))

-- CIncBase: Increase Base. By 0 it is a plain move, also of data or of a sealed capability (ruling A14).
unfoldable pub c_inc_base : Cap → ℕ → Named → ℕ → Checked
c_inc_base pcc cd cb rt = do
  opened pcc cd
  opened pcc cb.number
  that (cb.cap.tag || is_zero rt) TAG cb.number
  that (not cb.cap.sealed || is_zero rt) SEAL cb.number
  that (leb rt cb.cap.length) LENGTH cb.number
  ok (Capability cd (inc_base cb.cap rt))

-- CSetLen: Set Length
unfoldable pub c_set_len : Cap → ℕ → Named → ℕ → Checked
c_set_len pcc cd cb rt = do
  opened pcc cd
  opened pcc cb.number
  tagged cb
  unsealed cb
  that (leb rt cb.cap.length) LENGTH cb.number
  ok (Capability cd (set_length cb.cap rt))

-- CSetOffset: Set cursor to an offset from base. Only a sealed capability is refused, not sealed data (ruling A15).
unfoldable pub c_set_offset : Cap → ℕ → Named → ℕ → Checked
c_set_offset pcc cd cb rt = do
  opened pcc cd
  opened pcc cb.number
  that (not (cb.cap.tag && cb.cap.sealed)) SEAL cb.number
  ok (Capability cd (set_offset cb.cap (record { 0 = rt })))

-- CIncOffset: Increase Offset. By 0 too a sealed capability is refused (ruling A3).
unfoldable pub c_inc_offset : Cap → ℕ → Named → ℕ → Checked
c_inc_offset pcc cd cb rt = do
  opened pcc cd
  opened pcc cb.number
  that (not (cb.cap.tag && cb.cap.sealed)) SEAL cb.number
  ok (Capability cd (inc_offset cb.cap rt))

-- CFromPtr: Create capability from pointer. The page's branch for rt = 0 comes before the last three checks, so each asks it first.
unfoldable pub c_from_ptr : Cap → ℕ → Named → ℕ → Checked
c_from_ptr pcc cd cb rt = do
  opened pcc cd
  opened pcc cb.number
  that (is_zero rt || cb.cap.tag) TAG cb.number
  that (is_zero rt || not cb.cap.sealed) SEAL cb.number
  that (is_zero rt || leb rt cb.cap.length) LENGTH cb.number
  ok (Capability cd (from_ptr cb.cap rt))
