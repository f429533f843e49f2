-- The instructions that look at a capability and leave it alone (004, chapter 4): each a page, one check a line.
-- rd is a register's number, cb, cs and ct are registers with what they hold, rt is a general register's value.
use Rattle.std.specs.Prelude.{ℕ, ◌%◌, ◌^◌, cond, eqb, Result}
use Rattle.std.specs.Int.Bits.{bit_and}
use Rattle.manual.specs.Number.{address_at, offset_to}
use Rattle.manual.specs.Store.{bit}
use Rattle.manual.specs.declared.Cap.{Cap}
use Rattle.manual.specs.Cap.{permits, ACCESS_EPCC}
use Rattle.manual.specs.declared.Field.{Field}
use Rattle.manual.specs.declared.Named.{Named}
use Rattle.manual.specs.declared.Effect.{Effect}
use Rattle.manual.specs.Checks.{Checked, Guards, ok, lacking, that, opened, tagged, granted, SEAL, TYPE, USER, NO_REGISTER, ◌>>◌}
use Rattle.manual.specs.declared.Fault.{Fault}

abbrev pub field_of : Field → Cap → ℕ
field_of Field.Base c = c.base.0
field_of Field.Length c = c.length
field_of Field.Offset c = c.offset.0
field_of Field.Perms c = c.perms
field_of Field.Tag c = bit c.tag
field_of Field.Sealed c = bit c.sealed
field_of Field.Otype c = c.otype

-- CGetBase, CGetLen, CGetOffset, CGetPerm, CGetTag, CGetSealed, CGetType: Move the field to a General-Purpose Register
unfoldable pub get : Field → Cap → ℕ → Named → Checked
get field pcc rd cb = do
  opened pcc cb.number
  ok (Effect.General rd (field_of field cb.cap))

-- PCC is reported as 255 (ruling A19)
abbrev pub itself : Cap → Named
itself pcc = record { number = NO_REGISTER; cap = pcc }

-- CGetCause: Move the Capability Exception Cause Register to a General-Purpose Register
unfoldable pub c_get_cause : Cap → ℕ → ℕ → Checked
c_get_cause pcc cause rd = do
  granted ACCESS_EPCC (itself pcc)
  ok (Effect.General rd cause)

-- CSetCause: Set the Capability Exception Cause Register to rt[0 .. 15]
unfoldable pub c_set_cause : Cap → ℕ → Checked
c_set_cause pcc rt = do
  granted ACCESS_EPCC (itself pcc)
  ok (Effect.Cause (rt % 2 ^ 16))

-- 0 for an untagged cb; else (cb.base + cb.offset - ct.base) mod 2^64 (ruling A16)
unfoldable pub pointer_of : Cap → Cap → ℕ
pointer_of c from = cond c.tag (offset_to from.base (address_at c.base c.offset)).0 0

-- CToPtr: Capability to Pointer
unfoldable pub c_to_ptr : Cap → ℕ → Named → Named → Checked
c_to_ptr pcc rd cb ct = do
  opened pcc cb.number
  opened pcc ct.number
  tagged ct
  ok (Effect.General rd (pointer_of cb.cap ct.cap))

-- CCheckPerm: Raise exception if don't have permission. All 64 bits of rt count (ruling A8); the seal does not (A17).
unfoldable pub c_check_perm : Cap → Named → ℕ → Checked
c_check_perm pcc cs rt = do
  opened pcc cs.number
  tagged cs
  that (eqb (bit_and cs.cap.perms rt) rt) USER cs.number
  ok Effect.Nothing

-- CCheckType: Raise exception if otypes don't match. Type names cs (ruling A17).
unfoldable pub c_check_type : Cap → Named → Named → Checked
c_check_type pcc cs cb = do
  opened pcc cs.number
  opened pcc cb.number
  tagged cs
  tagged cb
  that cs.cap.sealed SEAL cs.number
  that cb.cap.sealed SEAL cb.number
  that (eqb cs.cap.otype cb.cap.otype) TYPE cs.number
  ok Effect.Nothing

-- r is the check that PCC may reach the cause register
abbrev pub CauseOpen : Cap → Result (Unit {0}) Fault → Type 0
CauseOpen pcc r = Guards (permits pcc ACCESS_EPCC) (Fault.Raise (lacking ACCESS_EPCC) NO_REGISTER) r
