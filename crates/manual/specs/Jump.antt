-- Branches, jumps and the two instructions that only raise (004, chapter 4): each a page, one check a line.
-- cd is a register's number, cb a register with what it holds, rs and rt general registers' values, words a signed count as 64 bits.
use Rattle.std.specs.Prelude.{ℕ, ◌+◌, ◌≡◌, leb, Result}
use Rattle.manual.specs.declared.Cap.{Cap}
use Rattle.manual.specs.Cap.{GLOBAL, EXECUTE}
use Rattle.manual.specs.Access.{aligned}
use Rattle.manual.specs.Narrow.{inc_offset}
use Rattle.manual.specs.declared.Named.{Named}
use Rattle.manual.specs.declared.Fault.{Fault}
use Rattle.manual.specs.declared.Effect.{Effect}
use Rattle.manual.specs.Checks.{Checked, ok, fail, guard, finish, settle, that, opened, tagged, unsealed, granted, LENGTH, CALL, RETURN, NO_REGISTER, ◌>>◌}

-- what both jumps ask of their target; offset + 4 <= length exactly (ruling A23)
abbrev pub jumpable : Named → Checked → Checked
jumpable cb rest = do
  tagged cb
  unsealed cb
  granted EXECUTE cb
  granted GLOBAL cb
  that (leb (cb.cap.offset.0 + 4) cb.cap.length) LENGTH cb.number
  guard (aligned (cb.cap.base.0 + cb.cap.offset.0) 4) Fault.Misaligned
  rest

-- CJR: Jump Capability Register
unfoldable pub c_jr : Cap → Named → Checked
c_jr pcc cb = do
  opened pcc cb.number
  jumpable cb
  ok (Effect.Jump cb.cap)

-- CJALR: Jump and Link Capability Register. The link is PCC with PC + 8 (ruling A11); cb is read before cd is written (A2).
unfoldable pub c_jalr : Cap → ℕ → Named → Checked
c_jalr pcc cd cb = do
  opened pcc cd
  opened pcc cb.number
  jumpable cb
  ok (Effect.Link cd (inc_offset pcc 8) cb.cap)

-- CCall: Call into a new security domain. It only raises, and makes no access check (ruling A12).
unfoldable pub c_call : ℕ → Checked
c_call cs = fail (Fault.Raise CALL cs)

-- CReturn: Return to the previous security domain. It only raises, and names no register.
unfoldable pub c_return : Checked
c_return = fail (Fault.Raise RETURN NO_REGISTER)

-- r is the answer of the checks of a jump
abbrev pub Asks : Named → Result (Unit {0}) Fault → Type 0
Asks cb r = (rest : Checked) → finish r rest ≡ settle (jumpable cb rest)
