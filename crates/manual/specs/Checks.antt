-- Checks as data: an instruction is a `do` block, one check a line, as 004's pseudocode has them.
use Rattle.std.specs.Prelude.{ℕ, ◌+◌, ◌%◌, ◌≡◌, Bool, true, false, cond, not, Result, Ok, Err}
use Rattle.std.specs.Result.{MatchResult}
use Rattle.manual.specs.declared.Cap.{Cap}
use Rattle.manual.specs.Cap.{permits, access_bit, register_open}
use Rattle.manual.specs.declared.Named.{Named}
use Rattle.manual.specs.declared.Fault.{Fault}
use Rattle.manual.specs.declared.Fault.TheVariants.{Raise, Misaligned, StoreMisaligned, Reserved, Nowhere, IntoFlash, Pending, Break}
use Rattle.manual.specs.declared.Effect.{Effect}

-- 01, "Stop numbers"
abbrev pub stop_number : Fault → ℕ
stop_number (Raise cause register) = 1
stop_number Misaligned = 2
stop_number StoreMisaligned = 3
stop_number Reserved = 4
stop_number Nowhere = 5
stop_number IntoFlash = 6
stop_number Pending = 7
stop_number Break = 8

-- 004, table 3.3; without a permission the cause is 0x10 and its number
abbrev pub LENGTH : ℕ
LENGTH = 0x01

abbrev pub TAG : ℕ
TAG = 0x02

abbrev pub SEAL : ℕ
SEAL = 0x03

abbrev pub TYPE : ℕ
TYPE = 0x04

abbrev pub CALL : ℕ
CALL = 0x05

abbrev pub RETURN : ℕ
RETURN = 0x06

abbrev pub USER : ℕ
USER = 0x08

abbrev pub lacking : ℕ → ℕ
lacking permission = (0x10 + permission) % 256

-- 01: an exception that names no register, or PCC, reports 255
abbrev pub NO_REGISTER : ℕ
NO_REGISTER = 255

-- checks, then an effect
pub data Checked : Type 0 where
  ok : Effect → Checked
  fail : Fault → Checked
  guard : Bool → Fault → Checked → Checked
  fork : Bool → Checked → Checked → Checked

-- the first check that fails decides
unfoldable pub settle : Checked → Result Effect Fault
settle (ok effect) = Ok effect
settle (fail fault) = Err fault
settle (guard holds fault rest) = cond holds (settle rest) (Err fault)
settle (fork test one other) = cond test (settle one) (settle other)

-- one line of a `do` block after the other
abbrev pub ◌>>◌ : (Checked → Checked) → Checked → Checked
◌>>◌ check rest = check rest

abbrev pub that : Bool → ℕ → ℕ → Checked → Checked
that holds cause register rest = guard holds (Raise cause register) rest

-- register_inaccessible, raise_c2_exception_v (004, 4.1)
abbrev pub opened : Cap → ℕ → Checked → Checked
opened pcc register rest = that (register_open pcc.perms register) (lacking (access_bit register)) register rest

abbrev pub tagged : Named → Checked → Checked
tagged c rest = that c.cap.tag TAG c.number rest

abbrev pub unsealed : Named → Checked → Checked
unsealed c rest = that (not c.cap.sealed) SEAL c.number rest

abbrev pub granted : ℕ → Named → Checked → Checked
granted permission c rest = that (permits c.cap permission) (lacking permission) c.number rest

-- a check's answer, and what follows it where it passed
unfoldable pub finish : Result (Unit {0}) Fault → Checked → Result Effect Fault
finish (Ok _) rest = settle rest
finish (Err fault) rest = Err fault

-- r is the answer of one check: it passes where it holds, and else raises its fault
abbrev pub Guards : Bool → Fault → Result (Unit {0}) Fault → Type 0
Guards holds fault r = MatchResult r (λ _. holds ≡ true) (λ f. (holds ≡ false) × (f ≡ fault))
