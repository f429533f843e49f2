-- Loads and stores through a capability (004, chapter 4; 01, "Access and fetch"): each a page, one check a line.
-- rd and cd are registers' numbers, cb and cs registers with what they hold, rs and rt general registers' values.
use Rattle.std.specs.Prelude.{ℕ, ◌≡◌, Bool, ◌||◌, not, Result, Ok, Err}
use Rattle.manual.specs.declared.Size.{Size}
use Rattle.manual.specs.declared.Size.TheVariants.{Line}
use Rattle.manual.specs.declared.Address.{Address}
use Rattle.manual.specs.Number.{bytes_in}
use Rattle.manual.specs.declared.Cap.{Cap}
use Rattle.manual.specs.Cap.{permits, GLOBAL, LOAD, STORE, LOAD_CAPABILITY, STORE_CAPABILITY, STORE_LOCAL}
use Rattle.manual.specs.Access.{access_of, placed}
use Rattle.manual.specs.declared.Named.{Named}
use Rattle.manual.specs.declared.Fault.{Fault}
use Rattle.manual.specs.declared.Effect.{Effect}
use Rattle.manual.specs.Checks.{Checked, ok, fail, finish, settle, ◌>>◌, that, opened, tagged, unsealed, granted, lacking, LENGTH}
use Rattle.manual.specs.declared.Unfit.{Unfit}

-- where it lies, with the effect there
abbrev pub lies : Result Address Fault → (Address → Effect) → Checked
lies (Ok a) effect = ok (effect a)
lies (Err fault) effect = fail fault

-- CLB, CLH, CLW, CLD, CLBU, CLHU, CLWU: Load Via Capability Register
unfoldable pub load : Size → Bool → ℕ → Cap → ℕ → Named → ℕ → Checked
load size signed immediate pcc rd cb rt = do
  opened pcc cb.number
  tagged cb
  unsealed cb
  granted LOAD cb
  lies (placed (access_of cb.cap rt immediate (bytes_in size)) cb.number Fault.Misaligned) (λ a. Effect.Load size signed a rd)

-- CSB, CSH, CSW, CSD: Store Via Capability Register
unfoldable pub store : Size → ℕ → Cap → ℕ → Named → ℕ → Checked
store size immediate pcc rs cb rt = do
  opened pcc cb.number
  tagged cb
  unsealed cb
  granted STORE cb
  lies (placed (access_of cb.cap rt immediate (bytes_in size)) cb.number Fault.StoreMisaligned) (λ a. Effect.Store size a rs)

-- CLC: Load Capability Register. Its immediate counts bytes (ruling A21).
unfoldable pub c_lc : ℕ → Cap → ℕ → Named → ℕ → Checked
c_lc immediate pcc cd cb rt = do
  opened pcc cd
  opened pcc cb.number
  tagged cb
  unsealed cb
  granted LOAD_CAPABILITY cb
  lies (placed (access_of cb.cap rt immediate (bytes_in Line)) cb.number Fault.Misaligned) (λ a. Effect.LoadCapability a cd)

-- not cb.perms.Permit_Store_Local_Capability and cs.tag and not cs.perms.Global is refused
unfoldable pub may_store : Cap → Cap → Bool
may_store c by = permits by STORE_LOCAL || (not c.tag || permits c GLOBAL)

-- CSC: Store Capability Register. The store-local test names cb (ruling A21).
unfoldable pub c_sc : ℕ → Cap → Named → Named → ℕ → Checked
c_sc immediate pcc cs cb rt = do
  opened pcc cs.number
  opened pcc cb.number
  tagged cb
  unsealed cb
  granted STORE_CAPABILITY cb
  that (may_store cs.cap cb.cap) (lacking STORE_LOCAL) cb.number
  lies (placed (access_of cb.cap rt immediate (bytes_in Line)) cb.number Fault.StoreMisaligned) (λ a. Effect.StoreCapability a cs.cap)

-- r is the answer of the first checks of an access
abbrev pub Through : Cap → Named → ℕ → Result (Unit {0}) Fault → Type 0
Through pcc cb permission r = (rest : Checked) → finish r rest ≡ settle (opened pcc cb.number (tagged cb (unsealed cb (granted permission cb rest))))
