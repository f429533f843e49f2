-- What code can come to by the capabilities that it starts with (01, "Reach").
use Rattle.std.specs.Prelude.{ℕ, ◌+◌, ◌*◌, ◌≤◌, ◌<◌, ◌≡◌, true, List, take, drop, Some}
use Rattle.manual.specs.Number.{LINE}
use Rattle.manual.specs.Place.{RAM_BASE}
use Rattle.manual.specs.Store.{tag_of}
use Rattle.manual.specs.declared.Cap.{Cap}
use Rattle.manual.specs.Cap.{permits, EXECUTE, LOAD, STORE, LOAD_CAPABILITY, STORE_CAPABILITY}
use Rattle.manual.specs.Line.{decode}
use Rattle.manual.specs.declared.Machine.{Machine}
use Rattle.manual.specs.State.{capability}

-- the memories that a caller lends
pub record Memories : Type 0 where
  pub flash : List ℕ
  pub ram : List ℕ
  pub tags : List ℕ

-- the address lies in the capability's range
pub record Covers (c : Cap) (address : ℕ) : Type 0 where
  pub low : c.base.0 ≤ address
  pub high : address < c.base.0 + c.length

-- and so many bytes from it on
pub record Spans (c : Cap) (address bytes : ℕ) : Type 0 where
  pub low : c.base.0 ≤ address
  pub high : address + bytes ≤ c.base.0 + c.length

-- the first byte of a RAM line, and the capability that the line holds
abbrev pub line_address : ℕ → ℕ
line_address line = RAM_BASE + line * LINE

unfoldable pub line_cap : Memories → ℕ → Cap
line_cap x line = decode (tag_of x.tags line) (take LINE (drop (line * LINE) x.ram))

-- C0..C31, PCC or the pending jump holds this capability
pub data Held (m : Machine) (c : Cap) : Type 0 where
  in_register : (i : ℕ) → i < 32 → capability m i ≡ c → Held m c
  in_pcc : m.pcc ≡ c → Held m c
  in_pending : m.pending ≡ Some c → Held m c

-- The smallest set holding every tagged capability in C0..C31, PCC and the pending jump, and, for each member with
-- Permit_Load_Capability, the capability of each tagged RAM line wholly in that member's range. Sealed members count like others.
pub data Reach (m : Machine) (x : Memories) : Cap → Type 0 where
  held : {c : Cap} → Held m c → c.tag ≡ true → Reach m x c
  line : {c d : Cap} (i : ℕ) → Reach m x d → permits d LOAD_CAPABILITY ≡ true → Spans d (line_address i) LINE → tag_of x.tags i ≡ true
      → line_cap x i ≡ c → Reach m x c

-- Load, Load_Capability and Execute each read: fetching reads too
pub data Reads (c : Cap) : Type 0 where
  by_load : permits c LOAD ≡ true → Reads c
  by_load_capability : permits c LOAD_CAPABILITY ≡ true → Reads c
  by_execute : permits c EXECUTE ≡ true → Reads c

pub data Writes (c : Cap) : Type 0 where
  by_store : permits c STORE ≡ true → Writes c
  by_store_capability : permits c STORE_CAPABILITY ≡ true → Writes c

module _ (Member : Cap → Type 0) where
  -- reach can read a byte if a member with Load, Load_Capability or Execute covers it
  pub record CanRead (address : ℕ) : Type 0 where
    pub by : Cap
    pub member : Member by
    pub reads : Reads by
    pub covers : Covers by address

  -- it can load a tag if a member with Load_Capability covers the whole line
  pub record CanLoad (line : ℕ) : Type 0 where
    pub by : Cap
    pub member : Member by
    pub loads : permits by LOAD_CAPABILITY ≡ true
    pub spans : Spans by (line_address line) LINE

  -- it can write a byte if a member with Store or Store_Capability covers it
  pub record CanWrite (address : ℕ) : Type 0 where
    pub by : Cap
    pub member : Member by
    pub writes : Writes by
    pub covers : Covers by address
