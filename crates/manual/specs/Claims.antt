-- What the definitions promise of the top of memory, of the bytes and tags that a store leaves, one by one, and of a capability's bytes.
use Rattle.std.specs.Prelude.{◌-◌, ◌^◌, ℕ, ◌+◌, ◌%◌, ◌≤◌, ◌<◌, ◌≡◌, ◌⊎◌, Bool, List, length, get_or, take, drop}
use Rattle.manual.specs.declared.Cap.{Cap}
use Rattle.manual.specs.Narrow.{inc_base}
use Rattle.manual.specs.Number.{Bytes, be, to_be}
use Rattle.manual.specs.Store.{put, tag_of, with_tag}
use Rattle.manual.specs.Cap.{Within}
use Rattle.manual.specs.Line.{encode, decode}

-- 01: CIncBase by 8 on base 2^64-8, length 8 gives base 0, length 0
abbrev pub TopIsEmpty : Type 0
TopIsEmpty = (c : Cap) → c.base.0 ≡ 2 ^ 64 - 8 → c.length ≡ 8 → ((inc_base c 8).base.0 ≡ 0) × ((inc_base c 8).length ≡ 0)

-- over every size: what was stored is loaded, and what was loaded is stored
abbrev pub StoredIsLoaded : Type 0
StoredIsLoaded = (l : List ℕ) (at n v : ℕ) → at + n ≤ length l → be (take n (drop at (put l at (to_be n v)))) ≡ v % 256 ^ n

abbrev pub LoadedIsStored : Type 0
LoadedIsStored = (l : List ℕ) → Bytes l → to_be (length l) (be l) ≡ l

-- every other byte as it was
abbrev pub OthersStay : Type 0
OthersStay = (l : List ℕ) (at i : ℕ) (bytes : List ℕ) → (i < at) ⊎ (at + length bytes ≤ i) → get_or (put l at bytes) i 0 ≡ get_or l i 0

-- the tag of the line, every other tag as it was
abbrev pub TagIsSet : Type 0
TagIsSet = (tags : List ℕ) (line : ℕ) (tag : Bool) → line < length tags → tag_of (with_tag tags line tag) line ≡ tag

abbrev pub OtherTagsStay : Type 0
OtherTagsStay = (tags : List ℕ) (line other : ℕ) (tag : Bool) → (other ≡ line → ⊥) → tag_of (with_tag tags line tag) other ≡ tag_of tags other

-- a capability stored and loaded back is the same
abbrev pub CapIsKept : Type 0
CapIsKept = (c : Cap) → Within c → decode c.tag (encode c) ≡ c

-- any 256 bits go through a load and a store unharmed
abbrev pub BitsAreKept : Type 0
BitsAreKept = (tag : Bool) (line : List ℕ) → Bytes line → length line ≡ 32 → encode (decode tag line) ≡ line
