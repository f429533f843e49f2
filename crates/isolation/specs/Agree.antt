-- What two memories, two runs, or the memory before and after a run have in common, as seen by a set of capabilities.
use Rattle.std.specs.Prelude.{ℕ, ◌+◌, ◌<◌, ◌≡◌, true, length, get_or}
use Rattle.manual.specs.Number.{LINE}
use Rattle.manual.specs.Place.{RAM_BASE}
use Rattle.manual.specs.Store.{tag_of}
use Rattle.manual.specs.declared.Cap.{Cap}
use Rattle.manual.specs.Cap.{permits}
use Rattle.manual.specs.Steps.{Ran}
use Rattle.isolation.specs.Reach.{Memories, Covers, line_address, CanRead, CanLoad, CanWrite}

-- the memories that a run leaves: no step writes flash
abbrev pub left : Memories → Ran → Memories
left x r = record { flash = x.flash; ram = r.ram; tags = r.tags }

-- the bytes of c's range and its permissions are d's too
pub record Inside (c d : Cap) : Type 0 where
  pub bytes : (address : ℕ) → Covers c address → Covers d address
  pub permissions : (number : ℕ) → permits c number ≡ true → permits d number ≡ true

module _ (Member : Cap → Type 0) where
  -- c is inside one single member
  pub record Under (c : Cap) : Type 0 where
    pub by : Cap
    pub member : Member by
    pub inside : Inside c by

  -- memories of the same sizes, with the same bytes and tags wherever a member can read or load them
  pub record Agree (x y : Memories) : Type 0 where
    pub flash_size : length x.flash ≡ length y.flash
    pub ram_size : length x.ram ≡ length y.ram
    pub tags_size : length x.tags ≡ length y.tags
    pub flash : (i : ℕ) → CanRead Member i → get_or x.flash i 0 ≡ get_or y.flash i 0
    pub ram : (i : ℕ) → CanRead Member (RAM_BASE + i) → get_or x.ram i 0 ≡ get_or y.ram i 0
    pub tags : (i : ℕ) → CanLoad Member i → tag_of x.tags i ≡ tag_of y.tags i

  -- runs that stop alike: stop, cause, register, place, steps and machine, and what a member can read or load
  pub record Alike (x : Memories) (r : Ran) (y : Memories) (s : Ran) : Type 0 where
    pub outcome : r.outcome ≡ s.outcome
    pub memories : Agree (left x r) (left y s)

  -- what no member can write is as it was: each such byte, and the tag of each line that holds no other
  pub record Kept (x y : Memories) : Type 0 where
    pub flash : x.flash ≡ y.flash
    pub ram : (i : ℕ) → (CanWrite Member (RAM_BASE + i) → ⊥) → get_or x.ram i 0 ≡ get_or y.ram i 0
    pub tags : (i : ℕ) → ((j : ℕ) → j < LINE → CanWrite Member (line_address i + j) → ⊥) → tag_of x.tags i ≡ tag_of y.tags i
