-- One pair of starts, worked out: the code of `bus` holds its text and the first line of RAM; the second line is another's, and differs.
use Rattle.std.specs.Prelude.{ℕ, ◌+◌, ◌^◌, ◌≡◌, true, false, List, [], ◌∷◌, ◌++◌, replicate, set, None}
use Rattle.manual.specs.Number.{to_be}
use Rattle.manual.specs.Place.{RAM_BASE}
use Rattle.manual.specs.declared.Cap.{Cap}
use Rattle.manual.specs.Cap.{EXECUTE, LOAD, LOAD_CAPABILITY}
use Rattle.manual.specs.Narrow.{null}
use Rattle.manual.specs.declared.Machine.{Machine}
use Rattle.isolation.specs.Reach.{Memories, Reach, CanRead}
use Rattle.isolation.specs.Agree.{Alike}
use Rattle.isolation.specs.Claims.{ran, Accepted}

-- a tagged capability over so many bytes
abbrev pub over : ℕ → ℕ → ℕ → Cap
over base length perms = record
    { tag = true; sealed = false; perms = perms; otype = 0; spare = 0; base = record { 0 = base }; length = length; offset = record { 0 = 0 } }

abbrev pub text : Cap
text = over 0 32 (2 ^ EXECUTE)

abbrev pub frame : Cap
frame = over RAM_BASE 32 (2 ^ LOAD + 2 ^ LOAD_CAPABILITY)

abbrev pub bus : Machine
bus = record { general = replicate 32 0; caps = set (replicate 32 null) 1 frame; pcc = text; pending = None; cause = 0 }

-- CLBU r2 from C1 at 0, CLC C3 from C1 at 0, then BREAK
abbrev pub image : List ℕ
image = to_be 4 0xC8410000 ++ (to_be 4 0xD8610000 ++ (to_be 4 0x0000000D ++ replicate 20 0))

abbrev pub here : Memories
here = record { flash = image; ram = replicate 64 0; tags = 0 ∷ 0 ∷ [] }

-- the second line has another byte, and a tag
abbrev pub there : Memories
there = record { flash = image; ram = replicate 32 0 ++ (1 ∷ replicate 31 0); tags = 0 ∷ 1 ∷ [] }

-- Both starts are accepted, they differ, the code can read its own line, and for any budget both runs stop alike.
pub record WorkedPair : Type 0 where
  pub here_accepted : Accepted bus here
  pub there_accepted : Accepted bus there
  pub rams_differ : here.ram ≡ there.ram → ⊥
  pub tags_differ : here.tags ≡ there.tags → ⊥
  pub own_line : CanRead (Reach bus here) RAM_BASE
  pub alike : (budget : ℕ) → Alike (Reach bus here) here (ran budget bus here) there (ran budget bus there)
