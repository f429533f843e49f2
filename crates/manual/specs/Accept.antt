-- Whether a start is accepted: 20 is tested before 21 before 22 before 24 (01, "Stop numbers").
use Rattle.std.specs.Prelude.{ℕ, zero, suc, ◌+◌, ◌*◌, ◌%◌, ◌^◌, Bool, true, false, cond, not, ◌&&◌, List, [], length, get_or, eqb, ltb, Result, Option, Ok, Err, Some, None}
use Rattle.manual.specs.declared.Address.{Address}
use Rattle.manual.specs.Place.{RAM_BASE, memory_fits, tags_fit}
use Rattle.manual.specs.Store.{tag_of}
use Rattle.manual.specs.declared.Cap.{Cap}
use Rattle.manual.specs.Cap.{in_widths}
use Rattle.manual.specs.Line.{load_cap}
use Rattle.manual.specs.Narrow.{null}
use Rattle.manual.specs.declared.Refusal.{Refusal}

-- the n numbers from i on all pass
unfoldable pub every : ℕ → ℕ → (ℕ → Bool) → Bool
every zero i passes = true
every (suc n) i passes = cond (passes i) (every n (suc i) passes) false

-- 20: a size of flash, RAM or tags is wrong
abbrev pub sizes_fit : ℕ → ℕ → ℕ → Bool
sizes_fit flash ram tags = (memory_fits flash && memory_fits ram) && tags_fit ram tags

-- 21: a tag byte above 1
abbrev pub tag_bytes_fit : List ℕ → Bool
tag_bytes_fit tags = every (length tags) 0 (λ i. not (ltb 1 (get_or tags i 0)))

-- 22: a tagged capability (register, PCC, pending or line) with base + length > 2^64
abbrev pub top_fits : Cap → Bool
top_fits c = not (c.tag && ltb (2 ^ 64) (c.base.0 + c.length))

abbrev pub caps_fit : List Cap → Bool
caps_fit caps = every 32 0 (λ i. top_fits (get_or caps i null))

abbrev pub jump_fits : Option Cap → Bool
jump_fits None = true
jump_fits (Some c) = top_fits c

abbrev pub loaded_fits : Option Cap → Bool
loaded_fits (Some c) = top_fits c
loaded_fits None = true

-- the first byte of a line (there are at most 2,048)
abbrev pub line_at : ℕ → Address
line_at line = record { 0 = RAM_BASE + line % 2 ^ 24 * 32 }

abbrev pub line_fits : List ℕ → List ℕ → ℕ → Bool
line_fits ram tags line = cond (tag_of tags line) (loaded_fits (load_cap [] ram tags (line_at line))) true

abbrev pub lines_fit : List ℕ → List ℕ → Bool
lines_fit ram tags = every (length tags) 0 (line_fits ram tags)

-- 24: an otype or permission field past its width, or general register 0 not zero
abbrev pub width_fits : Cap → Bool
width_fits c = in_widths c.perms c.otype

abbrev pub widths_fit : List Cap → Bool
widths_fit caps = every 32 0 (λ i. width_fits (get_or caps i null))

abbrev pub jump_width : Option Cap → Bool
jump_width None = true
jump_width (Some c) = width_fits c

unfoldable pub verdict_of : List Cap → Cap → Option Cap → ℕ → ℕ → List ℕ → List ℕ → Result (Unit {0}) Refusal
verdict_of caps pcc pending first flash ram tags =
    cond (sizes_fit flash (length ram) (length tags))
    (cond (tag_bytes_fit tags)
    (cond ((caps_fit caps && (top_fits pcc && jump_fits pending)) && lines_fit ram tags)
    (cond ((widths_fit caps && (width_fits pcc && jump_width pending)) && eqb first 0)
    (Ok tt)
    (Err Refusal.Width))
    (Err Refusal.Top))
    (Err Refusal.TagByte))
    (Err Refusal.Sizes)
