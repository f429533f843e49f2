-- Capabilities derived from others. The checks of each instruction are made before; every field not named here is kept, spare too.
use Rattle.std.specs.Prelude.{ℕ, ◌+◌, ◌*◌, ◌/◌, ◌%◌, ◌^◌, Bool, true, false, cond, eqb}
use Rattle.std.specs.Int.Bits.{bit_and}
use Rattle.manual.specs.Number.{minus_mod, address_at, moved_by}
use Rattle.manual.specs.declared.Address.{Address}
use Rattle.manual.specs.declared.Offset.{Offset}
use Rattle.manual.specs.Cap.{GLOBAL, permitted}
use Rattle.manual.specs.declared.Cap.{Cap}

-- one field set, or two that go together
abbrev pub with_tagged : Cap → Bool → Cap
with_tagged c t = record
    { tag = t; sealed = c.sealed; perms = c.perms; otype = c.otype; spare = c.spare; base = c.base; length = c.length; offset = c.offset }

abbrev pub with_seal : Cap → Bool → ℕ → Cap
with_seal c s o = record
    { tag = c.tag; sealed = s; perms = c.perms; otype = o; spare = c.spare; base = c.base; length = c.length; offset = c.offset }

abbrev pub with_perms : Cap → ℕ → Cap
with_perms c p = record
    { tag = c.tag; sealed = c.sealed; perms = p; otype = c.otype; spare = c.spare; base = c.base; length = c.length; offset = c.offset }

abbrev pub with_range : Cap → Address → ℕ → Cap
with_range c b n = record
    { tag = c.tag; sealed = c.sealed; perms = c.perms; otype = c.otype; spare = c.spare; base = b; length = n; offset = c.offset }

abbrev pub with_offset : Cap → Offset → Cap
with_offset c o = record
    { tag = c.tag; sealed = c.sealed; perms = c.perms; otype = c.otype; spare = c.spare; base = c.base; length = c.length; offset = o }

-- 01: CFromPtr of 0 gives spare 0, and 0 in any field 004 leaves open
abbrev pub null : Cap
null = record
    { tag = false; sealed = false; perms = 0; otype = 0; spare = 0; base = record { 0 = 0 }; length = 0; offset = record { 0 = 0 } }

-- CAndPerm: cd.perms <- cb.perms and rt[0 .. 30]
unfoldable pub and_perms : Cap → ℕ → Cap
and_perms c mask = with_perms c (bit_and c.perms (mask % 2 ^ 31))

-- CIncBase: cd.base <- cb.base + rt, cd.length <- cb.length - rt; 01: past 64 bits, mod 2^64
unfoldable pub inc_base : Cap → ℕ → Cap
inc_base c by = with_range c (address_at c.base (record { 0 = by })) (minus_mod c.length by)

-- CSetLen: cd.length <- rt
abbrev pub set_length : Cap → ℕ → Cap
set_length c n = with_range c c.base n

-- CSetOffset: cd.offset <- rt
abbrev pub set_offset : Cap → Offset → Cap
set_offset c o = with_offset c o

-- CIncOffset: cd.offset <- (cb.offset + rt) mod 2^64
unfoldable pub inc_offset : Cap → ℕ → Cap
inc_offset c by = with_offset c (moved_by c.offset by)

-- CClearTag: cd.tag <- false
abbrev pub clear_tag : Cap → Cap
clear_tag c = with_tagged c false

-- CSeal: cd.sealed <- true, cd.otype <- ct.base + ct.offset; 01: an otype, mod 2^24
unfoldable pub sealed_by : Cap → Cap → Cap
sealed_by c by = with_seal c true ((by.base.0 + by.offset.0) % 2 ^ 24)

-- cd.perms.Global <- cs.perms.Global and ct.perms.Global: Global is bit 0
unfoldable pub and_global : ℕ → ℕ → ℕ
and_global perms by = cond (permitted by GLOBAL) perms (perms / 2 * 2)

-- CUnseal: cd.sealed <- false, cd.otype <- 0
unfoldable pub unsealed_by : Cap → Cap → Cap
unsealed_by c by = with_perms (with_seal c false 0) (and_global c.perms by.perms)

-- CFromPtr: the null capability for 0, else as CIncBase (ruling A13: the offset is kept)
unfoldable pub from_ptr : Cap → ℕ → Cap
from_ptr c pointer = cond (eqb pointer 0) null (inc_base c pointer)
