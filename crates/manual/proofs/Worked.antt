-- The definitions on worked cases, where two tests could be taken in another order, or a rule the other way round. Assumes nothing.
use Rattle.std.specs.Prelude.{Ok, Err, None}
use Prim.Native.Nat.{◌^◌}
use mathlib.Core.Path.{◌≡◌, refl}
use mathlib.Core.Bool.{true, false}
use mathlib.Core.List.{[], ◌∷◌}
use lib.ListN.{replicate}
use Rattle.manual.specs.declared.Cap.{Cap}
use Rattle.manual.specs.declared.Place.{Place}
use Rattle.manual.specs.declared.Named.{Named}
use Rattle.manual.specs.declared.Fault.{Fault}
use Rattle.manual.specs.declared.Refusal.{Refusal}
use Rattle.manual.specs.Number.{plus_mod}
use Rattle.manual.specs.Cap.{register_open}
use Rattle.manual.specs.Place.{place_of}
use Rattle.manual.specs.Store.{put, with_tag, ram_after, tags_after}
use Rattle.manual.specs.Access.{signed, sum_of, placed_at, placed_from, access_of}
use Rattle.manual.specs.Compute.{signed_less}
use Rattle.manual.specs.Checks.{settle, SEAL}
use Rattle.manual.specs.Narrow.{null, from_ptr}
use Rattle.manual.specs.Seal.{c_seal}
use Rattle.manual.specs.Compare.{is_less}
use Rattle.manual.specs.Accept.{every, top_fits, verdict_of}
use Rattle.manual.specs.declared.Unfit.{Unfit}

-- all permissions, from address 0 on
abbrev free : Cap
free = record { tag = true; sealed = false; perms = 0x7fffffff; otype = 0; spare = 1; base = record { 0 = 0 }; length = 0x2000000; offset = record { 0 = 0x1000000 } }

abbrev shut : Named
shut = record { number = 2; cap = record { tag = true; sealed = true; perms = 0; otype = 5; spare = 0; base = record { 0 = 0 }; length = 0; offset = record { 0 = 0 } } }

abbrev past_24_bits : Named
past_24_bits = record { number = 3; cap = free }

-- the last 8 bytes below 2^64
abbrev highest : Cap
highest = record { tag = true; sealed = false; perms = 0; otype = 0; spare = 0; base = record { 0 = 0 }; length = 0xffffffffffffffff; offset = record { 0 = 0xfffffffffffffff8 } }

-- tagged, and it ends past 2^64
abbrev too_high : Cap
too_high = record { tag = true; sealed = false; perms = 0; otype = 0; spare = 0; base = record { 0 = 0xffffffffffffffff }; length = 2; offset = record { 0 = 0 } }

-- 2^63 is the least of the signed numbers
least_is_less : signed_less (2 ^ 63) 0 ≡ true
unfolding signed_less plus_mod
least_is_less = refl

-- of the null pointer nothing is kept, the spare bits neither
null_of_zero : from_ptr free 0 ≡ null
unfolding from_ptr
null_of_zero = refl

-- an offset, a register below zero and an immediate
sum_is_exact : access_of free 0xfffffffffffffff0 8 8 ≡ Ok (record { 0 = 0xfffff8 })
unfolding access_of sum_of signed placed_from placed_at
sum_is_exact = refl

-- 8 bytes further lies 2^64, and not 0
sum_does_not_wrap : access_of highest 8 0 8 ≡ (Err Unfit.Length)
unfolding access_of sum_of signed placed_from placed_at
sum_does_not_wrap = refl

-- a store past the end of a RAM of one line
abbrev past_the_end : Place
past_the_end = place_of 0 32 (record { 0 = 0x100020 }) 8

past_the_end_no_byte : ram_after past_the_end (replicate 32 7) (replicate 8 9) ≡ replicate 32 7
unfolding place_of put
past_the_end_no_byte = refl

past_the_end_no_tag : tags_after past_the_end (1 ∷ []) false ≡ (1 ∷ [])
unfolding place_of with_tag
past_the_end_no_tag = refl

-- a sealed capability is refused before a type past 24 bits is
sealed_before_type : settle (c_seal free 1 shut past_24_bits) ≡ Err (Fault.Raise SEAL 2)
unfolding c_seal settle register_open
sealed_before_type = refl

-- whatever the cursors, an untagged capability is less than a tagged one
untagged_is_less : is_less null free ≡ true
unfolding is_less
untagged_is_less = refl

tagged_is_not_less : is_less free null ≡ false
unfolding is_less
tagged_is_not_less = refl

-- a capability may end at 2^64
abbrev to_the_top : Cap
to_the_top = record { tag = true; sealed = false; perms = 0; otype = 0; spare = 0; base = record { 0 = 0xfffffffffffffff8 }; length = 8; offset = record { 0 = 0 } }

top_fits_at_2_to_64 : top_fits to_the_top ≡ true
top_fits_at_2_to_64 = refl

-- 21 before 22
tag_byte_before_top : verdict_of [] too_high None 0 0 (replicate 32 0) (2 ∷ []) ≡ Err Refusal.TagByte
unfolding verdict_of every
tag_byte_before_top = refl
