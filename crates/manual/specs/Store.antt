-- Tags, and what a store leaves (01, "Memory").
use Rattle.std.specs.Prelude.{ℕ, ◌+◌, ◌/◌, List, Bool, true, false, cond, length, get_or, set, leb, eqb, Result, Ok, Err}
use Rattle.std.proofs.lemmas.List.Edits.{sets}
use Rattle.manual.specs.Number.{LINE}
use Rattle.manual.specs.declared.Place.{Place}
use Rattle.manual.specs.declared.Place.TheVariants.{Flash, Ram, Nowhere}
use Rattle.manual.specs.declared.Fault.{Fault}

abbrev pub bit : Bool → ℕ
bit true = 1
bit false = 0

-- the list with these bytes from an index on, every other byte as it was; unchanged where they do not fit
unfoldable pub put : List ℕ → ℕ → List ℕ → List ℕ
put l at bytes = cond (leb (at + length bytes) (length l)) (sets l at bytes) l

-- each line has a tag byte, 0 or 1
unfoldable pub tag_of : List ℕ → ℕ → Bool
tag_of tags line = eqb (get_or tags line 0) 1

unfoldable pub with_tag : List ℕ → ℕ → Bool → List ℕ
with_tag tags line tag = set tags line (bit tag)

-- flash has no tags
abbrev pub tag_at : List ℕ → Place → Bool
tag_at tags (Flash i) = false
tag_at tags (Ram i) = tag_of tags (i / LINE)
tag_at tags Nowhere = false

-- a store goes into RAM alone
abbrev pub answer_at : Place → Result (Unit {0}) Fault
answer_at (Flash i) = Err Fault.IntoFlash
answer_at (Ram i) = Ok tt
answer_at Nowhere = Err Fault.Nowhere

-- the bytes from the place on, every other byte as it was
abbrev pub ram_after : Place → List ℕ → List ℕ → List ℕ
ram_after (Flash i) ram bytes = ram
ram_after (Ram i) ram bytes = put ram i bytes
ram_after Nowhere ram bytes = ram

-- the tag of the line hit, every other tag as it was
abbrev pub tags_after : Place → List ℕ → Bool → List ℕ
tags_after (Flash i) tags tag = tags
tags_after (Ram i) tags tag = with_tag tags (i / LINE) tag
tags_after Nowhere tags tag = tags
