-- A capability through memory and back, by the machine's steps. Assumes nothing.
use Rattle.std.specs.Prelude.{Result, Option, Ok, Err, Some, None}
use Prim.Native.Nat.{ℕ, ◌+◌, ◌/◌, ◌≤◌, ◌<◌}
use mathlib.Core.Path.{◌≡◌, refl, sym, ◌∙◌, ap}
use mathlib.Core.Bool.{Bool, true, false, cond}
use mathlib.Core.List.{List}
use native.Mathlib.Omega.{arith}
use borrow.Author.Tests.{eqb-true, eq-eqb, ltb-true, ltb-false}
use lib.ListN.{length, take, drop, get_or, length-take, get_or-eq_default}
use lib.Dec.{eqb, ltb}
use lib.Seq.{get_or-drop, get_or-take}
use Rattle.manual.specs.declared.Address.{Address}
use Rattle.manual.specs.declared.Place.{Place}
use Rattle.manual.specs.declared.Place.TheVariants.{Flash, Ram, Nowhere}
use Rattle.manual.specs.Number.{LINE, Bytes}
use Rattle.manual.specs.Place.{tags_fit, part_of, bytes_of, place_in}
use Rattle.manual.specs.Store.{put, with_tag, tag_at, answer_at}
use Rattle.manual.proofs.Places.{ram_holds}
use Rattle.manual.proofs.Stores.{put-read, length-put, tag_is_set}
use Rattle.manual.specs.declared.Cap.{Cap}
use Rattle.manual.specs.Cap.{Within}
use Rattle.manual.specs.Narrow.{null}
use Rattle.manual.specs.Line.{encode, from_words, decode, cap_in, load_cap}
use Rattle.manual.proofs.Lines.{cap_is_kept, bits_are_kept, length-encode}
use Rattle.manual.specs.declared.Fault.{Fault}
use Rattle.manual.specs.declared.Effect.{Effect}
use Rattle.manual.specs.declared.Change.{Change}
use Rattle.manual.specs.Perform.{to_capability, stored_turn, cap_turn, turn_of, ram_of, tags_of}
use Rattle.manual.specs.declared.Machine.{Machine}
use Rattle.manual.specs.State.{operands_of}
use Rattle.manual.specs.Steps.{turn_at, ram_at, tags_at}
use Rattle.kept.specs.Kept.{Plans, StoredAndLoaded, LoadedAndStored}

no_turn : (A : Type 0) (f : Fault) (d : Change) → Err f ≡ Ok d → A
no_turn A f d q = let z : ◌≡◌ {A = ℕ} 0 1 = cc in absurd (omega arith)

-- a store that passed lies in RAM
in_ram : (c0 : Cap) (cause : ℕ) (p : Place) (d : Change) → stored_turn c0 cause (answer_at p) ≡ Ok d → (i : ℕ) × (p ≡ Ram i)
in_ram c0 cause (Flash i) d e = no_turn _ _ _ e
in_ram c0 cause (Ram i) d e = (i, refl)
in_ram c0 cause Nowhere d e = no_turn _ _ _ e

module _ (flash ram tags : List ℕ) (a : Address) (i : ℕ) (p : place_in flash ram a 32 ≡ Ram i) where
  fits : i + 32 ≤ length ram
  fits = ram_holds (length flash) (length ram) a 32 i (sym p)

  line_has_tag : tags_fit (length ram) (length tags) ≡ true → i / LINE < length tags
  line_has_tag t = let e = eqb-true (length tags) (length ram / LINE) t in let h = fits in omega arith

  -- the place is the same after the store
  same_place : (c : Cap) → place_in flash (put ram i (encode c)) a 32 ≡ Ram i
  same_place c = rw (length-put ram i (encode c)) p

  bytes_there : (c : Cap) → bytes_of flash (put ram i (encode c)) a 32 ≡ encode c
  unfolding bytes_of
  bytes_there c = rw (same_place c) (put-read ram i 32 (encode c) fits (length-encode c))

  tag_there : (c : Cap) → tags_fit (length ram) (length tags) ≡ true → tag_at (with_tag tags (i / LINE) c.tag) (place_in flash (put ram i (encode c)) a 32) ≡ c.tag
  tag_there c t = rw (same_place c) (tag_is_set tags (i / LINE) c.tag (line_has_tag t))

  loads_back : (c : Cap) → tags_fit (length ram) (length tags) ≡ true → Within c → load_cap flash (put ram i (encode c)) (with_tag tags (i / LINE) c.tag) a ≡ Some c
  unfolding load_cap cap_in
  loads_back c t w = rw (tag_there c t, bytes_there c, eq-eqb (length (encode c)) 32 (length-encode c), cap_is_kept c w)

-- RAM and tags after such a store, and the turn of such a load
module _ (flash ram tags : List ℕ) (m : Machine) (a : Address) where
  ram_left : (c : Cap) (i : ℕ) → Plans flash m ram (Effect.StoreCapability a c) → place_in flash ram a 32 ≡ Ram i → ram_at flash m ram ≡ put ram i (encode c)
  unfolding ram_at ram_of
  ram_left c i p e = rw (p, e)

  tags_left : (c : Cap) (i : ℕ) → Plans flash m ram (Effect.StoreCapability a c) → place_in flash ram a 32 ≡ Ram i → tags_at flash m ram tags ≡ with_tag tags (i / LINE) c.tag
  unfolding tags_at tags_of
  tags_left c i p e = rw (p, e)

  lies_in_ram : (c : Cap) (d : Change) → Plans flash m ram (Effect.StoreCapability a c) → turn_at flash m ram tags ≡ Ok d → (i : ℕ) × (place_in flash ram a 32 ≡ Ram i)
  unfolding turn_at turn_of
  lies_in_ram c d p q = in_ram _ _ (place_in flash ram a 32) d (rw p at q)

  load_turn : (cd : ℕ) → Plans flash m ram (Effect.LoadCapability a cd) → turn_at flash m ram tags ≡ cap_turn m.cause cd (load_cap flash ram tags a)
  unfolding turn_at turn_of operands_of
  load_turn cd p = rw p

pub stored_and_loaded : StoredAndLoaded
stored_and_loaded flash ram tags m m' a c cd d t w p q p' =
    let r = lies_in_ram flash ram tags m a c d p q in
    let e : load_cap flash (ram_at flash m ram) (tags_at flash m ram tags) a ≡ Some c
    = rw (ram_left flash ram tags m a c r.0 p r.1, tags_left flash ram tags m a c r.0 p r.1) (loads_back flash ram tags a r.0 r.1 c t w) in
    load_turn flash (ram_at flash m ram) (tags_at flash m ram tags) m' a cd p' ∙ ap (cap_turn m'.cause cd) e

abbrev turn_cap : Result Change Fault → Cap
turn_cap (Ok d) = d.cap
turn_cap (Err f) = null

value_is : (cause cd : ℕ) (l : Option Cap) (c : Cap) → cap_turn cause cd l ≡ Ok (to_capability cause cd c None) → l ≡ Some c
value_is cause cd (Some c') c e = ap Some (ap turn_cap e)
value_is cause cd None c e = no_turn _ _ _ e

no_value : (A : Type 0) (c : Cap) → None ≡ Some c → A
no_value A c q = let z : ◌≡◌ {A = ℕ} 0 1 = cc in absurd (omega arith)

abbrev loaded_cap : Option Cap → Cap
loaded_cap (Some c) = c
loaded_cap None = null

-- a part that was loaded is a line, and it says the capability
is_line_lem : (tag whole : Bool) (part : List ℕ) (c : Cap) → eqb (length part) 32 ≡ whole → cond whole (Some (decode tag part)) None ≡ Some c → (length part ≡ 32) × (decode tag part ≡ c)
is_line_lem tag true part c h e = (eqb-true (length part) 32 h, ap loaded_cap e)
is_line_lem tag false part c h e = no_value _ _ e

part_of_lem : (l : List ℕ) (i : ℕ) → Bytes l → Bytes (take 32 (drop i l))
part_of_lem l i h j = go (ltb j 32) refl
  where
    go : (t : Bool) → ltb j 32 ≡ t → get_or (take 32 (drop i l)) j 0 < 256
    go true e = rw (get_or-take 32 (drop i l) j 0 (ltb-true j 32 e), get_or-drop i l j 0) (h (i + j))
    go false e = rw (get_or-eq_default (take 32 (drop i l)) 0 {n = j} (rw (length-take 32 (drop i l)) (omega (arith, ltb-false j 32 e)))) (omega arith)

-- bytes of either memory are bytes
bytes_in_lem : (flash ram : List ℕ) (p : Place) → Bytes flash → Bytes ram → Bytes (part_of flash ram p 32)
bytes_in_lem flash ram (Flash i) f r = part_of_lem flash i f
bytes_in_lem flash ram (Ram i) f r = part_of_lem ram i r
bytes_in_lem flash ram Nowhere f r = λ j. omega arith

tag_of : (tag : Bool) (part : List ℕ) → (decode tag part).tag ≡ tag
unfolding decode from_words
tag_of tag part = refl

read_line : (flash ram tags : List ℕ) (a : Address) (c : Cap) → Bytes flash → Bytes ram → load_cap flash ram tags a ≡ Some c
    → (encode c ≡ bytes_of flash ram a 32) × (c.tag ≡ tag_at tags (place_in flash ram a 32))
unfolding load_cap cap_in bytes_of
read_line flash ram tags a c f r e =
    let p = place_in flash ram a 32 in
    let l = is_line_lem (tag_at tags p) _ (part_of flash ram p 32) c refl e in
    (rw (← l.1) (bits_are_kept (tag_at tags p) (part_of flash ram p 32) (bytes_in_lem flash ram p f r) l.0), sym (ap (λ (x : Cap). x.tag) l.1) ∙ tag_of (tag_at tags p) (part_of flash ram p 32))

pub loaded_and_stored : LoadedAndStored
loaded_and_stored flash ram tags m ram' tags' m' a b c cd d f r t p q p' q' =
    let l = read_line flash ram tags a c f r (value_is m.cause cd (load_cap flash ram tags a) c (sym (load_turn flash ram tags m a cd p) ∙ q)) in
    let s = lies_in_ram flash ram' tags' m' b c d p' q' in (
      rw (ram_left flash ram' tags' m' b c s.0 p' s.1) (bytes_there flash ram' tags' b s.0 s.1 c ∙ l.0),
      rw (ram_left flash ram' tags' m' b c s.0 p' s.1, tags_left flash ram' tags' m' b c s.0 p' s.1) (tag_there flash ram' tags' b s.0 s.1 c t ∙ l.1),
    )
