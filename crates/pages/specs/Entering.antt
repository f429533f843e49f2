-- The records of a start book entered into a machine and its memories (01, "The start book").
use Rattle.std.specs.Prelude.{ℕ, zero, suc, ◌+◌, ◌-◌, ◌/◌, ◌≤◌, cond, List, length, take, drop, set, replicate, eqb, Ok, Err, Some, None}
use Rattle.manual.specs.Number.{LINE}
use Rattle.manual.specs.Place.{RAM_BASE}
use Rattle.manual.specs.Store.{put, with_tag}
use Rattle.manual.specs.declared.Cap.{Cap}
use Rattle.manual.specs.Narrow.{null}
use Rattle.manual.specs.declared.Machine.{Machine}
use Rattle.pages.specs.declared.Entry.{Entry}
use Rattle.pages.specs.Book.{Step, kind_of, key_of, step_at}

-- registers not named are zero and untagged; nothing is pending and the cause is 0
abbrev pub zero_machine : Machine
zero_machine = record { general = replicate 32 0; caps = replicate 32 null; pcc = null; pending = None; cause = 0 }

-- kind 1: number 0..31, 32 for PCC
abbrev pub with_capability : Machine → ℕ → Cap → Machine
with_capability m number c =
    cond (eqb number 32)
    (record { general = m.general; caps = m.caps; pcc = c; pending = m.pending; cause = m.cause })
    (record { general = m.general; caps = set m.caps number c; pcc = m.pcc; pending = m.pending; cause = m.cause })

-- kind 2: number 1..31
abbrev pub with_general : Machine → ℕ → ℕ → Machine
with_general m number value = record { general = set m.general number value; caps = m.caps; pcc = m.pcc; pending = m.pending; cause = m.cause }

unfoldable pub machine_with : Entry → Machine → Machine
machine_with (Entry.Capability number c) m = with_capability m number c
machine_with (Entry.General number value) m = with_general m number value
machine_with (Entry.Line address tag) m = m

-- kind 3: the 32 bytes that end the record, and the line's tag
unfoldable pub ram_with : List ℕ → ℕ → Entry → List ℕ → List ℕ
ram_with book end (Entry.Capability number c) ram = ram
ram_with book end (Entry.General number value) ram = ram
ram_with book end (Entry.Line address tag) ram = put ram (address - RAM_BASE) (take LINE (drop (end - LINE) book))

unfoldable pub tags_with : Entry → List ℕ → List ℕ
tags_with (Entry.Capability number c) tags = tags
tags_with (Entry.General number value) tags = tags
tags_with (Entry.Line address tag) tags = with_tag tags ((address - RAM_BASE) / LINE) tag

-- a machine and its memories at the start
pub record Start : Type 0 where
  pub machine : Machine
  pub ram : List ℕ
  pub tags : List ℕ

-- the record that ends here
abbrev pub entered : List ℕ → ℕ → Entry → Start → Start
entered book end entry s = record { machine = machine_with entry s.machine; ram = ram_with book end entry s.ram; tags = tags_with entry s.tags }

-- every record in turn, walked as `walk` does, for a RAM of so many bytes
unfoldable pub enter_all : ℕ → List ℕ → ℕ → Step → Start → Start
enter_all zero book ram step s = s
enter_all (suc n) book ram (Ok None) s = s
enter_all (suc n) book ram (Err refusal) s = s
enter_all (suc n) book ram (Ok (Some r)) s = enter_all n book ram (step_at book ram r.end (kind_of r.entry) (key_of r.entry)) (entered book r.end r.entry s)

-- a whole book, over what stands there
unfoldable pub enter_book : List ℕ → Start → Start
enter_book book s = enter_all (length book) book (length s.ram) (step_at book (length s.ram) 1 0 0) s

-- the all-zero machine over these memories
abbrev pub bare : List ℕ → List ℕ → Start
bare ram tags = record { machine = zero_machine; ram = ram; tags = tags }

-- what every record that the walk comes to is: its register is there, or the bytes of its line and the line's place
abbrev pub RegisterIsThere : Entry → Type 0
RegisterIsThere (Entry.Capability number c) = number ≤ 32
RegisterIsThere (Entry.General number value) = number ≤ 31
RegisterIsThere (Entry.Line address tag) = Unit {0}

abbrev pub LineIsThere : List ℕ → ℕ → Entry → ℕ → Type 0
LineIsThere book end (Entry.Capability number c) ram = Unit {0}
LineIsThere book end (Entry.General number value) ram = Unit {0}
LineIsThere book end (Entry.Line address tag) ram = (LINE ≤ end) × (end ≤ length book) × (RAM_BASE ≤ address) × (address - RAM_BASE + LINE ≤ ram)
