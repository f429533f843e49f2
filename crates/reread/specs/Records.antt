-- What the writer spells, the reader finds: each record, wherever in a book it stands.
use Rattle.std.specs.Prelude.{ℕ, ◌+◌, ◌^◌, ◌≤◌, ◌<◌, ◌≡◌, Bool, true, List, ◌++◌, length}
use Rattle.manual.specs.declared.Cap.{Cap}
use Rattle.manual.specs.Cap.{Within}
use Rattle.manual.specs.Line.{cap_in}
use Rattle.manual.specs.Accept.{top_fits, loaded_fits}
use Rattle.pages.specs.declared.Entry.{Entry}
use Rattle.pages.specs.Entry.{is_line}
use Rattle.pages.specs.Book.{more, kind_of, key_of, in_order, step_at}
use Rattle.pages.specs.Compose.{record_of, cap_body, general_body, line_body}

-- in any book, behind any bytes, after any record that comes before it: the walk finds this entry, and goes on behind the record
abbrev pub Found : List ℕ → ℕ → Entry → Type 0
Found body ram entry =
    (before rest : List ℕ) (kind key : ℕ) → in_order kind key (kind_of entry) (key_of entry) ≡ true
    → step_at (before ++ (record_of body ++ rest)) ram (length before) kind key ≡ more (length before + length (record_of body)) entry

abbrev pub CapIsRead : Type 0
CapIsRead = (number : ℕ) (c : Cap) (ram : ℕ) → number ≤ 32 → Within c → top_fits c ≡ true → Found (cap_body number c) ram (Entry.Capability number c)

abbrev pub GeneralIsRead : Type 0
GeneralIsRead = (number value ram : ℕ) → 1 ≤ number → number ≤ 31 → value < 2 ^ 64 → Found (general_body number value) ram (Entry.General number value)

abbrev pub LineIsRead : Type 0
LineIsRead =
    (address : ℕ) (tag : Bool) (bytes : List ℕ) (ram : ℕ) → is_line address ram ≡ true → address < 2 ^ 64 → length bytes ≡ 32
    → loaded_fits (cap_in tag bytes) ≡ true → Found (line_body address tag bytes) ram (Entry.Line address tag)
