-- A start book, record by record (01, "The start book").
use Rattle.std.specs.Prelude.{ℕ, zero, suc, ◌+◌, Bool, true, false, cond, List, length, take, drop, eqb, ltb, Result, Ok, Err, Option, Some, None}
use Rattle.manual.specs.declared.Refusal.{Refusal}
use Rattle.pages.specs.declared.Entry.{Entry}
use Rattle.pages.specs.Record.{Head, byte, head_at}
use Rattle.pages.specs.Entry.{entry_of}
use Rattle.pages.specs.declared.Record.{Record}

abbrev pub kind_of : Entry → ℕ
kind_of (Entry.Capability number c) = 1
kind_of (Entry.General number v) = 2
kind_of (Entry.Line address tag) = 3

abbrev pub key_of : Entry → ℕ
key_of (Entry.Capability number c) = number
key_of (Entry.General number v) = number
key_of (Entry.Line address tag) = address

-- one step of the walk: nothing more, a refusal, or what the record says and where it ends
abbrev pub Step : Type 0
Step = Result (Option Record) Refusal

abbrev pub more : ℕ → Entry → Step
more end entry = Ok (Some (record { end = end; entry = entry }))

-- kinds ascend; within a kind the number or address strictly ascends
unfoldable pub in_order : ℕ → ℕ → ℕ → ℕ → Bool
in_order kind key next next_key = cond (ltb kind next) true (cond (eqb kind next) (ltb key next_key) false)

-- 33 comes after every other refusal of the record
abbrev pub ordered_step : ℕ → Entry → ℕ → ℕ → Step
ordered_step end entry kind key = cond (in_order kind key (kind_of entry) (key_of entry)) (more end entry) (Err Refusal.Order)

unfoldable pub after_entry : ℕ → Result Entry Refusal → ℕ → ℕ → Step
after_entry end (Err refusal) kind key = Err refusal
after_entry end (Ok entry) kind key = ordered_step end entry kind key

unfoldable pub after_head : List ℕ → ℕ → Head → ℕ → ℕ → Step
after_head book ram (Ok None) kind key = Ok None
after_head book ram (Err refusal) kind key = Err refusal
after_head book ram (Ok (Some b)) kind key = after_entry (b.start + b.bytes) (entry_of (take b.bytes (drop b.start book)) ram) kind key

-- the record at a place, after one of this kind and key
unfoldable pub step_at : List ℕ → ℕ → ℕ → ℕ → ℕ → Step
step_at book ram at kind key = after_head book ram (head_at book at) kind key

-- the walk to the end or to the first refusal; the first number bounds the records that a book of its length can have
unfoldable pub walk : ℕ → List ℕ → ℕ → Step → Result (Unit {0}) Refusal
walk zero book ram step = Ok tt
walk (suc n) book ram (Ok None) = Ok tt
walk (suc n) book ram (Err refusal) = Err refusal
walk (suc n) book ram (Ok (Some r)) = walk n book ram (step_at book ram r.end (kind_of r.entry) (key_of r.entry))

-- 30: no byte or a version other than 1; then the first faulty record
unfoldable pub check_book : List ℕ → ℕ → Result (Unit {0}) Refusal
check_book book ram =
    cond (eqb (length book) 0) (Err Refusal.Version)
    (cond (eqb (byte book 0) 1) (walk (length book) book ram (step_at book ram 1 0 0)) (Err Refusal.Version))
