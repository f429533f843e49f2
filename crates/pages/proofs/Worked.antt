-- Books on worked cases, where two refusals could be told in another order, or a refusal leave something behind. Assumes nothing.
use Rattle.std.specs.Prelude.{Err, None}
use Prim.Native.Nat.{ℕ}
use mathlib.Core.Path.{◌≡◌, refl}
use mathlib.Core.List.{List, [], ◌∷◌, ◌++◌}
use lib.ListN.{get_or, replicate}
use Rattle.manual.specs.Number.{be, to_be}
use Rattle.manual.specs.Narrow.{null}
use Rattle.manual.specs.declared.Refusal.{Refusal}
use Rattle.manual.specs.declared.Machine.{Machine}
use Rattle.pages.specs.Record.{head_at, body_at}
use Rattle.pages.specs.Fields.{cap_of, capability_of}
use Rattle.pages.specs.Entry.{general_of, entry_of}
use Rattle.pages.specs.Book.{in_order, after_entry, after_head, step_at, walk, check_book}
use Rattle.pages.specs.Entering.{zero_machine}
use Rattle.pages.specs.Enter.{judged, read_book}
use Rattle.pages.specs.Compose.{fields, record_of, cap_body, general_body}
use Rattle.pages.specs.Runs.{pieces}
use Rattle.pages.specs.Naming.{cap_piece, general_piece}
use Rattle.pages.specs.Spell.{book_of, cap_pieces, general_pieces, line_pieces}
use Rattle.pages.specs.Registers.{cap_records, general_records, registers_of}
use Rattle.pages.specs.Write.{refused, after_start}
use Rattle.pages.specs.Handing.{read_into}

-- number 33, and it ends past 2^64
abbrev two_faults : List ℕ
two_faults = 1 ∷ 33 ∷ 1 ∷ replicate 9 0 ++ replicate 8 255 ++ replicate 8 255 ++ replicate 8 0

-- 34 before 22
field_before_top : capability_of two_faults ≡ Err Refusal.Field
unfolding capability_of cap_of be
field_before_top = refl

-- 32 before 33: kind 4 after a line
kind_before_order : step_at (0 ∷ 1 ∷ 4 ∷ []) 0 0 3 0 ≡ Err Refusal.Kind
unfolding step_at head_at body_at after_head after_entry entry_of in_order be
kind_before_order = refl

-- general register 5, then a record that is cut: nothing is entered
abbrev cut_book : List ℕ
cut_book = 1 ∷ 0 ∷ 10 ∷ 2 ∷ 5 ∷ replicate 8 1 ++ (0 ∷ [])

cut_enters_nothing : (read_book cut_book 0 [] []).machine ≡ zero_machine
unfolding read_book judged check_book walk step_at head_at body_at after_head after_entry entry_of general_of in_order be
cut_enters_nothing = refl

-- no room for the registers: the RAM stays
no_room_keeps_ram : (read_into (1 ∷ []) 0 (replicate 32 7) (1 ∷ []) []).ram ≡ replicate 32 7
unfolding read_into read_book judged check_book walk step_at head_at
no_room_keeps_ram = refl

-- the book of a machine of zeros has one byte, and no room for it is 36
no_room_for_one_byte : after_start zero_machine [] [] [] ≡ refused Refusal.Room []
unfolding after_start book_of cap_pieces general_pieces line_pieces pieces cap_piece general_piece
no_room_for_one_byte = refl

abbrev caused : Machine
caused = record { general = replicate 32 0; caps = replicate 32 null; pcc = null; pending = None; cause = 1 }

-- 35 before 36
waiting_before_room : after_start caused [] [] [] ≡ refused Refusal.Waiting []
unfolding after_start
waiting_before_room = refl

-- after 33 records of 38 bytes the general registers begin with number 1
first_is_number_1 : get_or (registers_of zero_machine) 1258 0 ≡ 1
unfolding registers_of cap_records general_records pieces record_of cap_body general_body fields to_be
first_is_number_1 = refl
