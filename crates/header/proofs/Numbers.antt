-- Each number that is returned is one of the header's. Assumes nothing.
use Rattle.std.specs.Prelude.{Result, Ok, Err}
use Prim.Native.Nat.{ℕ, zero, suc, ◌+◌, ◌*◌, ◌/◌, ◌≤◌}
use mathlib.Core.Path.{◌≡◌, refl}
use mathlib.Core.Bool.{Bool, true, false, cond, ◌&&◌}
use mathlib.Core.List.{List, []}
use native.Mathlib.Omega.{arith}
use borrow.Author.Tests.{le-ltb, eqb-true}
use lib.Dec.{eqb, leb, ltb}
use lib.ListN.{length, get_or, length-append}
use Rattle.manual.specs.Number.{LINE, Bytes}
use Rattle.manual.specs.Narrow.{null}
use Rattle.manual.specs.declared.Fault.{Fault}
use Rattle.manual.specs.Checks.{stop_number}
use Rattle.manual.specs.Place.{memory_fits, tags_fit}
use Rattle.manual.specs.declared.Refusal.{Refusal}
use Rattle.manual.specs.Told.{refusal_number, verdict_number, code_of, ANSWER_NUMBERS}
use Rattle.manual.specs.Accept.{sizes_fit, tag_bytes_fit, top_fits, caps_fit, jump_fits, lines_fit, width_fits, widths_fit, jump_width, verdict_of}
use Rattle.manual.specs.declared.Machine.{Machine}
use Rattle.manual.specs.declared.Change.{Change}
use Rattle.manual.specs.State.{commit, stopped_at}
use Rattle.manual.specs.Steps.{turn_at, ram_at, tags_at, run_from}
use Rattle.manual.specs.Run.{run_of}
use Rattle.manual.proofs.Runs.{goes}
use Rattle.pages.proofs.Entries.{when}
use Rattle.pages.specs.Enter.{judged, read_book}
use Rattle.pages.specs.Naming.{cap_piece, general_piece}
use Rattle.pages.proofs.Pieces.{cap_most, general_most}
use Rattle.pages.proofs.RunLaws.{pieces_most}
use Rattle.pages.specs.Spell.{line_piece, cap_pieces, general_pieces, line_pieces, book_of}
use Rattle.pages.proofs.Books.{line_most}
use Rattle.pages.specs.Write.{Wrote, rests, after_start, after_verdict, write_book}
use Rattle.granted.proofs.Accepted.{widths}
use Rattle.granted.proofs.Read.{read_sound, read_is_accepted}
use Rattle.pages.specs.Registers.{REGISTERS}
use Rattle.pages.specs.Handing.{Read, NO_ROOM, read_into}
use Rattle.pages.specs.Taking.{written_by, write_from}
use Rattle.header.proofs.Taken.{given}
use Rattle.pages.specs.Answer.{started_by, book_run}
use Rattle.pages.specs.Exported.{Ran, run_into}
use Rattle.header.specs.Header.{listed, RUN_NUMBERS, READ_NUMBERS, WRITE_NUMBERS, BOOK_BYTES, RunNumbers, ReadNumbers, WriteNumbers, RoomForEvery}
use Rattle.header.proofs.Refusals.{Fair, judged_fair, each}

read_number : (v : Result (Unit {0}) Refusal) → Fair v → listed (verdict_number v) READ_NUMBERS ≡ true
unfolding listed
read_number (Ok _) f = refl
read_number (Err refusal) f = each (λ (r : Refusal). listed (refusal_number r) READ_NUMBERS ≡ true) refl refl refl refl refl refl refl refusal f

pub read-numbers : ReadNumbers
unfolding read_into listed
read-numbers book flash ram tags registers =
    when (λ (r : Read). listed r.code READ_NUMBERS ≡ true) (leb REGISTERS (length registers)) _ _
    (λ _. read_number (judged book flash (length ram) (length tags)) (judged_fair book flash (length ram) (length tags))) refl

fault_number : (f : Fault) → listed (stop_number f) RUN_NUMBERS ≡ true
unfolding listed
fault_number (Fault.Raise cause register) = refl
fault_number Fault.Misaligned = refl
fault_number Fault.StoreMisaligned = refl
fault_number Fault.Reserved = refl
fault_number Fault.Nowhere = refl
fault_number Fault.IntoFlash = refl
fault_number Fault.Pending = refl
fault_number Fault.Break = refl

module _ (k n : ℕ) (flash ram tags : List ℕ) (m : Machine) where
  turn_number : (t : Result Change Fault) → turn_at flash m ram tags ≡ t
      → ((d : Change) → listed (run_from k (n + 1) flash (commit m d) (ram_at flash m ram) (tags_at flash m ram tags)).outcome.stop RUN_NUMBERS ≡ true)
      → listed (run_from (suc k) n flash m ram tags).outcome.stop RUN_NUMBERS ≡ true
  unfolding run_from stopped_at
  turn_number (Ok d) e h = rw (goes k n flash ram tags m d e) (h d)
  turn_number (Err f) e h = rw (e, run_from) (fault_number f)

run_number : (k n : ℕ) (flash : List ℕ) (m : Machine) (ram tags : List ℕ) → listed (run_from k n flash m ram tags).outcome.stop RUN_NUMBERS ≡ true
unfolding run_from listed
run_number zero n flash m ram tags = refl
run_number (suc k) n flash m ram tags =
    turn_number k n flash ram tags m (turn_at flash m ram tags) refl (λ d. run_number k (n + 1) flash (commit m d) (ram_at flash m ram) (tags_at flash m ram tags))

module _ (budget : ℕ) (book flash ram tags : List ℕ) where
  started_number : (v : Result (Unit {0}) Refusal) → judged book (length flash) (length ram) (length tags) ≡ v → Fair v
      → listed (started_by budget v flash (read_book book (length flash) ram tags)).answer.stop RUN_NUMBERS ≡ true
  unfolding run_of listed
  started_number (Ok _) e f = rw (read_is_accepted book flash ram tags e) (run_number budget 0 flash _ _ _)
  started_number (Err refusal) e f = each (λ (r : Refusal). listed (refusal_number r) RUN_NUMBERS ≡ true) refl refl refl refl refl refl refl refusal f

pub run_numbers : RunNumbers
unfolding run_into book_run listed
run_numbers budget book flash ram tags answer =
    when (λ (r : Ran). listed r.code RUN_NUMBERS ≡ true) (leb ANSWER_NUMBERS (length answer)) _ _
    (λ _. started_number budget book flash ram tags (judged book (length flash) (length ram) (length tags)) refl (judged_fair book (length flash) (length ram) (length tags))) refl

-- a start's verdict, by what is known of its first test and of its last
by_tests : (P : Result (Unit {0}) Refusal → Type 0) (a b d e : Bool) → (a ≡ true → P (Ok tt)) → (e ≡ false → P (Err Refusal.Width))
    → P (Err Refusal.Top) → P (Err Refusal.TagByte) → P (Err Refusal.Sizes)
    → P (cond a (cond b (cond d (cond e (Ok tt) (Err Refusal.Width)) (Err Refusal.Top)) (Err Refusal.TagByte)) (Err Refusal.Sizes))
by_tests P true b d true p w top tag sizes = when P b _ _ (λ _. when P d _ _ (λ _. p refl) top) tag
by_tests P true b d false p w top tag sizes = when P b _ _ (λ _. when P d _ _ (λ _. w refl) top) tag
by_tests P false b d e p w top tag sizes = sizes

abbrev widths_of : Machine → Bool
widths_of m = (widths_fit m.caps && (width_fits m.pcc && jump_width m.pending)) && eqb (get_or m.general 0 0) 0

judge : (P : Result (Unit {0}) Refusal → Type 0) (m : Machine) (ram tags : List ℕ) → (sizes_fit 0 (length ram) (length tags) ≡ true → P (Ok tt)) → (widths_of m ≡ false → P (Err Refusal.Width))
    → P (Err Refusal.Top) → P (Err Refusal.TagByte) → P (Err Refusal.Sizes)
    → P (verdict_of m.caps m.pcc m.pending (get_or m.general 0 0) 0 ram tags)
unfolding verdict_of
judge P m ram tags p w top tag sizes =
    by_tests P (sizes_fit 0 (length ram) (length tags)) (tag_bytes_fit tags) ((caps_fit m.caps && (top_fits m.pcc && jump_fits m.pending)) && lines_fit ram tags) (widths_of m) p w top tag sizes

never : (A : Type 0) (t : Bool) → t ≡ true → t ≡ false → A
never A t p q = let z : ◌≡◌ {A = ℕ} 0 1 = cc in absurd (omega arith)

module _ (registers ram tags book : List ℕ) where
  abbrev machine : Machine
  machine = (read_book registers 0 [] []).machine

  abbrev Told : Result (Unit {0}) Refusal → Type 0
  Told v = listed (code_of (after_verdict machine ram tags book v).written) WRITE_NUMBERS ≡ true

  rest_number : rests machine ≡ true → Told (Ok tt)
  unfolding after_start listed
  rest_number e = rw e (when (λ (r : Wrote). listed (code_of r.written) WRITE_NUMBERS ≡ true) (ltb (length book) (length (book_of machine ram tags))) _ _ (λ _. refl) refl)

  accepted_number : rests machine ≡ true → widths_of machine ≡ true → listed (code_of (write_book machine ram tags book).written) WRITE_NUMBERS ≡ true
  unfolding write_book listed
  accepted_number e w = judge Told machine ram tags (λ a. rest_number e) (λ q. never _ (widths_of machine) w q) refl refl refl

  write_number : Bytes registers → (v : Result (Unit {0}) Refusal) → judged registers 0 0 0 ≡ v → Fair v → listed (code_of (written_by v machine ram tags book).written) WRITE_NUMBERS ≡ true
  unfolding listed
  write_number h (Ok _) e f =
      let s = read_sound registers [] [] [] e in
      accepted_number (rw (s.registers.quiet, (given registers 0 [] [] h e).cause)) (widths 0 0 (omega arith) refl (read_book registers 0 [] []) s)
  write_number h (Err refusal) e f = each (λ (r : Refusal). listed (refusal_number r) WRITE_NUMBERS ≡ true) refl refl refl refl refl refl refl refusal f

pub write_numbers : WriteNumbers
unfolding write_from
write_numbers registers ram tags book h = write_number registers ram tags book h (judged registers 0 0 0) refl (judged_fair registers 0 0 0)

book_most : (m : Machine) (ram tags : List ℕ) → length (book_of m ram tags) ≤ 1627 + length tags * 44
unfolding book_of cap_pieces general_pieces line_pieces
book_most m ram tags =
    rw (length-append, length-append, length-append)
    (omega (
      arith,
      pieces_most 32 0 38 (λ i. cap_piece i (get_or m.caps i null)) (λ i. cap_most i (get_or m.caps i null)),
      cap_most 32 m.pcc,
      pieces_most 31 1 12 (λ i. general_piece i (get_or m.general i 0)) (λ i. general_most i (get_or m.general i 0)),
      pieces_most (length tags) 0 44 (line_piece ram tags) (line_most ram tags),
    ))

module _ (m : Machine) (ram tags book : List ℕ) (room : BOOK_BYTES (length ram) ≤ length book) where
  abbrev Roomy : Result (Unit {0}) Refusal → Type 0
  Roomy v = eqb (code_of (after_verdict m ram tags book v).written) NO_ROOM ≡ false

  sized : (a b c : Bool) → ((a && b) && c) ≡ true → c ≡ true
  sized true true c e = e
  sized true false c e = never _ false e refl
  sized false b c e = never _ false e refl

  start_roomy : sizes_fit 0 (length ram) (length tags) ≡ true → Roomy (Ok tt)
  unfolding after_start
  start_roomy e =
      let t : length tags ≡ length ram / LINE = eqb-true (length tags) (length ram / LINE) (sized (memory_fits 0) (memory_fits (length ram)) (tags_fit (length ram) (length tags)) e) in
      rw (le-ltb (length book) (length (book_of m ram tags)) (omega (arith, t, book_most m ram tags, room)))
      (when (λ (r : Wrote). eqb (code_of r.written) NO_ROOM ≡ false) (rests m) _ _ (λ _. refl) refl)

  write_roomy : eqb (code_of (write_book m ram tags book).written) NO_ROOM ≡ false
  unfolding write_book
  write_roomy = judge Roomy m ram tags start_roomy (λ q. refl) refl refl refl

taken_roomy : (registers ram tags book : List ℕ) → BOOK_BYTES (length ram) ≤ length book → (v : Result (Unit {0}) Refusal) → Fair v
    → eqb (code_of (written_by v (read_book registers 0 [] []).machine ram tags book).written) NO_ROOM ≡ false
taken_roomy registers ram tags book room (Ok _) f = write_roomy (read_book registers 0 [] []).machine ram tags book room
taken_roomy registers ram tags book room (Err refusal) f = each (λ (r : Refusal). eqb (refusal_number r) NO_ROOM ≡ false) refl refl refl refl refl refl refl refusal f

pub room_for_every : RoomForEvery
unfolding write_from
room_for_every registers ram tags book room = taken_roomy registers ram tags book room (judged registers 0 0 0) (judged_fair registers 0 0 0)
