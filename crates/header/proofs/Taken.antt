-- The registers that are handed out are taken as the machine that they are of. Assumes nothing.
use Rattle.std.specs.Prelude.{Result, Ok}
use Prim.Native.Nat.{ℕ}
use mathlib.Core.Path.{◌≡◌, refl, sym, ◌∙◌, ap, subst}
use mathlib.Core.Bool.{true, false}
use mathlib.Core.List.{List, [], ◌∷◌, ◌++◌, append-nil}
use native.Mathlib.Omega.{arith}
use lib.ListN.{length, get_or, replicate, length-replicate}
use Rattle.manual.specs.Number.{Bytes}
use Rattle.manual.specs.Accept.{verdict_of}
use Rattle.manual.specs.declared.Machine.{Machine}
use Rattle.pages.specs.Book.{step_at}
use Rattle.pages.specs.Entering.{Start, bare}
use Rattle.pages.specs.Enter.{judged, read_book}
use Rattle.pages.specs.Runs.{pieces}
use Rattle.pages.specs.Spell.{line_pieces}
use Rattle.pages.specs.Write.{rests, write_book}
use Rattle.reread.proofs.Written.{Omits, caps_named, pcc_named, generals_named, book_omitting}
use Rattle.reread.proofs.Again.{read_accepted, omitting_read}
use Rattle.granted.proofs.Sound.{Registers}
use Rattle.granted.proofs.Read.{read_sound}
use Rattle.granted.proofs.Accepted.{accepted}
use Rattle.pages.specs.Registers.{cap_records, general_records, registers_of}
use Rattle.pages.specs.Taking.{written_by, write_from}
use Rattle.header.specs.Claims.{HandedOutIsTaken}
use Rattle.header.proofs.Given.{Given, zero_given, all_given}
use Rattle.manual.specs.declared.Refusal.{Refusal}

-- no register is left out
none : (m : Machine) → Omits m
none m =
    record {
      cap = λ i. false;
      pcc = false;
      general = λ i. false;
      cap_zero = λ i e. let z : ◌≡◌ {A = ℕ} 0 1 = cc in absurd (omega arith);
      pcc_zero = λ e. let z : ◌≡◌ {A = ℕ} 0 1 = cc in absurd (omega arith);
      general_zero = λ i e. let z : ◌≡◌ {A = ℕ} 0 1 = cc in absurd (omega arith);
    }

no_lines : line_pieces [] [] ≡ []
unfolding line_pieces pieces
no_lines = refl

all_named : (m : Machine) → registers_of m ≡ book_omitting m (none m) [] []
unfolding registers_of cap_records general_records book_omitting none
all_named m =
    let general = pieces 31 1 (generals_named m (none m)) in
    ap (λ (rest : List ℕ). 1 ∷ (pieces 32 0 (caps_named m (none m)) ++ (pcc_named m (none m) ++ rest)))
    (sym (ap (λ (lines : List ℕ). general ++ lines) no_lines ∙ append-nil general))

-- registers that a book gave are accepted beside no memory
module _ (m : Machine) (g : Given m) (r : Registers m) where
  fits : (Ok tt) ≡ verdict_of m.caps m.pcc m.pending (get_or m.general 0 0) 0 [] []
  fits =
      sym (accepted 0 0 (omega arith) refl (record { machine = m; ram = []; tags = [] })
      (record { registers = r; memories = record { ram_size = refl; tags_size = refl; tag_low = λ i. omega arith; fits = λ i h. absurd (omega arith) } }))

  at_rest : rests m ≡ true
  at_rest = rw (r.quiet, g.cause)

  read_again : (judged (registers_of m) 0 0 0 ≡ (Ok tt)) × (read_book (registers_of m) 0 [] [] ≡ record { machine = m; ram = []; tags = [] })
  read_again = rw (all_named m) (omitting_read m (none m) [] [] 0 [] [] g.typed g.caps g.general fits at_rest refl refl refl)

  taken : (ram tags out : List ℕ) → write_from (registers_of m) ram tags out ≡ write_book m ram tags out
  unfolding write_from
  taken ram tags out =
      ap (λ (v : Result (Unit {0}) Refusal). written_by v (read_book (registers_of m) 0 [] []).machine ram tags out) read_again.0
      ∙ ap (λ (s : Start). write_book s.machine ram tags out) read_again.1

module _ (book : List ℕ) (flash : ℕ) (ram tags : List ℕ) (h : Bytes book) (e : judged book flash (length ram) (length tags) ≡ (Ok tt)) where
  pub given : Given (read_book book flash ram tags).machine
  given =
      rw (read_accepted book flash ram tags e)
      (all_given book (length ram) h (length book) 1 0 0 (step_at book (length ram) 1 0 0) (bare (replicate (length ram) 0) (replicate (length tags) 0)) refl zero_given)

  sound : Registers (read_book book flash ram tags).machine
  sound =
      let z : length (replicate {A = ℕ} flash 0) ≡ flash = length-replicate flash 0 in
      subst (λ (n : ℕ). Registers (read_book book n ram tags).machine) z
      (read_sound book (replicate flash 0) ram tags (rw z e)).registers

pub handed_out_is_taken : HandedOutIsTaken
handed_out_is_taken book flash ram tags h e = taken (read_book book flash ram tags).machine (given book flash ram tags h e) (sound book flash ram tags h e)
