-- The laws of a whole book: its parts one after the other, and where they end. Assumes nothing.
use Prim.Native.Nat.{ℕ, ◌+◌, ◌-◌, ◌*◌, ◌/◌, ◌%◌, ◌≤◌, ◌<◌}
use mathlib.Core.Path.{◌≡◌, refl, sym, ◌∙◌, ap, subst}
use mathlib.Core.Bool.{Bool, true, false, ◌&&◌}
use mathlib.Core.List.{List, [], ◌∷◌, ◌++◌}
use native.Mathlib.Omega.{arith}
use lib.Dec.{eqb, leb}
use lib.ListN.{length, get_or, take, drop, length-take}
use borrow.Author.Tests.{leb-true, eqb-true}
use Rattle.manual.specs.Number.{to_be}
use Rattle.manual.specs.Place.{RAM_BASE, memory_fits, tags_fit}
use Rattle.manual.specs.Store.{put, tag_of}
use Rattle.manual.proofs.Stores.{put_out}
use Rattle.manual.specs.declared.Cap.{Cap}
use Rattle.manual.specs.Narrow.{null}
use Rattle.manual.specs.Accept.{sizes_fit}
use Rattle.manual.specs.declared.Machine.{Machine}
use Rattle.pages.proofs.Fields.{put_nothing}
use Rattle.pages.specs.Naming.{cap_piece, general_piece, line_named}
use Rattle.pages.specs.Runs.{Runs}
use Rattle.pages.specs.Spell.{line_bytes, line_piece, cap_pieces, general_pieces, line_pieces, book_of, legal_book}
use Rattle.manual.proofs.Tests.{both_true}
use Rattle.pages.proofs.Pieces.{Puts, cap_most, general_most, line_most as named-most}
use Rattle.pages.proofs.RunLaws.{run_ends, runs_put, runs_on}

-- where the records of a kind end at most
caps_end : (l k : List ℕ) (end : ℕ) (caps : List Cap) → Runs l 1 (cap_pieces caps) k end → end ≤ 1217
unfolding cap_pieces
caps_end l k end caps r = omega (arith, run_ends l 1 0 (λ i. cap_piece i (get_or caps i null)) k end 32 38 (λ i. cap_most i (get_or caps i null)) r)

pub pcc_end : (l k : List ℕ) (end n number : ℕ) (caps : List Cap) (c : Cap) → Runs l 1 (cap_pieces caps) k end → n ≡ length (cap_piece number c) → end + n ≤ 1255
pcc_end l k end n number caps c r e = omega (arith, caps_end l k end caps r, cap_most number c)

pub generals_end : (l k : List ℕ) (at end : ℕ) (general : List ℕ) → Runs l at (general_pieces general) k end → end ≤ at + 372
unfolding general_pieces
generals_end l k at end general r = omega (arith, run_ends l at 1 (λ i. general_piece i (get_or general i 0)) k end 31 12 (λ i. general_most i (get_or general i 0)) r)

pub line_most : (ram tags : List ℕ) (line : ℕ) → length (line_piece ram tags line) ≤ 44
unfolding line_piece
line_most ram tags line = omega (arith, named-most (RAM_BASE + line * 32) (tag_of tags line) (line_bytes ram line), length-take 32 (drop (line * 32) ram))

-- a line of the RAM, as its tag and its part are told
pub line_told : (ram tags l k : List ℕ) (line at n : ℕ) (tag : Bool) → tag ≡ tag_of tags line
    → Puts l at (line_named (RAM_BASE + line * 32) tag (take (line * 32 + 32 - line * 32) (drop (line * 32) ram))) k n → Puts l at (line_piece ram tags line) k n
unfolding line_piece
line_told ram tags l k line at n tag e p =
    let z : line * 32 + 32 - line * 32 ≡ 32 = omega arith in
    subst (λ (b : List ℕ). Puts l at b k n) (rw (e, z)) p

version : to_be 1 1 ≡ 1 ∷ []
unfolding to_be
version = refl

pub book_runs : (m : Machine) (ram tags l l₁ l₂ l₃ l₄ l₅ : List ℕ) (e₂ n e₄ e₅ : ℕ) → l₁ ≡ put l 0 (to_be 1 1) → Runs l₁ 1 (cap_pieces m.caps) l₂ e₂
    → n ≡ length (cap_piece 32 m.pcc) → l₃ ≡ put l₂ e₂ (cap_piece 32 m.pcc) → Runs l₃ (e₂ + n) (general_pieces m.general) l₄ e₄ → Runs l₄ e₄ (line_pieces ram tags) l₅ e₅ → Runs l 0 (book_of m ram tags) l₅ e₅
unfolding book_of
book_runs m ram tags l l₁ l₂ l₃ l₄ l₅ e₂ n e₄ e₅ p r₂ q s r₄ r₅ =
    runs_on l l₁ l₅ 0 1 e₅ (1 ∷ []) _ (runs_put l l₁ 0 1 (1 ∷ []) (p ∙ ap (put l 0) version) refl)
    (runs_on l₁ l₂ l₅ 1 e₂ e₅ (cap_pieces m.caps) _ r₂
    (runs_on l₂ l₃ l₅ e₂ (e₂ + n) e₅ (cap_piece 32 m.pcc) _ (runs_put l₂ l₃ e₂ (e₂ + n) (cap_piece 32 m.pcc) s (ap (λ k. e₂ + k) q))
    (runs_on l₃ l₄ l₅ (e₂ + n) e₄ e₅ (general_pieces m.general) (line_pieces ram tags) r₄ r₅)))

-- 20 tells how many lines there are
pub lines_there : (ram tags : ℕ) → sizes_fit 0 ram tags ≡ true → (tags * 32 ≤ ram) × (tags ≤ 2048)
lines_there ram tags h =
    let a = both_true (memory_fits 0 && memory_fits ram) (tags_fit ram tags) h in
    let b = both_true (eqb (ram % 32) 0) (leb ram 65536) (both_true (memory_fits 0) (memory_fits ram) a.0).1 in
    let t : tags ≡ ram / 32 = eqb-true tags (ram / 32) a.1 in
    let s : ram ≤ 65536 = leb-true ram 65536 b.1 in
    (omega (arith, t), omega (arith, t, s))

-- a part of no byte stays so
none : (x l : List ℕ) → length x ≡ 0 → x ++ l ≡ l
none [] l e = refl
none (a ∷ x) l e = absurd (omega arith)

-- its length, and the buffer then
module _ (m : Machine) (ram tags out : List ℕ) where
  pub no_book : sizes_fit 0 (length ram) (length tags) ≡ false → Puts out 0 (legal_book m ram tags) out 0
  unfolding legal_book
  no_book h = rw h (refl, sym (put_nothing out 0))

  module _ (h : sizes_fit 0 (length ram) (length tags) ≡ true) (x : List ℕ) (n : ℕ) (r : Runs [] 0 (book_of m ram tags) x n) where
    pub no_room : length (x ++ out) < n → Puts out 0 (legal_book m ram tags) (x ++ out) n
    unfolding legal_book
    no_room k =
        let e = none x out r.kept in
        rw h (omega (arith, r.ends), e ∙ sym (put_out out 0 (book_of m ram tags) (omega (arith, r.ends, ap length e, k))))

    pub spelled : (after : List ℕ) (last : ℕ) → n ≤ length (x ++ out) → Runs (x ++ out) 0 (book_of m ram tags) after last → Puts out 0 (legal_book m ram tags) after n
    unfolding legal_book
    spelled after last k s =
        let e = none x out r.kept in
        rw h (omega (arith, r.ends), s.stands (omega (arith, r.ends, k)) ∙ ap (λ l. put l 0 (book_of m ram tags)) e)
