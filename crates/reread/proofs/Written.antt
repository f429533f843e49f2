-- A book that the writer wrote is one that the reader accepts. Assumes nothing.
use Rattle.std.specs.Prelude.{Result, Ok, Err}
use Prim.Native.Nat.{ℕ, suc, ◌+◌, ◌-◌, ◌*◌, ◌%◌, ◌≤◌, ◌<◌}
use mathlib.Core.Path.{◌≡◌, refl, sym, ◌∙◌, ap, subst}
use mathlib.Core.Bool.{Bool, true, false, cond, not, ◌&&◌}
use mathlib.Core.List.{List, [], ◌∷◌, ◌++◌, append-nil}
use native.Mathlib.Omega.{arith}
use lib.Dec.{eqb, ltb}
use borrow.Author.Tests.{eqb-true, eq-eqb, le-ltb, le-leb}
use lib.ListN.{length, get_or, take, drop}
use lib.Seq.{take_at}
use Rattle.manual.specs.Place.{RAM_BASE}
use Rattle.manual.specs.Store.{tag_of}
use Rattle.manual.specs.declared.Cap.{Cap}
use Rattle.manual.specs.Narrow.{null}
use Rattle.manual.specs.Accept.{verdict_of}
use Rattle.manual.specs.declared.Machine.{Machine}
use Rattle.manual.specs.declared.Refusal.{Refusal}
use Rattle.pages.specs.declared.Entry.{Entry}
use Rattle.pages.specs.Entry.{is_line}
use Rattle.pages.specs.Book.{check_book}
use Rattle.pages.proofs.Walks.{rises, check_start}
use Rattle.pages.specs.Compose.{record_of, cap_body, general_body, line_body, zero_cap, zero_bytes}
use Rattle.pages.specs.Naming.{cap_piece, general_piece}
use Rattle.pages.specs.Runs.{pieces}
use Rattle.pages.specs.Spell.{line_bytes, line_piece, cap_pieces, general_pieces, line_pieces, book_of}
use Rattle.pages.proofs.Books.{lines_there}
use Rattle.pages.specs.Write.{refused, wholly, rests, after_start, after_verdict, write_book}
use Rattle.reread.specs.Claims.{Typed, WrittenIsAccepted}
use Rattle.reread.proofs.Entries.{cap_is_read, general_is_read, line_is_read}
use Rattle.reread.proofs.Walked.{Suffix, further, Goes, goes_end, Upto, upto_next, Passes, accepts, piece_goes, pieces_go}
use Rattle.manual.proofs.Accepted.{sizes_fit_lem, cap_top, pcc_top, cap_width, pcc_width, line_top, bytes_32, loaded_top}
use Rattle.reread.proofs.Accepted.{within}
use Rattle.reread.proofs.Filled.{zero_cap_lem}

-- an address of a line of the RAM
line-within : (a r : ℕ) → RAM_BASE ≤ a → a % 32 ≡ 0 → 32 ≤ r → a - RAM_BASE ≤ r - 32 → true ≡ is_line a r
unfolding is_line
line-within a r h z k l = rw (le-ltb a RAM_BASE h, eq-eqb (a % 32) 0 z, le-leb (a - RAM_BASE + 32) r (omega arith))

ends : (book : List ℕ) (at : ℕ) → Suffix book at [] → length book ≤ at
ends book at s = omega (arith, ap length (s.split ∙ append-nil s.before), s.place)

-- which registers a book does not name: each of them is zero
pub record Omits (m : Machine) : Type 0 where
  pub cap : ℕ → Bool
  pub pcc : Bool
  pub general : ℕ → Bool
  pub cap_zero : (i : ℕ) → cap i ≡ true → get_or m.caps i null ≡ null
  pub pcc_zero : pcc ≡ true → m.pcc ≡ null
  pub general_zero : (i : ℕ) → general i ≡ true → get_or m.general i 0 ≡ 0

-- and that book: every other register, and the lines that the writer names
abbrev pub caps_named : (m : Machine) → Omits m → ℕ → List ℕ
caps_named m o i = cond (o.cap i) [] (record_of (cap_body i (get_or m.caps i null)))

abbrev pub pcc_named : (m : Machine) → Omits m → List ℕ
pcc_named m o = cond o.pcc [] (record_of (cap_body 32 m.pcc))

abbrev pub generals_named : (m : Machine) → Omits m → ℕ → List ℕ
generals_named m o i = cond (o.general i) [] (record_of (general_body i (get_or m.general i 0)))

unfoldable pub book_omitting : (m : Machine) → Omits m → List ℕ → List ℕ → List ℕ
book_omitting m o ram tags = 1 ∷ (pieces 32 0 (caps_named m o) ++ (pcc_named m o ++ (pieces 31 1 (generals_named m o) ++ line_pieces ram tags)))

-- the writer names exactly the registers with a non-zero field
pub zeros : (m : Machine) → Omits m
zeros m =
    record {
      cap = λ i. zero_cap (get_or m.caps i null);
      pcc = zero_cap m.pcc;
      general = λ i. eqb (get_or m.general i 0) 0;
      cap_zero = λ i. zero_cap_lem (get_or m.caps i null);
      pcc_zero = zero_cap_lem m.pcc;
      general_zero = λ i. eqb-true (get_or m.general i 0) 0;
    }

pub written_omits : (m : Machine) (ram tags : List ℕ) → book_of m ram tags ≡ book_omitting m (zeros m) ram tags
unfolding book_of book_omitting cap_pieces cap_piece general_pieces general_piece zeros
written_omits m ram tags = refl

module _ (m : Machine) (o : Omits m) (ram tags : List ℕ) (ty : Typed m) (v : (Ok tt) ≡ verdict_of m.caps m.pcc m.pending (get_or m.general 0 0) 0 ram tags) where
  pub there : (length tags * 32 ≤ length ram) × (length tags ≤ 2048)
  there = lines_there (length ram) (length tags) (sizes_fit_lem m.caps m.pcc m.pending (get_or m.general 0 0) 0 ram tags v)

  -- A walk over such a book, by what holds before each record: `Caps i` before capability register i, `Caps 32` before PCC, `Generals i` before
  -- general register i, `Lines i` before line i.
  abbrev r : ℕ
  r = length ram

  abbrev cap_at : ℕ → Cap
  cap_at i = get_or m.caps i null

  abbrev general_at : ℕ → ℕ
  general_at i = get_or m.general i 0

  abbrev bare : ℕ → Bool
  bare i = not (tag_of tags i) && zero_bytes (line_bytes ram i)

  abbrev address : ℕ → ℕ
  address i = RAM_BASE + i * 32

  abbrev line_body_lem : ℕ → List ℕ
  line_body_lem i = line_body (address i) (tag_of tags i) (line_bytes ram i)

  module _ (book : List ℕ) (Caps Generals Lines : ℕ → ℕ → ℕ → ℕ → Type 0)
      (caps : (i : ℕ) → i < 32 → Passes book r (o.cap i) (cap_body i (cap_at i)) (Entry.Capability i (cap_at i)) (Caps i) (Caps (suc i)))
      (pcc : Passes book r o.pcc (cap_body 32 m.pcc) (Entry.Capability 32 m.pcc) (Caps 32) (Generals 1))
      (generals : (i : ℕ) → 1 ≤ i → i < 32 → Passes book r (o.general i) (general_body i (general_at i)) (Entry.General i (general_at i)) (Generals i) (Generals (suc i)))
      (turn : (at kind k : ℕ) → Lines 0 at kind k → Generals 32 at kind k)
      (lines : (i : ℕ) → i < length tags → Passes book r (bare i) (line_body_lem i) (Entry.Line (address i) (tag_of tags i)) (Lines i) (Lines (suc i)))
      (end : (at kind k : ℕ) → length book ≤ at → Lines (length tags) at kind k) where
    one_cap : (i : ℕ) → 0 ≤ i → i < 32 → (at : ℕ) (rest : List ℕ) → Suffix book at (caps_named m o i ++ rest)
        → ((kind k : ℕ) → Upto 1 (suc i) kind k → Caps (suc i) (at + length (caps_named m o i)) kind k) → (kind k : ℕ) → Upto 1 i kind k → Caps i at kind k
    one_cap i g h =
        piece_goes book r (Caps i) (Caps (suc i)) (o.cap i) (cap_body i (cap_at i)) (Entry.Capability i (cap_at i)) 1 i (suc i) refl refl (omega arith)
        (λ e. cap_is_read i (cap_at i) r (omega arith) (within (cap_at i) (ty.caps i) (cap_width m.caps m.pcc m.pending (general_at 0) 0 ram tags v i h))
        (cap_top m.caps m.pcc m.pending (general_at 0) 0 ram tags v i h))
        (caps i h)

    the_pcc : (at : ℕ) (rest : List ℕ) → Suffix book at (pcc_named m o ++ rest)
        → ((kind k : ℕ) → Upto 1 33 kind k → Generals 1 (at + length (pcc_named m o)) kind k) → (kind k : ℕ) → Upto 1 32 kind k → Caps 32 at kind k
    the_pcc =
        piece_goes book r (Caps 32) (Generals 1) o.pcc (cap_body 32 m.pcc) (Entry.Capability 32 m.pcc) 1 32 33 refl refl (omega arith)
        (λ e. cap_is_read 32 m.pcc r (omega arith) (within m.pcc ty.pcc (pcc_width m.caps m.pcc m.pending (general_at 0) 0 ram tags v))
        (pcc_top m.caps m.pcc m.pending (general_at 0) 0 ram tags v))
        pcc

    one_general : (i : ℕ) → 1 ≤ i → i < 32 → (at : ℕ) (rest : List ℕ) → Suffix book at (generals_named m o i ++ rest)
        → ((kind k : ℕ) → Upto 2 (suc i) kind k → Generals (suc i) (at + length (generals_named m o i)) kind k) → (kind k : ℕ) → Upto 2 i kind k → Generals i at kind k
    one_general i h l =
        piece_goes book r (Generals i) (Generals (suc i)) (o.general i) (general_body i (general_at i)) (Entry.General i (general_at i)) 2 i (suc i) refl refl (omega arith)
        (λ e. general_is_read i (general_at i) r h (omega arith) (ty.general i)) (generals i h l)

    one_line : (i : ℕ) → 0 ≤ i → i < length tags → (at : ℕ) (rest : List ℕ) → Suffix book at (line_piece ram tags i ++ rest)
        → ((kind k : ℕ) → Upto 3 (address (suc i)) kind k → Lines (suc i) (at + length (line_piece ram tags i)) kind k) → (kind k : ℕ) → Upto 3 (address i) kind k → Lines i at kind k
    unfolding line_piece
    one_line i g h =
        let q : i * 32 + 32 ≤ length ram = omega (arith, there.0, h) in
        let l : i < 2048 = omega (arith, there.1, h) in
        piece_goes book r (Lines i) (Lines (suc i)) (bare i) (line_body_lem i) (Entry.Line (address i) (tag_of tags i)) 3 (address i) (address (suc i)) refl refl (omega arith)
        (λ e. line_is_read (address i) (tag_of tags i) (line_bytes ram i) r
        (sym (line-within (address i) r (omega arith) (omega arith) (omega arith) (omega (arith, q)))) (omega (arith, l))
        (bytes_32 ram tags i q l) (loaded_top ram tags i q l (line_top m.caps m.pcc m.pending (general_at 0) 0 ram tags v i h)))
        (lines i h)

    -- each kind's records, from the place where they begin
    on_lines : (at : ℕ) → Suffix book at (line_pieces ram tags) → (kind k : ℕ) → Upto 3 RAM_BASE kind k → Lines 0 at kind k
    unfolding line_pieces
    on_lines at s =
        let P = pieces (length tags) 0 (line_piece ram tags) in
        let s' : Suffix book at (P ++ []) = subst (λ (l : List ℕ). Suffix book at l) (sym (append-nil P)) s in
        let z : 0 + length tags ≡ length tags = omega arith in
        pieces_go book 3 0 (length tags) address (line_piece ram tags) Lines one_line (length tags) 0 at [] (omega arith) (omega arith) s'
        (λ kind k u. subst (λ (x : ℕ). Lines x (at + length P) kind k) (sym z) (end (at + length P) kind k (ends book (at + length P) (further book at P [] s'))))

    on_generals : (at : ℕ) → Suffix book at (pieces 31 1 (generals_named m o) ++ line_pieces ram tags) → (kind k : ℕ) → Upto 2 1 kind k → Generals 1 at kind k
    on_generals at s =
        pieces_go book 2 1 32 (λ i. i) (generals_named m o) Generals one_general 31 1 at (line_pieces ram tags) (omega arith) (omega arith) s
        (λ kind k u. turn _ kind k (on_lines _ (further book at (pieces 31 1 (generals_named m o)) (line_pieces ram tags) s) kind k (upto_next 2 3 32 RAM_BASE kind k (omega arith) u)))

    on_caps : (at : ℕ) → Suffix book at (pieces 32 0 (caps_named m o) ++ (pcc_named m o ++ (pieces 31 1 (generals_named m o) ++ line_pieces ram tags)))
        → (kind k : ℕ) → Upto 1 0 kind k → Caps 0 at kind k
    on_caps at s =
        let rest = pieces 31 1 (generals_named m o) ++ line_pieces ram tags in
        let s' = further book at (pieces 32 0 (caps_named m o)) (pcc_named m o ++ rest) s in
        pieces_go book 1 0 32 (λ i. i) (caps_named m o) Caps one_cap 32 0 at (pcc_named m o ++ rest) (omega arith) (omega arith) s
        (λ kind k u. the_pcc _ rest s'
        (λ kind k u. on_generals _ (further book _ (pcc_named m o) rest s') kind k (upto_next 1 2 33 1 kind k (omega arith) u)) kind k u)

    pub book_walk : book ≡ book_omitting m o ram tags → Caps 0 1 0 0
    unfolding book_omitting
    book_walk e =
        on_caps 1 (record { before = 1 ∷ []; split = e; place = refl }) 0 0
        (record { kinds = omega arith; follows = λ next h. sym (rises 0 0 1 next (omega arith)) })

  pub book_accepted : check_book (book_omitting m o ram tags) (length ram) ≡ (Ok tt)
  unfolding book_omitting
  book_accepted =
      let book = book_omitting m o ram tags in
      let G : ℕ → ℕ → ℕ → ℕ → Type 0 = λ i. Goes book r in
      sym (check_start book r (λ e. omega arith) refl)
      ∙ book_walk book G G G (λ i h. accepts book r _ _ _) (accepts book r _ _ _) (λ i h l. accepts book r _ _ _) (λ at kind k g. g) (λ i h. accepts book r _ _ _)
      (λ at kind k h. goes_end book r at kind k h) refl (length book) (omega arith)

-- what a written book tells of the answer
answered : (a b : Bool) (book out : List ℕ) (n : ℕ) → (cond a (cond b (refused Refusal.Room out) (wholly book out)) (refused Refusal.Waiting out)).written ≡ Ok n
    → (a ≡ true) × (length book ≡ n) × ((cond a (cond b (refused Refusal.Room out) (wholly book out)) (refused Refusal.Waiting out)).out ≡ book ++ drop (length book) out)
answered true false book out n e = (refl, cc, refl)
answered true true book out n e = let z : ◌≡◌ {A = ℕ} 0 1 = cc in absurd (omega arith)
answered false b book out n e = let z : ◌≡◌ {A = ℕ} 0 1 = cc in absurd (omega arith)

module _ (m : Machine) (ram tags out : List ℕ) (n : ℕ) where
  rested : (after_start m ram tags out).written ≡ Ok n
      → (rests m ≡ true) × (length (book_of m ram tags) ≡ n) × ((after_start m ram tags out).out ≡ book_of m ram tags ++ drop (length (book_of m ram tags)) out)
  unfolding after_start
  rested = answered (rests m) (ltb (length out) (length (book_of m ram tags))) (book_of m ram tags) out n

  judged : (v : Result (Unit {0}) Refusal) → (after_verdict m ram tags out v).written ≡ Ok n
      → ((Ok tt) ≡ v) × (rests m ≡ true) × (length (book_of m ram tags) ≡ n) × ((after_verdict m ram tags out v).out ≡ book_of m ram tags ++ drop (length (book_of m ram tags)) out)
  judged (Ok _) e = let f = rested e in (refl, f.0, f.1, f.2)
  judged (Err r) e = let z : ◌≡◌ {A = ℕ} 0 1 = cc in absurd (omega arith)

-- exactly the book is taken
pub taken : (m : Machine) (ram tags out : List ℕ) (n : ℕ) → (write_book m ram tags out).written ≡ Ok n
    → ((Ok tt) ≡ verdict_of m.caps m.pcc m.pending (get_or m.general 0 0) 0 ram tags) × (rests m ≡ true) × (take n (write_book m ram tags out).out ≡ book_of m ram tags)
unfolding write_book
taken m ram tags out n e =
    let f = judged m ram tags out n (verdict_of m.caps m.pcc m.pending (get_or m.general 0 0) 0 ram tags) e in
    let book = book_of m ram tags in
    (f.0, f.1, ap (take n) f.3 ∙ take_at book (drop (length book) out) n f.2)

pub written_is_accepted : WrittenIsAccepted
written_is_accepted m ram tags out n ty e = let f = taken m ram tags out n e in rw (f.2, written_omits m ram tags) (book_accepted m (zeros m) ram tags ty f.0)
