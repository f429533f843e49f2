-- What a record that is not refused says: its capability fits, general register 0 is not named, its line holds a capability that fits.
-- Assumes nothing.
use Prim.Native.Nat.{ℕ, ◌+◌, ◌-◌, ◌%◌, ◌^◌, ◌≤◌}
use mathlib.Core.Path.{◌≡◌, subst}
use mathlib.Core.Bool.{Bool, true, ◌&&◌}
use mathlib.Core.List.{List, ◌++◌}
use native.Mathlib.Omega.{arith}
use borrow.Author.Tests.{lt-ltb}
use lib.Dec.{eqb, ltb}
use lib.ListN.{length, take, drop, length-take, length-drop}
use lib.Seq.{drop-drop, drop_at, take-add, take-take, length-take-le}
use Rattle.manual.specs.declared.Cap.{Cap}
use Rattle.manual.specs.Line.{cap_in}
use Rattle.manual.specs.Accept.{top_fits, loaded_fits, width_fits}
use Rattle.pages.specs.declared.Entry.{Entry}
use Rattle.pages.specs.Record.{byte, number}
use Rattle.pages.specs.Entry.{entry_of}
use Rattle.pages.proofs.Entries.{Said, by_kind}
use Rattle.pages.specs.Fields.{cap_of}
use Rattle.pages.specs.Book.{more, step_at}
use Rattle.pages.proofs.Walks.{more_goes_on, more_fits}

-- neither 22 nor 24
pub record Fit (c : Cap) : Type 0 where
  pub top : top_fits c ≡ true
  pub width : width_fits c ≡ true

pub record LineSays (bytes : List ℕ) (address : ℕ) (tag : Bool) : Type 0 where
  pub aligned : address % 32 ≡ 0
  pub fits : loaded_fits (cap_in tag bytes) ≡ true

-- these are the bytes of the line, if it says a line
abbrev pub Says : List ℕ → Entry → Type 0
Says bytes (Entry.Capability i c) = Fit c
Says bytes (Entry.General i v) = 1 ≤ i
Says bytes (Entry.Line address tag) = LineSays bytes address tag

width : (p o : ℕ) → (ltb (p % 2 ^ 31) (2 ^ 31) && ltb (o % 2 ^ 24) (2 ^ 24)) ≡ true
width p o = rw (lt-ltb (p % 2 ^ 31) (2 ^ 31) (omega arith), lt-ltb (o % 2 ^ 24) (2 ^ 24) (omega arith))

-- the last 32 of a body's 42 bytes, seen from the record's end
tail : (book : List ℕ) (start bytes x : ℕ) → start + bytes ≡ x → x ≤ length book → length (take bytes (drop start book)) ≡ 42
    → take 32 (drop 10 (take bytes (drop start book))) ≡ take 32 (drop (x - 32) book)
tail book start bytes x z h e =
    let l = drop start book in
    let n : bytes ≡ 42 = omega (arith, length-take bytes l, length-drop start book) in
    let k : x - 32 ≡ start + 10 = omega arith in
    let s : take 42 l ≡ take 10 l ++ take 32 (drop 10 l) = take-add 10 32 l in
    rw (n, s, k, drop_at (take 10 l) (take 32 (drop 10 l)) 10 (length-take-le 10 l (rw (length-drop start book) (omega arith))), take-take 32 32 (drop 10 l) (omega arith), drop-drop 10 start book)

entry_says : (body bytes : List ℕ) (ram : ℕ) → (length body ≡ 42 → take 32 (drop 10 body) ≡ bytes) → Said (Says bytes) (entry_of body ram)
unfolding cap_of
entry_says body bytes ram last =
    by_kind (Said (Says bytes)) body ram tt tt tt tt
    (λ _ t. record { top = t; width = width (number body 8 4) (number body 5 3) })
    (λ h _. h)
    (λ l g. record { aligned = l.aligned; fits = subst (λ (x : List ℕ). loaded_fits (cap_in (eqb (byte body 9) 1) x) ≡ true) (last l.bytes) g })

-- a record of the walk, with the bytes that are put if it is a line's
pub more_says : (book : List ℕ) (ram at kind key x : ℕ) (e : Entry) → more x e ≡ step_at book ram at kind key → Says (take 32 (drop (x - 32) book)) e
more_says book ram at kind key x e q =
    let g = more_goes_on book ram at kind key x e q in
    let bytes = take 32 (drop (x - 32) book) in
    subst (Said (Says bytes)) g.says
    (entry_says (take g.bytes (drop g.start book)) bytes ram (tail book g.start g.bytes x g.ends (more_fits book ram at kind key x e q).1))
